-- What a log holds: the lines that wait, and what was counted (this project's own).
use Rattle.std.specs.Prelude.{◌≡◌, [], ◌∷◌, ◌++◌, Bool, true, false, Option, None, Some}
use Rattle.session_log.specs.declared.books.Books.{Books}
use Rattle.session_log.specs.declared.books.NextLine.{NextLine}
use Rattle.session_log.specs.declared.books.NextLine.TheVariants.{Line, Over}
use Rattle.session_log.specs.declared.entry.Entry.{Entry}
use Rattle.session_log.specs.inner.Events.{kind_of, steps_of}
use Rattle.session_log.specs.inner.Telling.{untold_of}
use Rattle.session_log.specs.inner.Untold.{joined, none, one}

-- An entry has a line behind those that wait, which tells what of its kind had none; or it is counted, with its steps, among what
-- has none.
abbrev pub IsEntered : (has_line : Bool) → Entry → (old new : Books) → Type 0
IsEntered true entry old new =
    (new.entries.items ≡ old.entries.items ++ record entry { untold = untold_of old.tally (kind_of entry.event) } ∷ [])
    × (untold_of new.tally (kind_of entry.event) ≡ none)
IsEntered false entry old new =
    (new.entries.items ≡ old.entries.items)
    × (untold_of new.tally (kind_of entry.event) ≡ joined (untold_of old.tally (kind_of entry.event)) (one (steps_of entry.event)))

-- The first line, where one waits; else that no more come, or nothing yet.
abbrev pub IsTaken : Option NextLine → (old new : Books) → Type 0
IsTaken (Some (Line entry)) old new = (old.entries.items ≡ entry ∷ new.entries.items) × (new.tally ≡ old.tally)
IsTaken (Some Over) old new = (old.entries.items ≡ []) × (old.is_over ≡ true)
IsTaken None old new = (old.entries.items ≡ []) × (old.is_over ≡ false)
