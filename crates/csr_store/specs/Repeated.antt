-- The positions that two or more entries of a list have, each with a mark once an entry was met there. This project's own.
use Rattle.std.specs.Prelude.{◌≡◌, ℕ, suc, nat_le, if◌then◌else◌, Bool, false, nat_eq, List, [], ◌∷◌, Option, None, Some}
use Rattle.std.specs.Ordering.{eq_by_cmp}
use Rattle.std.specs.Coded.{Coded, coded×, coded_ℕ}
use Rattle.std.specs.FinMap as fin
use Rattle.csr_store.specs.Grid.{Position, Entry, pos_cmp}

-- positions, each with 1 once it was met, and with 0 before
abbrev pub Marks : Type 0
Marks = fin.FinMap pos_cmp ℕ

abbrev pub marks_code : Coded Marks
marks_code = fin.code {R = pos_cmp} (coded× coded_ℕ coded_ℕ) coded_ℕ

-- how many entries have a position
abbrev pub times : Position → List Entry → ℕ
times p [] = 0
times p (e ∷ es) = if eq_by_cmp pos_cmp p e.0 then suc (times p es) else times p es

-- the mark of a position that so many entries have, so many of which were met: it has one if two or more have it
abbrev pub mark_of : ℕ → ℕ → Option ℕ
mark_of all met = if nat_le 2 all then Some (if nat_le 1 met then 1 else 0) else None

-- exactly the positions that two or more entries of a list have, of which these entries were met
abbrev pub AreRepeats : List Entry → List Entry → Marks → Type 0
AreRepeats es met marks = (p : Position) → fin.get marks p ≡ mark_of (times p es) (times p met)

-- it was met
abbrev pub is_met : Option ℕ → Bool
is_met None = false
is_met (Some mark) = nat_eq mark 1

-- what becomes of the mark of position p when an entry at position q is met
abbrev pub met_at : Position → Position → Option ℕ → Option ℕ
met_at q p None = None
met_at q p (Some mark) = Some (if eq_by_cmp pos_cmp p q then 1 else mark)
