-- What is said of a text that gives a position again, while its lines are read once more. This project's own.
use Rattle.std.specs.Prelude.{◌≡◌, ◌≤◌, ◌+◌, ℕ, false, nat_lt, List, [], ◌∷◌, ◌++◌, length, Ok}
use Rattle.std.specs.List.{AllByRecursion}
use Rattle.std.specs.Str.Lines.{lines}
use Rattle.csr_store.specs.Grid.{Entry}
use Rattle.csr_store.specs.Listed.{Listed, NoneTwice}
use Rattle.csr_store.specs.Repeated.{Marks, AreRepeats}
use Rattle.matrix_market.specs.declared.kinds.Header.{Header}
use Rattle.matrix_market.specs.declared.kinds.Found.{Found}
use Rattle.matrix_market.specs.declared.cursor.Cursor.{Cursor}
use Rattle.text_words.specs.Words.{words}
use Rattle.matrix_market.specs.Market.{is_skipped, entry_words}
use Rattle.matrix_market.specs.inner.Answers.{IsIdle, entry_answer, spots}
use Rattle.matrix_market.specs.inner.Gathering.{IsRead, Taken, with_word}

-- a list was read from here on, of which these positions repeat
pub record IsRepeating (h : Header) (start : Cursor) (marks : Marks) : Type 0 where
  pub list : Listed
  pub read : IsRead h start list
  pub twice : NoneTwice list.entries → ⊥
  pub repeats : AreRepeats list.entries [] marks

-- what a line gives: its entry and, in a symmetric matrix, the mirror
abbrev pub own_entries : Header → Found → List Entry
own_entries h f = with_word (spots h.banner.symmetric f) f.word

-- of these entries the first were met, none of which has the position of another, and these are left
pub record HaveMet (entries done left : List Entry) (marks : Marks) : Type 0 where
  pub split : entries ≡ done ++ left
  pub repeats : AreRepeats entries done marks
  pub once : NoneTwice done

-- the next entry line of a text says this, and this follows it
pub record IsEntry (h : Header) (cursor : Cursor) (f : Found) (behind : Cursor) : Type 0 where
  pub between : List (List ℕ)
  pub line : List ℕ
  pub split : lines cursor.rest.now ≡ between ++ line ∷ lines behind.rest.now
  pub idle : AllByRecursion IsIdle between
  pub content : is_skipped line ≡ false
  pub short : nat_lt 1024 (length line) ≡ false
  pub answer : Ok f ≡ entry_answer h.size (entry_words h.banner.pattern (words line))
  pub at_is : behind.at ≡ cursor.at + length between + 1
  pub shorter : behind.at + length behind.rest.now ≤ cursor.at + length cursor.rest.now

-- a text has no next entry line
abbrev pub LacksEntry : Header → Cursor → Type 0
LacksEntry h cursor = (es : List Entry) → Taken h.banner h.size cursor.rest.now es → ⊥
