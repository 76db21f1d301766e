-- A row of A with one entry: the row of B that it names, as far as it passes, each word multiplied. This project's own.
use Rattle.std.specs.Prelude.{◌≡◌, ◌≤◌, ◌<◌, ◌+◌, ◌*◌, ◌^◌, [], ◌∷◌}
use Rattle.std.specs.Prelude.{ℕ, List, length}
use Rattle.std.specs.List.{AllByRecursion}
use Rattle.bpf_insn.specs.declared.operands.Operands.TheVariants.{Binary}
use Rattle.bpf_verify.specs.Accepted.{Accepted}
use Rattle.bpf_run.specs.Calls.{steps_of, calls_on, pairs_with}
use Rattle.bpf_run.specs.Meaning.{value_of}
use Rattle.csr_store.specs.Ascending.{Ascends}
use Rattle.csr_store.specs.Grid.{Cell, limit, row_of}
use Rattle.job_forms.specs.declared.region.Making.{Making}
use Rattle.row_product.specs.declared.factors.MaskedFactors.{MaskedFactors}
use Rattle.row_product.specs.declared.progress.Progress.{Progress}
use Rattle.row_product.specs.inner.Masked.{AreMasked, IsNext}

-- x times the word of each cell
abbrev pub multiplied : Accepted → ℕ → List Cell → List Cell
multiplied mul x [] = []
multiplied mul x (c ∷ cs) = (c.0, value_of mul (Binary x c.1)) ∷ multiplied mul x cs

-- cells with other words
abbrev pub with_words : List Cell → List ℕ → List Cell
with_words [] ws = []
with_words (c ∷ cs) [] = []
with_words (c ∷ cs) (w ∷ ws) = (c.0, w) ∷ with_words cs ws

-- cells of n columns that may be appended to those of a row
pub record IsBehind (n : ℕ) (row cells : List Cell) : Type 0 where
  pub low : ℕ
  pub below : AllByRecursion (λ (c : Cell). c.0 < low) row
  pub ascends : Ascends low n cells

-- up to 64 such cells may be put, each word multiplied, and the steps can be counted
pub record MayPutProducts (f : MaskedFactors) (cells : List Cell) (making : Making) : Type 0 where
  pub factors : AreMasked f
  pub few : length cells ≤ 64
  pub capacity : making.steps + 8192 * length cells < 2 ^ 64
  pub behind : IsBehind making.rows.columns making.rows.opened cells

-- x was multiplied by each of these cells, and the steps of all these calls are charged
pub record AreCharged (f : MaskedFactors) (x : ℕ) (cells : List Cell) (old new : Making) : Type 0 where
  pub steps : new.steps ≡ old.steps + steps_of (calls_on f.mul.now (pairs_with x cells))
  pub little : new.steps ≤ old.steps + 8192 * length cells

-- row i of A is one entry
pub record IsSole (f : MaskedFactors) (i : ℕ) (c : Cell) : Type 0 where
  pub row : row_of f.a.now i ≡ c ∷ []
  pub named : c.0 < f.b.now.rows

-- and row i of the product is to be added
pub record IsNextSole (f : MaskedFactors) (i : ℕ) (c : Cell) (making : Making) : Type 0 where
  pub next : IsNext f i making
  pub sole : IsSole f i c

-- row k of B may be put, each word multiplied, and the steps can be counted
pub record MayPush (f : MaskedFactors) (k : ℕ) (making : Making) : Type 0 where
  pub factors : AreMasked f
  pub row : k < f.b.now.rows
  pub columns : making.rows.columns ≡ f.b.now.columns
  pub none_open : making.rows.opened ≡ []
  pub capacity : making.steps + 8192 * limit < 2 ^ 64

-- so it may as far as a mask's row stores its columns, and there is a buffer for a part of it
pub record MayPushUnder (f : MaskedFactors) (k : ℕ) (stored : List Cell) (progress : Progress) (making : Making)
    : Type 0 where
  pub push : MayPush f k making
  pub order : Ascends 0 f.b.now.columns stored
  pub capacity : 64 ≤ length progress.passing.items
