-- Copies of columns, of which a product by one column reads the words. This project's own.
use Rattle.std.specs.Prelude.{◌≡◌, ◌≢◌, ◌≤◌, ℕ, ◌+◌, ◌*◌, ◌/◌, List, [], ◌∷◌, Option, None, Some, All, sum_by}
use Rattle.std.specs.List.{AllPairs, Contains}
use Rattle.std.specs.FinMap as fin
use denote.Ref.{Bor}
use Rattle.csr_store.specs.Column.{IsCopyOf}
use Rattle.csr_store.specs.Grid.{Grid}
use Rattle.job_plan.specs.Costing.{costing}
use Rattle.job_plan.specs.Job.{Job, Form, Apply, Select, Union, Both, Product, Reduce}
use Rattle.job_plan.specs.Price.{price_of}

-- what is lent for a product as a copy of its second operand is one, if anything is lent
abbrev pub IsCopyFor : Form → Option (Bor (List (Option ℕ))) → Type 0
IsCopyFor (Apply f thunk a) lent = Unit {0}
IsCopyFor (Select f thunk a) lent = Unit {0}
IsCopyFor (Union f a b) lent = Unit {0}
IsCopyFor (Both f a b) lent = Unit {0}
IsCopyFor (Product add mul a b) lent = IsCopyOf b lent
IsCopyFor (Reduce f a) lent = Unit {0}

-- the second operand of a product
abbrev pub factor_of : Form → Option Grid
factor_of (Apply f thunk a) = None
factor_of (Select f thunk a) = None
factor_of (Union f a b) = None
factor_of (Both f a b) = None
factor_of (Product add mul a b) = Some b
factor_of (Reduce f a) = None

-- a job is a product by this column, and pays for at least as many multiplications as the column has rows
pub record IsBy (g : Grid) (job : Job) : Type 0 where
  pub factor : factor_of job.form ≡ Some g
  pub column : g.columns ≡ 1
  pub pays : g.rows * (costing job.form).round ≤ price_of job

-- how many words a copy takes: one a row, and a bit
abbrev pub copy_words : Grid → ℕ
copy_words g = g.rows + (g.rows + 63) / 64

-- how many words a matrix's cells take: two each
abbrev pub cell_words : Grid → ℕ
cell_words g = 2 * fin.len g.cells

-- how many words matrices take at least: their cells, and where the rows of the first one start, which the others may share
abbrev pub held_words : List Grid → ℕ
held_words [] = 0
held_words (g ∷ gs) = g.rows + 1 + sum_by cell_words (g ∷ gs)

-- of these columns a batch has copies: of none two, only where a job pays for it, and together no larger than the columns
pub record AreCopies (jobs : List Job) (columns : List Grid) : Type 0 where
  pub once : AllPairs (λ g h. g ≢ h) columns
  pub paid : All (λ g. (job : Job) × Contains jobs job × IsBy g job) columns
  pub small : sum_by copy_words columns ≤ held_words columns
