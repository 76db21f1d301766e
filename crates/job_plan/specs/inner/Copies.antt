-- Which copy is whose, among the copies of a batch's columns. This project's own.
use Rattle.std.specs.Prelude.{◌≡◌, ◌≢◌, ◌≤◌, ◌<◌, ℕ, ◌+◌, List, [], ◌∷◌, Option, None, Some, IfSome, length, get_or, slice_get}
use Rattle.std.specs.List.{Contains}
use Rattle.csr_store.specs.Column.{column_of}
use Rattle.csr_store.specs.Grid.{Grid}
use Rattle.job_plan.specs.declared.columns.Found.{Found}
use Rattle.job_plan.specs.declared.columns.Found.TheVariants.{At, Nowhere, Unknown}
use Rattle.job_plan.specs.Job.{Job}
use Rattle.job_plan.specs.Copies.{factor_of, copy_words, cell_words, AreCopies}

-- no copy is of this column
abbrev pub IsNew : List Grid → Grid → Type 0
IsNew copies g = (k : ℕ) (d : Grid) → k < length copies → get_or copies k d ≢ g

-- the copy at an index is as good as one of this column
pub record IsAt (copies : List Grid) (p : ℕ) (g : Grid) : Type 0 where
  pub copy : Grid
  pub there : slice_get copies p ≡ Some copy
  pub same : column_of copy ≡ column_of g

-- what a search for a copy may answer
abbrev pub IsFound : List Grid → Grid → Found → Type 0
IsFound copies g (At p) = IsAt copies p g
IsFound copies g Nowhere = IsNew copies g
IsFound copies g Unknown = Unit {0}

-- one copy more takes no more words than what it is of
abbrev pub FitsBehind : List Grid → Grid → Type 0
FitsBehind [] g = copy_words g ≤ g.rows + 1 + cell_words g
FitsBehind (c ∷ cs) g = copy_words g ≤ cell_words g

-- the copy at an index is for this job
pub record IsFor (copies : List Grid) (p : ℕ) (job : Job) : Type 0 where
  pub factor : Grid
  pub by : factor_of job.form ≡ Some factor
  pub at : IsAt copies p factor

-- a job finds or makes its copy, or goes without: copies that were there stay, and a new one keeps the rules
pub record Adds (before after : List Grid) (job : Job) (nth : Option ℕ) : Type 0 where
  pub copied : (jobs : List Job) → Contains jobs job → AreCopies jobs before → AreCopies jobs after
  pub unchanged : (p : ℕ) (g : Grid) → slice_get before p ≡ Some g → slice_get after p ≡ Some g
  pub given : IfSome nth (λ p. IsFor after p job)

-- the copies of a batch, and for each job the index of its own, if it has one
pub record AreFor (jobs : List Job) (copies : List Grid) (places : List (Option ℕ)) : Type 0 where
  pub copied : AreCopies jobs copies
  pub each : (k p : ℕ) → get_or places k None ≡ Some p → (job : Job) × (slice_get jobs k ≡ Some job) × IsFor copies p job
