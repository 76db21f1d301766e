-- What a job computes, cut to its mask: its matrix, row by row and position by position, and its calls, by
-- ascending position. GraphBLAS C API Specification 2.0, "Masks" and "Operations"; steps and bounds are this project's own.
use Rattle.std.specs.Prelude.{◌≡◌, ℕ, List, Option}
use Rattle.std.specs.FinMap as fin
use Rattle.csr_store.specs.Grid.{Grid, IsGrid, IsInside, Position}
use Rattle.csr_store.specs.Run.{Row}
use Rattle.csr_store.specs.Mask.{cut, rows_under, all_listed_under}
use Rattle.bpf_run.specs.Calls.{Call, steps_of, bound_of}
use Rattle.job_plan.specs.Job.{Job}
use Rattle.job_plan.specs.Forms.{operation}

-- the sizes of its matrix
abbrev pub row_count : Job → ℕ
row_count job = (operation job.form).rows

abbrev pub column_count : Job → ℕ
column_count job = (operation job.form).columns

-- the entry at a position inside these sizes
abbrev pub value_at : Job → Position → Option ℕ
value_at job at = cut job.mask (operation job.form).value_at at

-- its matrix, which has no entry elsewhere
pub record IsMatrixOf (job : Job) (g : Grid) : Type 0 where
  pub grid : IsGrid g
  pub rows : g.rows ≡ row_count job
  pub columns : g.columns ≡ column_count job
  pub values : (at : Position) → IsInside g at → fin.get g.cells at ≡ value_at job at

-- the rows of its matrix from `first` on, n of them
abbrev pub rows_in : Job → ℕ → ℕ → List Row
rows_in job first n = rows_under job.mask (column_count job) (operation job.form).value_at first n

-- the calls for these rows
abbrev pub calls_in : Job → ℕ → ℕ → List Call
calls_in job first n = all_listed_under job.mask (column_count job) (operation job.form).calls_at first n

-- the steps that these take, and the lengths of their operators added up
abbrev pub steps_in : Job → ℕ → ℕ → ℕ
steps_in job first n = steps_of (calls_in job first n)

abbrev pub bound_in : Job → ℕ → ℕ → ℕ
bound_in job first n = bound_of (calls_in job first n)

-- the same of the whole job
abbrev pub steps_of_job : Job → ℕ
steps_of_job job = steps_in job 0 (row_count job)

abbrev pub bound_of_job : Job → ℕ
bound_of_job job = bound_in job 0 (row_count job)
