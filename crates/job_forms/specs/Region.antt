-- What is computed of a part of a result: rows of a range, under a structural mask (GraphBLAS C API Specification 2.0, "Masks"),
-- with the steps of the calls. That calls have steps, and what running out of memory leaves, is this project's own.
use Rattle.std.specs.Prelude.{◌≡◌, ◌≤◌, ◌+◌, ◌-◌, ◌⊎◌, ◌++◌, ℕ, List, [], Option, None, Some}
use Rattle.std.specs.Prelude.{Result, Ok, Err, IfOk, OnOk, OnErr}
use Rattle.std.specs.declared.alloc.AllocError.{AllocError}
use Rattle.csr_store.specs.Along.{along}
use Rattle.csr_store.specs.Grid.{Grid, Position, row_of}
use Rattle.csr_store.specs.Mask.{HasShape, mask_of, rows_under, all_listed_under}
use Rattle.csr_store.specs.Run.{Row, Run}
use Rattle.bpf_run.specs.Calls.{Call, steps_of, Charges}
use Rattle.job_forms.specs.declared.region.Region.{Region}
use Rattle.job_forms.specs.declared.region.Chunk.{Chunk}
use Rattle.job_forms.specs.declared.region.Making.{Making}

-- a matrix has no entry in the rows from `first` on, n of them, or the mask stores nothing there
abbrev pub AreBlankUnder : Option Grid → Grid → ℕ → ℕ → Type 0
AreBlankUnder None a first n = along (row_of a) first n ≡ []
AreBlankUnder (Some mask) a first n = (along (row_of a) first n ≡ []) ⊎ (along (row_of mask) first n ≡ [])

-- the region is one of a result of so many rows and columns
pub record IsRegion (rows columns : ℕ) (region : Region) : Type 0 where
  pub mask : HasShape rows columns (mask_of region.mask)
  pub range : region.range.start ≤ region.range.end
  pub within : region.range.end ≤ rows

-- a run of rows with the steps of all calls; or, out of memory, the steps of some of the calls, each taken at most once
pub record IsMade (run : Run) (calls : List Call) (chunk : Chunk) : Type 0 where
  pub rows : IfOk chunk.result (λ r. r ≡ run)
  pub steps : OnOk chunk.result (chunk.steps ≡ steps_of calls)
  pub spent : OnErr chunk.result (Charges calls 0 chunk.steps)

-- the rows of a region of a result of so many columns, which is defined position by position, as are the calls for it
abbrev pub IsPartOf : ℕ → (Position → Option ℕ) → (Position → List Call) → Region → Chunk → Type 0
IsPartOf columns values calls region chunk =
    let first = region.range.start in
    let count = region.range.end - first in
    IsMade
    (record { first = first; columns = columns; ended = rows_under (mask_of region.mask) columns values first count; opened = [] })
    (all_listed_under (mask_of region.mask) columns calls first count) chunk

-- rows are added, with the steps of the calls for them; or, out of memory, the steps of some of these calls
pub record Adds (added : List Row) (calls : List Call) (old new : Making) (filled : Result (Unit {0}) AllocError) : Type 0 where
  pub rows : OnOk filled (new.rows ≡ record old.rows { ended = old.rows.ended ++ added })
  pub steps : OnOk filled (new.steps ≡ old.steps + steps_of calls)
  pub spent : OnErr filled (Charges calls old.steps new.steps)

-- nothing is computed yet
abbrev pub nothing_made : ℕ → ℕ → Making
nothing_made first columns = record { rows = record { first = first; columns = columns; ended = []; opened = [] }; steps = 0 }

-- the finished rows as a chunk, unless memory was refused
abbrev pub finished : Making → Result (Unit {0}) AllocError → Chunk
finished making (Ok x) = record { result = Ok making.rows; steps = making.steps }
finished making (Err e) = record { result = Err e; steps = making.steps }
