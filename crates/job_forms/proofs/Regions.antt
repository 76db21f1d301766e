-- What was being made of no row and no call is made.
use Rattle.std.proofs.Common.{ℕ, List, [], arith}
use Rattle.std.specs.Prelude.{Result, Ok, Err}
use Rattle.std.specs.declared.alloc.AllocError.{AllocError}
use Rattle.csr_store.specs.Run.{Row}
use Rattle.bpf_run.specs.Calls.{Call}
use Rattle.job_forms.specs.declared.region.Making.{Making}
use Rattle.job_forms.specs.Region.{IsMade, Adds, nothing_made, finished}

pub made-of_nothing : (first columns : ℕ) (rows : List Row) (calls : List Call) (new : Making) (filled : Result (Unit {0}) AllocError)
    → Adds rows calls (nothing_made first columns) new filled
    → IsMade (record { first = first; columns = columns; ended = rows; opened = [] }) calls (finished new filled)
made-of_nothing first columns rows calls new (Ok x) a = record { rows = a.rows; steps = (let e = a.steps in omega arith); spent = tt }
made-of_nothing first columns rows calls new (Err e) a = record { rows = tt; steps = tt; spent = a.spent }
