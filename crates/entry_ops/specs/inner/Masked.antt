-- The rows of a matrix under a mask of its shape, of which an operator keeps words. This project's own.
use Rattle.std.specs.Prelude.{ℕ, ◌-◌, ◌≤◌, List, None, Some}
use Rattle.bpf_verify.specs.Accepted.{Accepted}
use Rattle.csr_store.specs.Mask.{HasShape}
use Rattle.csr_store.specs.Run.{Row}
use Rattle.bpf_run.specs.Calls.{Call}
use Rattle.entry_ops.specs.inner.Forms.{Select}
use Rattle.entry_ops.specs.declared.select.Masked.{Masked}
use Rattle.entry_ops.specs.inner.Walking.{form_rows, form_all_calls}

-- the mask has the matrix's shape, which has the rows from one up to another
pub record HasMaskedRows (masked : Masked) (start to : ℕ) : Type 0 where
  pub shape : HasShape masked.a.now.rows masked.a.now.columns (Some masked.mask.now)
  pub range : start ≤ to
  pub within : to ≤ masked.a.now.rows

-- the rows from one up to another of what is selected, and the calls for it
abbrev pub rows_kept : ℕ → Accepted → Masked → ℕ → ℕ → List Row
rows_kept thunk f masked start to = form_rows (Select thunk) f masked.a.now None (Some masked.mask.now) start (to - start)

abbrev pub calls_kept : ℕ → Accepted → Masked → ℕ → ℕ → List Call
calls_kept thunk f masked start to = form_all_calls (Select thunk) f masked.a.now None (Some masked.mask.now) start (to - start)
