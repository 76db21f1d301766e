-- The entries of rows that are called one after another, whichever rows they are in. This project's own.
use Rattle.std.specs.Prelude.{◌≡◌, ℕ, ◌-◌, List, [], ◌++◌, Bool, false}
use Rattle.bpf_insn.specs.declared.operands.Kind.{Kind}
use Rattle.bpf_insn.specs.declared.operands.Operands.{Operands}
use Rattle.csr_store.specs.Grid.{Grid, row_of}
use Rattle.csr_store.specs.Along.{along}
use Rattle.csr_store.specs.Reading.{Reading}
use Rattle.csr_store.specs.Run.{Row}
use Rattle.bpf_run.specs.Calls.{Gathered, entries_of}

-- calls of a kind may be gathered, and none waits
pub record NoneWaits (kind : Kind) (g : Gathered) : Type 0 where
  pub begun : g.kind ≡ kind
  pub none : g.operands ≡ []

-- the calls for the cells of row i and those after it, n rows
abbrev pub entries_along : Grid → ℕ → ℕ → ℕ → List Operands
entries_along a thunk i n = along (λ k. entries_of k thunk (row_of a k)) i n

-- and for those of the rows that are still to be read, up to an end
abbrev pub entries_up_to : ℕ → ℕ → Reading → List Operands
entries_up_to end thunk r = entries_along r.grid thunk r.row (end - r.row)

-- and for those that are left of a row, and the rows from another on up to an end
abbrev pub index_calls : Grid → ℕ → ℕ → Row → ℕ → ℕ → List Operands
index_calls a thunk row left next end = entries_of row thunk left ++ entries_along a thunk next (end - next)

-- the first of those that came are gathered; where there were none, none is left
pub record Gathers (old : List Operands) (was : Gathered) (new : List Operands) (is : Gathered) (some : Bool) : Type 0 where
  pub kind : is.kind ≡ was.kind
  pub parts : old ≡ is.operands ++ new
  pub over : some ≡ false → new ≡ []
