-- The entries of rows that are called one after another: what comes behind some of them.
use Rattle.std.proofs.Common.{◌≡◌, ◌<◌, ◌+◌, ◌-◌, ℕ, List, ◌++◌, sym, ap, ◌∙◌, append_assoc}
use Rattle.csr_store.specs.Grid.{Grid, row_of}
use Rattle.csr_store.specs.Run.{Row}
use Rattle.csr_store.proofs.Along.{along-next}
use Rattle.bpf_insn.specs.declared.operands.Operands.{Operands}
use Rattle.bpf_run.specs.Calls.{entries_of}
use Rattle.csr_store.specs.Reading.{Reading}
use Rattle.entry_ops.specs.inner.IndexCalls.{entries_along, entries_up_to, index_calls}
use Rattle.entry_ops.proofs.Mapped.{entries_of-append}

-- the next row is read
pub read-next : (end thunk : ℕ) (old new : Reading) (row : Row) → old.row < end → row ≡ row_of old.grid old.row → new ≡ record old { row = old.row + 1 }
    → entries_up_to end thunk old ≡ entries_of old.row thunk row ++ entries_up_to end thunk new
read-next end thunk old new row l e n =
    along-next (λ k. entries_of k thunk (row_of old.grid k)) old.row end l
    ∙ (ap (λ r. entries_of old.row thunk r ++ entries_along old.grid thunk (old.row + 1) (end - (old.row + 1))) (sym e)
    ∙ ap (λ (q : Reading). entries_of old.row thunk row ++ entries_up_to end thunk q) (sym n))

-- the first cells of a row
pub index_calls-parts : (a : Grid) (thunk end i next : ℕ) (left now later : Row) → left ≡ now ++ later
    → index_calls a thunk i left next end ≡ entries_of i thunk now ++ index_calls a thunk i later next end
index_calls-parts a thunk end i next left now later e =
    ap (λ r. index_calls a thunk i r next end) e
    ∙ (ap (λ us. us ++ entries_along a thunk next (end - next)) (entries_of-append i thunk now later)
    ∙ append_assoc (entries_of i thunk now) (entries_of i thunk later) (entries_along a thunk next (end - next)))

-- more is gathered
pub gathered-more : (all was now here rest left : List Operands) → all ≡ was ++ rest → now ≡ was ++ here → rest ≡ here ++ left → all ≡ now ++ left
gathered-more all was now here rest left p g r = p ∙ ap (λ os. was ++ os) r ∙ sym (append_assoc was here left) ∙ ap (λ os. os ++ left) (sym g)
