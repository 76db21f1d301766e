use Rattle.std.proofs.Common.{◌≤◌, ◌+◌, ◌-◌, ℕ, length, vec_capacity}
use Rattle.csr_store.specs.Ascending.{Ascends}
use Rattle.csr_store.proofs.Showing.{IsShowing}
use Rattle.csr_store.proofs.selected.add_shown.Given as goal

abbrev pub invariant-loop-next : goal.invariant-loop-next
invariant-loop-next l = record {
  few : length l.shown.items ≤ length l.fn.shown.items + l.next;
  beside_few : length l.shown.items ≤ length l.fn.shown.items + l.beside;
  capacity : vec_capacity l.fn.shown ≤ vec_capacity l.shown;
  listed : (n : ℕ) → Ascends 0 n l.cells → Ascends 0 n l.mask
      → IsShowing l.cells l.mask l.fn.shown.items n l.next l.beside l.shown.items;
}

abbrev pub decreases-loop-next : goal.decreases-loop-next
decreases-loop-next l = (length l.cells - l.next) + (length l.mask - l.beside)
