use Rattle.std.proofs.Common.{◌≡◌, ◌≤◌, ◌<◌, ℕ, true, length}
use Rattle.csr_store.specs.Grid.{row_of}
use Rattle.entry_ops.proofs.pairs.are_as_long.Given as goal

abbrev pub invariant-loop-i : goal.invariant-loop-i
invariant-loop-i l = l.same ≡ true → (k : ℕ) → l.fn.range.start ≤ k → k < l.i → length (row_of l.a k) ≡ length (row_of l.b k)
