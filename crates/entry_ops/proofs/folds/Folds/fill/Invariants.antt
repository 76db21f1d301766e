use Rattle.std.proofs.Common.{◌≡◌, ◌≤◌, ◌-◌, ℕ, length}
use Rattle.bpf_verify.specs.Accepted.{Accepted}
use Rattle.csr_store.specs.Mask.{mask_of}
use Rattle.entry_ops.specs.inner.Folding.{IsFolding}
use Rattle.entry_ops.proofs.folds.Folds.fill.Given as goal

abbrev pub invariant-loop-self : goal.invariant-loop-self
invariant-loop-self l = record {
  few : length l.self.results ≤ l.block.many;
  steps : l.self.steps ≡ l.fn.self.steps;
  folding : (f : Accepted) (total : ℕ) → IsFolding f l.a (mask_of l.mask) l.block.first l.block.many total l.fn.self
      → IsFolding f l.a (mask_of l.mask) l.block.first l.block.many total l.self;
}

abbrev pub decreases-loop-self : goal.decreases-loop-self
decreases-loop-self l = l.block.many - length l.self.results
