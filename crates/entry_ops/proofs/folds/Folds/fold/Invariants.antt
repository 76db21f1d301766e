use Rattle.std.proofs.Common.{◌≡◌, ◌<◌, ◌≤◌, ◌+◌, ◌-◌, ◌^◌, [], length}
use Rattle.bpf_insn.specs.declared.operands.Kind.TheVariants as kinds
use Rattle.csr_store.specs.Mask.{mask_of, all_listed_under}
use Rattle.bpf_run.specs.Calls.{steps_of}
use Rattle.job_forms.specs.Forms.{reduce_calls_at}
use Rattle.entry_ops.specs.inner.Folding.{IsFolding}
use Rattle.entry_ops.proofs.folds.Folds.fold.Given as goal

abbrev pub invariant-loop-block : goal.invariant-loop-block
invariant-loop-block l = record {
  begun : l.calls.kind ≡ kinds.Binary;
  none : l.calls.operands ≡ [];
  few : length l.self.results ≤ l.block.many;
  all : length l.self.lanes < 64 → length l.self.results ≡ l.block.many;
  folding : IsFolding l.operator l.a (mask_of l.mask) l.block.first l.block.many
      (l.fn.self.steps + steps_of (all_listed_under (mask_of l.mask) 1 (reduce_calls_at l.operator l.a) l.block.first
      l.block.many)) l.self;
}

abbrev pub decreases-loop-block : goal.decreases-loop-block
decreases-loop-block l = 2 ^ 64 - l.self.steps
