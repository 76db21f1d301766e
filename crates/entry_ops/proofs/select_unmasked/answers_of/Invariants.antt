use Rattle.std.proofs.Common.{◌≡◌, [], length}
use Rattle.bpf_insn.specs.declared.operands.Kind.TheVariants as kinds
use Rattle.entry_ops.proofs.Answering.{AreAnswers}
use Rattle.entry_ops.proofs.select_unmasked.answers_of.Given as goal

abbrev pub invariant-loop-index_calls : goal.invariant-loop-index_calls
invariant-loop-index_calls l = record {
  kind : l.calls.kind ≡ kinds.Index;
  none : l.calls.operands ≡ [];
  answers : AreAnswers l.operator l.fn.index_calls l.index_calls l.answers.items l.fn.steps l.steps;
}

abbrev pub decreases-loop-index_calls : goal.decreases-loop-index_calls
decreases-loop-index_calls l = length l.index_calls
