use Rattle.std.proofs.Common.{◌∙◌, ◌+◌, ap, arith}
use Rattle.bpf_run.specs.Calls.{Gathered}
use Rattle.bpf_run.proofs.Charging.{charges-none}
use Rattle.entry_ops.proofs.Standing.{on_err}
use Rattle.entry_ops.proofs.Answering.{answers-step, answers-room, answers-stop}
use Rattle.entry_ops.proofs.select_unmasked.answers_of.Goals as goal

pub returns-in_err-answers-clause-spent : goal.returns-in_err-answers-clause-spent
returns-in_err-answers-clause-spent c = on_err c.from_residual.result (charges-none _ _)

pub overflow_add-steps : goal.overflow_add-steps
overflow_add-steps c =
    let r = answers-room c.args.operator.now _ _ c.gather.new.calls.operands _ _ _ _ c.loop-index_calls.invariant.answers
    c.gather.ensures.gathers.parts in
    let s = c.make.ensures.steps in let f = c.requires.few in
    omega (arith, r, s, f)

pub returns-in_err-extend_from_slice-clause-spent : goal.returns-in_err-extend_from_slice-clause-spent
returns-in_err-extend_from_slice-clause-spent c = on_err c.from_residual-in_err-extend_from_slice.result
    (answers-stop c.args.operator.now _ _ c.gather.new.calls.operands _ _ _ _ c.loop-index_calls.invariant.answers
    c.gather.ensures.gathers.parts _
    (ap (λ n. c.loop-index_calls.steps + n) c.make.ensures.steps))

pub loop-index_calls-preserved : goal.loop-index_calls-preserved
loop-index_calls-preserved c = record {
  kind = ap (λ (g : Gathered). g.kind) c.make.ensures.values ∙ (c.gather.ensures.gathers.kind ∙ c.loop-index_calls.invariant.kind);
  none = ap (λ (g : Gathered). g.operands) c.make.ensures.values;
  answers = answers-step c.args.operator.now _ _ c.gather.new.calls.operands _ _ c.values.result.now _ _ _ _
      c.loop-index_calls.invariant.answers c.gather.ensures.gathers.parts
      (c.values.ensures ∙ ap (λ (g : Gathered). g.values) c.make.ensures.values) c.in_ok-extend_from_slice.ensures.items
      (ap (λ n. c.loop-index_calls.steps + n) c.make.ensures.steps);
}
