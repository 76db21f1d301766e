use Rattle.std.proofs.Common.{◌≡◌, ◌-◌, ◌∙◌, ap, sym, subst, arith, None, List, [], length, Result, Ok, Err, OnOk, IfOk}
use Rattle.csr_store.specs.Run.{Row, Run}
use Rattle.bpf_run.specs.Calls.{calls_on, values_on, steps_of, Charges}
use Rattle.bpf_run.proofs.Charging.{charges-all}
use Rattle.entry_ops.specs.inner.Forms.{Select}
use Rattle.entry_ops.proofs.Bounds.{few_in_all}
use Rattle.entry_ops.proofs.Standing.{on_err}
use Rattle.entry_ops.proofs.Answering.{length_along, kept_along, calls_along}
use Rattle.entry_ops.proofs.select_unmasked.keep_region.Goals as goal

on_ok : {X E P : Type 0} (r : Result X E) → P → OnOk r P
on_ok (Ok x) p = p
on_ok (Err e) p = tt

pub answers_of-requires-clause-few : goal.answers_of-requires-clause-few
answers_of-requires-clause-few c =
    let r = c.requires.range in let w = c.requires.within in
    let few = few_in_all c.args.operator.now c.recall.ensures
    (Select c.args.thunk) c.args.a.now None None c.args.range.start
    (c.args.range.end - c.args.range.start) c.requires.kind c.recall-2.ensures (omega (arith, r, w)) in
    let s = ap steps_of (ap (calls_on c.args.operator.now) c.of_rows-index_calls.ensures
    ∙ sym (calls_along c.args.operator.now c.args.a.now c.args.thunk c.recall-2.ensures c.args.range.start
    (c.args.range.end - c.args.range.start))) in
    omega (arith, few, s)

pub selected-requires-clause-answers : goal.selected-requires-clause-answers
selected-requires-clause-answers c =
    ap length (c.deref.ensures.value ∙ (c.in-Ok.ensures.answers.0 ∙ ap (values_on c.args.operator.now) c.of_rows-index_calls.ensures))
    ∙ length_along c.args.operator.now c.args.a.now c.args.thunk c.args.range.start (c.args.range.end - c.args.range.start)

pub returns-in-Ok : goal.returns-in-Ok
returns-in-Ok c =
    let s = ap steps_of (ap (calls_on c.args.operator.now) c.of_rows-index_calls.ensures
    ∙ sym (calls_along c.args.operator.now c.args.a.now c.args.thunk c.recall-2.ensures c.args.range.start
    (c.args.range.end - c.args.range.start))) in
    let t = c.in-Ok.ensures.answers.1 in
    record {
      rows = subst (λ (rows : List Row). IfOk c.selected.result
          (λ (r : Run). r ≡ record { first = c.args.range.start; columns = c.args.a.now.columns; ended = rows; opened = [] }))
          (kept_along c.args.operator.now c.args.a.now c.args.thunk c.recall-2.ensures c.args.range.start
          (c.args.range.end - c.args.range.start) c.deref.result.now
          (c.deref.ensures.value ∙ (c.in-Ok.ensures.answers.0 ∙ ap (values_on c.args.operator.now) c.of_rows-index_calls.ensures)))
          c.selected.ensures;
      steps = on_ok c.selected.result (omega (arith, s, t));
      spent = on_err c.selected.result (charges-all _ 0 c.answers_of.new.steps (omega (arith, s, t)));
    }

pub returns-in-Err : goal.returns-in-Err
returns-in-Err c = record {
  rows = tt;
  steps = tt;
  spent = subst (λ cs. Charges cs 0 c.answers_of.new.steps)
      (ap (calls_on c.args.operator.now) c.of_rows-index_calls.ensures
      ∙ sym (calls_along c.args.operator.now c.args.a.now c.args.thunk c.recall-2.ensures c.args.range.start
      (c.args.range.end - c.args.range.start)))
      c.in-Err.ensures.spent;
}
