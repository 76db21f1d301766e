use Rattle.std.proofs.Common.{◌-◌, ◌<◌, ◌^◌, ap, sym, subst, ◌∙◌, arith}
use Rattle.bpf_run.specs.Calls.{calls_on, values_on, steps_of, words_of}
use Rattle.csr_store.specs.Run.{Run}
use Rattle.csr_store.specs.Valued.{AreAlike, all_cells, valued_from}
use Rattle.entry_ops.proofs.Applying.{applied-calls, applied-few, applied-rows}
use Rattle.entry_ops.proofs.shown.apply_shown.Goals as goal

pub returns-in-Err : goal.returns-in-Err
returns-in-Err c = c.refused.ensures _ _

pub call_words-steps-requires-clause-few : goal.call_words-steps-requires-clause-few
call_words-steps-requires-clause-few c =
    let f = c.args.operator.now in
    let w = c.requires.rows.within in
    subst (λ r. steps_of (calls_on f (words_of (all_cells r))) < 2 ^ 64) (sym c.in-Ok.ensures)
    (applied-few f c.args.masked.a.now c.args.masked.mask.now c.recall-2.ensures c.requires.kind c.recall.ensures c.args.range.start
    (c.args.range.end - c.args.range.start) (omega (arith, w)))

pub returns : goal.returns
returns c =
    let f = c.args.operator.now in
    let a = c.args.masked.a.now in
    let mask = c.args.masked.mask.now in
    let first = c.args.range.start in
    let n = c.args.range.end - first in
    let done = c.call_words-steps in
    record {
      rows = applied-rows f a mask c.recall-2.ensures first n done.new.rows
          (subst (λ (r : Run). AreAlike r done.new.rows) c.in-Ok.ensures done.ensures.alike)
          (done.ensures.values
          ∙ ap (λ (r : Run). valued_from 0 (values_on f (words_of (all_cells r))) (all_cells r)) c.in-Ok.ensures);
      steps = done.ensures.steps
          ∙ (ap (λ (r : Run). steps_of (calls_on f (words_of (all_cells r)))) c.in-Ok.ensures
          ∙ sym (ap steps_of (applied-calls f a mask c.recall-2.ensures first n)));
      spent = tt;
    }
