use Rattle.std.proofs.Common.{◌≤◌, ◌+◌, ◌∙◌, ap, sym, refl, arith, rules}
use Rattle.csr_store.specs.Mask.{mask_of}
use Rattle.bpf_run.specs.Calls.{steps_of}
use Rattle.bpf_run.proofs.Charging.{charges-none}
use Rattle.job_forms.specs.declared.region.Making.{Making}
use Rattle.entry_ops.specs.inner.Folding.{Folding}
use Rattle.entry_ops.proofs.Standing.{on_err}
use Rattle.entry_ops.proofs.Reducing.{all_calls, reducing-start, reducing-room, reducing-step, reducing-stop, reducing-end}
use Rattle.entry_ops.proofs.reduce.fill_in_blocks.Goals as goal

pub returns-in_err-folds : goal.returns-in_err-folds
returns-in_err-folds c = record {
  rows = search rules;
  steps = search rules;
  spent = on_err c.from_residual.result (charges-none _ _);
}

pub loop-first-init : goal.loop-first-init
loop-first-init c = record {
  reducing = reducing-start c.args.operator.now c.args.a.now (mask_of c.args.region.mask) c.args.region.range.start
      c.args.region.range.end
      c.args.making.now c.args.making.now c.requires.can.region_is.range c.requires.can.begun refl refl;
  counted = ap (λ (e : Folding). e.steps) c.in_ok-folds.ensures ∙ sym (ap (λ (m : Making). m.steps) c.requires.can.begun);
}

pub fold-requires : goal.fold-requires
fold-requires c =
    let within : c.loop-first.first + c.min-many.result ≤ c.args.region.range.end = let m = c.min-many.ensures in let t =
    c.loop-first-test.true in omega (arith, m, t) in
    let capacity = reducing-room _ _ _ _ _ _ _ _ c.loop-first.invariant.reducing c.min-many.result within
    c.requires.can.begun c.requires.can.capacity in
    let same = c.loop-first.invariant.counted in
    let all = c.requires.can.region_is.within in
    let few = c.min-many.ensures in
    record {
      kind = c.requires.can.kind;
      accepted = c.requires.accepted;
      block_is = record { fits = omega (arith, within); within = omega (arith, within, all); few = omega (arith, few) };
      capacity = omega (arith, capacity, same);
    }

pub returns-in_err-add_to : goal.returns-in_err-add_to
returns-in_err-add_to c =
    let within : c.loop-first.first + c.min-many.result ≤ c.args.region.range.end = let m = c.min-many.ensures in let t =
    c.loop-first-test.true in omega (arith, m, t) in
    record {
      rows = search rules;
      steps = search rules;
      spent = on_err c.from_residual-in_err-add_to.result
          (reducing-stop _ _ _ _ _ _ _ _ c.loop-first.invariant.reducing c.min-many.result within c.steps-making.result
          (c.steps-making.ensures ∙ (c.fold.ensures.steps
          ∙ ap (λ n. n + steps_of (all_calls c.args.operator.now c.args.a.now (mask_of c.args.region.mask) c.loop-first.first
          c.min-many.result))
          c.loop-first.invariant.counted)));
    }

pub loop-first-preserved : goal.loop-first-preserved
loop-first-preserved c =
    let within : c.loop-first.first + c.min-many.result ≤ c.args.region.range.end = let m = c.min-many.ensures in let t =
    c.loop-first-test.true in omega (arith, m, t) in
    record {
      reducing = reducing-step _ _ _ _ _ _ _ _ c.loop-first.invariant.reducing c.min-many.result within
          c.steps-making.result
          (c.steps-making.ensures ∙ (c.fold.ensures.steps
          ∙ ap (λ n. n + steps_of (all_calls c.args.operator.now c.args.a.now (mask_of c.args.region.mask) c.loop-first.first
          c.min-many.result))
          c.loop-first.invariant.counted))
          c.fold.new.self.results c.fold.ensures.results c.add_to.new.rows c.in_ok-add_to.ensures;
      counted = sym c.steps-making.ensures;
    }

pub returns : goal.returns
returns c = reducing-end _ _ _ _ _ _ _ _ c.loop-first.invariant.reducing
    (let t = c.loop-first-test.false in omega (arith, t)) _
