use Rattle.std.proofs.Common.{◌-◌, ap, refl, arith}
use Rattle.job_plan.specs.Job.{Job}
use Rattle.job_plan.proofs.Faults.{few_of_rows, fits, price_by_rounds}
use Rattle.job_plan.proofs.job.Job.price_of_rows.Goals as goal

pub overflow_mul-result : goal.overflow_mul-result
overflow_mul-result c =
    let form = ap (λ (j : Job). j.form) c.self.view_is in
    let mask = c.mask.ensures in
    let few = few_of_rows c.args.self.now c.args.range.start c.args.range.end c.requires.passes c.requires.within in
    let small = fits c.rounds.result c.round.result (rw (c.rounds.ensures, form, mask) few) c.round.ensures.few in
    omega (arith, small)

pub returns : goal.returns
returns c =
    let form = ap (λ (j : Job). j.form) c.self.view_is in
    let mask = c.mask.ensures in
    price_by_rounds c.args.self.now c.args.range.start (c.args.range.end - c.args.range.start) c.rounds.result c.round.result
    (rw (c.rounds.ensures, form, mask) refl) (rw (c.round.ensures.round, form) refl)
