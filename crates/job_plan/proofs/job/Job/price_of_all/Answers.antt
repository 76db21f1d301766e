use Rattle.std.proofs.Common.{◌≡◌, ◌∙◌, ◌-◌, sym, ap, refl, arith}
use Rattle.std.specs.Arc.{arc_value}
use Rattle.job_plan.specs.Costing.{costing}
use Rattle.csr_store.specs.Along.{summed}
use Rattle.job_plan.specs.Forms.{operation}
use Rattle.job_plan.specs.Job.{Job}
use Rattle.job_plan.specs.Kept.{form_of}
use Rattle.job_plan.specs.Meaning.{row_count}
use Rattle.job_plan.proofs.Faults.{few_of_rows, fits, price_by_product, price_by_rounds}
use Rattle.job_plan.proofs.job.Job.price_of_all.Goals as goal

pub returns-in-Product : goal.returns-in-Product
returns-in-Product c =
    let form = ap (λ (j : Job). j.form) c.self.view_is in
    price_by_product c.args.self.now (arc_value c.in-Product.add) (arc_value c.in-Product.mul) (arc_value c.in-Product.left)
    (arc_value c.in-Product.right) c.args.entries c.round.result (sym form ∙ ap form_of c.in-Product.is) c.requires.entries
    (c.round.ensures.round ∙ ap (λ f. (costing f).round) form)

pub overflow_mul-result-2 : goal.overflow_mul-result-2
overflow_mul-result-2 c =
    let form = ap (λ (j : Job). j.form) c.self.view_is in
    let mask = c.mask.ensures in
    let rows = c.rows.ensures.rows ∙ ap (λ f. (operation f).rows) form in
    let few = few_of_rows c.args.self.now 0 c.rows.result c.requires.passes (omega (arith, rows)) in
    let small = fits c.rounds.result c.round-2.result (rw (c.rounds.ensures, form, mask) few) c.round-2.ensures.few in
    omega (arith, small)

pub returns : goal.returns
returns c =
    let form = ap (λ (j : Job). j.form) c.self.view_is in
    let mask = c.mask.ensures in
    let rows = c.rows.ensures.rows ∙ ap (λ f. (operation f).rows) form in
    let all : c.rows.result - 0 ≡ row_count c.args.self.now = omega (arith, rows) in
    let rounds = (costing c.args.self.now.form).rounds c.args.self.now.mask in
    price_by_rounds c.args.self.now 0 (row_count c.args.self.now) c.rounds.result c.round-2.result
    (rw (c.rounds.ensures, form, mask) refl ∙ ap (summed rounds 0) all) (rw (c.round-2.ensures.round, form) refl)
