use Rattle.std.proofs.Common.{List, subst}
use Rattle.std.specs.Arc.{arc_value}
use Rattle.csr_store.specs.Grid.{Grid}
use Rattle.job_plan.specs.inner.Copies.{IsAt, IsNew}
use Rattle.job_plan.proofs.Copies.{adds_found, adds_new}
use Rattle.job_plan.proofs.columns.place_for.Goals as goal

pub returns-in-At : goal.returns-in-At
returns-in-At c =
    let g = arc_value c.in-Some.column.now in
    adds_found c.args.copies.now.items g c.args.priced.now c.in-At.nth c.in-Some.ensures
    (subst (λ (gs : List Grid). IsAt gs c.in-At.nth g) c.deref.ensures.value
    (subst (λ (h : Grid). IsAt c.deref.result.now c.in-At.nth h) c.deref-2.ensures c.in-At.ensures))

pub returns-in-Nowhere : goal.returns-in-Nowhere
returns-in-Nowhere c =
    let g = arc_value c.in-Some.column.now in
    adds_new c.args.copies.now.items c.add.new.copies.items g c.args.priced.now c.add.result c.in-Some.ensures
    (subst (λ (gs : List Grid). IsNew gs g) c.deref.ensures.value
    (subst (λ (h : Grid). IsNew c.deref.result.now h) c.deref-2.ensures c.in-Nowhere.ensures))
    c.add.ensures
