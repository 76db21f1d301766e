use Rattle.std.proofs.Common.{◌-◌, None, Option, ap, sym, subst}
use Rattle.csr_store.specs.Grid.{Grid}
use Rattle.csr_store.specs.Mask.{mask_of}
use Rattle.entry_ops.specs.inner.Forms.{Select}
use Rattle.entry_ops.specs.inner.Walking.{IsFormMade}
use Rattle.entry_ops.proofs.Positions.{select_is}
use Rattle.job_forms.specs.Forms.{select_at, select_calls_at}
use Rattle.entry_ops.proofs.Nothing.{part_of_blank, select_nothing}
use Rattle.entry_ops.proofs.apply.select_region.Goals as goal

pub returns : goal.returns
returns c = select_is c.args.operator.now c.args.a.now c.args.region _ c.args.thunk
    (subst (λ (m : Option Grid). IsFormMade (Select c.args.thunk) c.args.operator.now c.args.a.now None m c.args.region.range.start
    (c.args.region.range.end - c.args.region.range.start) c.sift_region.result) (sym (ap mask_of c.in-Some.is))
    c.sift_region.ensures)

pub returns-in_default : goal.returns-in_default
returns-in_default c = select_is c.args.operator.now c.args.a.now c.args.region _ c.args.thunk
    (subst (λ (m : Option Grid). IsFormMade (Select c.args.thunk) c.args.operator.now c.args.a.now None m c.args.region.range.start
    (c.args.region.range.end - c.args.region.range.start) c.keep_region.result) (sym (ap mask_of c.in_default.is))
    c.keep_region.ensures)

pub returns-then-is_blank_under : goal.returns-then-is_blank_under
returns-then-is_blank_under c =
    let f = c.args.operator.now in
    let a = c.args.a.now in
    let mask = mask_of c.args.region.mask in
    part_of_blank a.columns c.columns.result c.columns.ensures.columns (select_at f c.args.thunk a) (select_calls_at f c.args.thunk a) c.args.region c.blank_region.result a
    (c.is_blank_under.ensures.0 c.if-is_blank_under.true) (λ i j l u e. select_nothing f c.args.thunk a mask i j e) c.blank_region.ensures
