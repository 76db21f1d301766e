use Rattle.std.proofs.Common.{◌≡◌, ◌-◌, ℕ, false, None, Some, Option, refl, sym, subst, ap}
use Rattle.std.specs.Option.{is_some}
use denote.Ref.{Bor}
use Rattle.csr_store.specs.Grid.{Grid}
use Rattle.csr_store.specs.Mask.{mask_of}
use Rattle.entry_ops.specs.inner.Forms.{Apply}
use Rattle.entry_ops.specs.inner.Walking.{IsFormMade}
use Rattle.entry_ops.proofs.Positions.{apply_is}
use Rattle.job_forms.specs.Forms.{apply_at, apply_calls_at}
use Rattle.entry_ops.proofs.Nothing.{part_of_blank, apply_nothing}
use Rattle.entry_ops.proofs.apply.apply_region.Goals as goal

pub returns : goal.returns
returns c = apply_is c.args.operator.now c.args.a.now c.args.region _ c.args.thunk c.fill_region.ensures

none_there : (mask : Option (Bor Grid)) → is_some mask ≡ false → mask_of mask ≡ None
none_there None h = refl
none_there (Some m) h = absurd (cc)

pub returns-then-is_in_run : goal.returns-then-is_in_run
returns-then-is_in_run c = apply_is c.args.operator.now c.args.a.now c.args.region _ c.args.thunk
    (subst (λ (m : Option Grid). IsFormMade (Apply c.args.thunk) c.args.operator.now c.args.a.now None m c.args.region.range.start
    (c.args.region.range.end - c.args.region.range.start) c.map_region.result) (sym (none_there c.args.region.mask c.if-is_none.ensures))
    c.map_region.ensures)

pub returns-then-is_blank_under : goal.returns-then-is_blank_under
returns-then-is_blank_under c =
    let f = c.args.operator.now in
    let a = c.args.a.now in
    let mask = mask_of c.args.region.mask in
    part_of_blank a.columns c.columns.result c.columns.ensures.columns (apply_at f c.args.thunk a) (apply_calls_at f c.args.thunk a) c.args.region c.blank_region.result a
    (c.is_blank_under.ensures.0 c.if-is_blank_under.true) (λ i j l u e. apply_nothing f c.args.thunk a mask i j e) c.blank_region.ensures

pub returns-then-not-shows_few : goal.returns-then-not-shows_few
returns-then-not-shows_few c =
    let f = c.args.operator.now in
    let a = c.args.a.now in
    let first = c.args.region.range.start in
    let n = c.args.region.range.end - first in
    let chunk = c.apply_shown.result in
    apply_is f a c.args.region _ c.args.thunk
    (subst (λ (t : Option ℕ). IsFormMade (Apply t) f a None (mask_of c.args.region.mask) first n chunk) (sym c.in-Some-None.is-1)
    (subst (λ (m : Option Grid). IsFormMade (Apply None) f a None m first n chunk) (sym (ap mask_of c.in-Some-None.is-0))
    c.apply_shown.ensures))
