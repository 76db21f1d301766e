use Rattle.std.proofs.Common.{inl, inr}
use Rattle.csr_store.specs.Mask.{mask_of}
use Rattle.job_forms.specs.Forms.{union_at, joint_calls_at}
use Rattle.entry_ops.proofs.Nothing.{part_of_blank, blank_at, nothing_passes, union_nothing}
use Rattle.entry_ops.proofs.Positions.{union_is}
use Rattle.entry_ops.proofs.union.union_region.Goals as goal

pub returns : goal.returns
returns c = union_is c.args.operator.now c.args.a.now c.args.region _ c.args.b.now c.merge_region.ensures

pub returns-then-is_blank_under-2 : goal.returns-then-is_blank_under-2
returns-then-is_blank_under-2 c =
    let f = c.args.operator.now in
    let a = c.args.a.now in
    let b = c.args.b.now in
    let mask = mask_of c.args.region.mask in
    let blank = c.is_blank_under-then-is_blank_under.ensures.0 c.if-is_blank_under-2.true in
    part_of_blank a.columns c.columns.result c.columns.ensures.columns (union_at f a b) (joint_calls_at f a b) c.args.region
    c.blank_region.result a (c.is_blank_under.ensures.0 c.if-is_blank_under.true)
    (λ i j l u e. elim (blank_at mask b _ _ i j blank l u) [
      | inl k ↦ union_nothing f a b mask i j e k
      | inr p ↦ nothing_passes mask (union_at f a b) (joint_calls_at f a b) (i, j) p
    ]) c.blank_region.ensures
