use Rattle.csr_store.specs.Mask.{mask_of}
use Rattle.job_forms.specs.Forms.{both_at, joint_calls_at}
use Rattle.entry_ops.proofs.Nothing.{part_of_blank, left_nothing, right_nothing}
use Rattle.entry_ops.proofs.Positions.{both_is}
use Rattle.entry_ops.proofs.union.both_region.Goals as goal
use Rattle.entry_ops.proofs.union.both_region.Goals.{then-is_blank_under-via-then-is_blank_under, then-is_blank_under-via-else-is_blank_under+then-is_blank_under-2}

pub returns : goal.returns
returns c = both_is c.args.operator.now c.args.a.now c.args.region _ c.args.b.now c.merge_region.ensures

pub returns-then-is_blank_under : goal.returns-then-is_blank_under
returns-then-is_blank_under c =
    let f = c.args.operator.now in
    let a = c.args.a.now in
    let b = c.args.b.now in
    let mask = mask_of c.args.region.mask in
    let part = part_of_blank a.columns c.columns.result c.columns.ensures.columns (both_at f a b) (joint_calls_at f a b) c.args.region
    c.blank_region.result in
    elim c.then-is_blank_under.branch [
      | then-is_blank_under-via-then-is_blank_under w ↦
          part a (c.is_blank_under.ensures.0 w.if-is_blank_under.true) (λ i j l u e. left_nothing f a b mask i j e) c.blank_region.ensures
      | then-is_blank_under-via-else-is_blank_under+then-is_blank_under-2 w ↦
          part b (w.is_blank_under-else-is_blank_under.ensures.0 w.if-is_blank_under-2.true)
          (λ i j l u e. right_nothing f a b mask i j e) c.blank_region.ensures
    ]
