use Rattle.std.proofs.Common.{◌-◌, arith, refl}
use Rattle.csr_store.specs.Mask.{mask_of}
use Rattle.entry_ops.proofs.Reducing.{few_reduced, reduced}
use Rattle.job_forms.specs.Forms.{reduce_at, reduce_calls_at}
use Rattle.entry_ops.proofs.Nothing.{part_of_blank, reduce_nothing}
use Rattle.entry_ops.proofs.reduce.reduce_region.Goals as goal

pub fill_in_order-filled-requires : goal.fill_in_order-filled-requires
fill_in_order-filled-requires c =
    let w = c.requires.region.within in
    record {
      kind = c.requires.kind;
      region_is = c.requires.region;
      begun = c.begin-making.ensures;
      capacity = few_reduced c.args.operator.now c.args.a.now (mask_of c.args.region.mask) c.args.region.range.start
          (c.args.region.range.end - c.args.region.range.start)
          c.recall.ensures c.requires.kind c.recall-2.ensures
          (omega (arith, w));
    }

pub fill_in_blocks-filled-requires-clause-can : goal.fill_in_blocks-filled-requires-clause-can
fill_in_blocks-filled-requires-clause-can c =
    let w = c.requires.region.within in
    record {
      kind = c.requires.kind;
      region_is = c.requires.region;
      begun = c.begin-making.ensures;
      capacity = few_reduced c.args.operator.now c.args.a.now (mask_of c.args.region.mask) c.args.region.range.start
          (c.args.region.range.end - c.args.region.range.start)
          c.recall.ensures c.requires.kind c.recall-2.ensures
          (omega (arith, w));
    }

pub returns-then-len-le-MOST_IN_ORDER : goal.returns-then-len-le-MOST_IN_ORDER
returns-then-len-le-MOST_IN_ORDER c = reduced c.args.operator.now c.args.a.now c.args.region c.begin-making.result
    c.fill_in_order-filled.new.making c.fill_in_order-filled.result _ c.begin-making.ensures c.fill_in_order-filled.ensures
    c.finish.ensures

pub returns : goal.returns
returns c = reduced c.args.operator.now c.args.a.now c.args.region c.begin-making.result c.fill_in_blocks-filled.new.making
    c.fill_in_blocks-filled.result _ c.begin-making.ensures c.fill_in_blocks-filled.ensures c.finish-2.ensures

pub returns-then-is_blank_under : goal.returns-then-is_blank_under
returns-then-is_blank_under c =
    let f = c.args.operator.now in
    let a = c.args.a.now in
    let mask = mask_of c.args.region.mask in
    part_of_blank 1 1 refl (reduce_at f a) (reduce_calls_at f a) c.args.region c.blank_region.result a
    (c.is_blank_under.ensures.0 c.if-is_blank_under.true) (λ i j l u e. reduce_nothing f a mask i j e) c.blank_region.ensures
