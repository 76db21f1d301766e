use Rattle.std.proofs.Common.{◌+◌, Some, length, drop, get_or, sym, ap, ◌∙◌, arith}
use Rattle.std.proofs.Math.ListN.{length-set}
use Rattle.row_product.specs.inner.Adding.{written}
use Rattle.row_product.proofs.Meeting.{below_at, written_next, written_none}
use Rattle.row_product.proofs.additions.write.Goals as goal

pub put-requires : goal.put-requires
put-requires c =
    let b = below_at (length c.args.sums.now) c.args.columns.now c.loop-k.k 0 c.requires.within c.loop-k-test.true in
    let l = c.loop-k.invariant.long in
    omega (arith, b, l)

pub loop-k-preserved : goal.loop-k-preserved
loop-k-preserved c =
    let ks = c.args.columns.now in
    let vs = c.args.values.now in
    let k = c.loop-k.k in
    record {
      left = ap (λ us. written us (drop (k + 1) ks) (drop (k + 1) vs)) c.put.ensures
          ∙ (written_next c.loop-k.sums ks vs k c.loop-k-test.true c.requires.values ∙ c.loop-k.invariant.left);
      long = ap length c.put.ensures ∙ (length-set c.loop-k.sums (get_or ks k 0) (Some (get_or vs k 0)) ∙ c.loop-k.invariant.long);
    }

pub returns : goal.returns
returns c =
    sym (written_none c.loop-k.sums c.args.columns.now c.args.values.now c.loop-k.k c.loop-k-test.false) ∙ c.loop-k.invariant.left
