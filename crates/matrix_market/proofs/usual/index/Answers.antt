use Rattle.std.proofs.Common.{arith}
use Rattle.matrix_market.proofs.Fields.{scanned_few, length_range}
use Rattle.matrix_market.proofs.usual.index.Goals as goal

pub returns : goal.returns
returns c =
    let stays = c.digits-value.ensures.stays in
    let stops = c.digits-value.ensures.stops in
    let l = length_range c.args.text.now c.args.from c.digits-value.result.1 (omega arith) (omega arith) in (
      stops,
      record {
        some = omega arith;
        few = omega arith;
        small = let h = c.digits-value.ensures.scanned.held in omega arith;
        is = scanned_few _ _ c.digits-value.ensures.scanned (omega arith);
      },
    )
