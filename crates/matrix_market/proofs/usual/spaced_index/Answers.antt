use Rattle.std.proofs.Common.{arith}
use Rattle.matrix_market.proofs.Fields.{not_last}
use Rattle.matrix_market.proofs.usual.spaced_index.Goals as goal

pub returns : goal.returns
returns c =
    let stops = c.in_ok-value.ensures.0 in
    let other = not_last c.args.text.now c.in_ok-value.to c.args.last c.requires.stop c.if-text-to-ne32.false in (
      omega arith,
      record { number = c.in_ok-value.ensures.1; space = c.if-text-to-ne32.false },
    )
