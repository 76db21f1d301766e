use Rattle.std.proofs.Common.{arith, refl}
use Rattle.matrix_market.proofs.Fields.{end_later, pattern_found}
use Rattle.matrix_market.proofs.usual.pattern_line.Goals as goal

pub returns : goal.returns
returns c =
    let stops = c.in_ok-column.ensures.0 in
    let next = c.in_ok-next.ensures.0 in
    let a = c.in_ok-row.ensures.1.number.some in
    let b = c.in_ok-column.ensures.1.some in
    let e = end_later c.args.text.now c.in_ok-column.end c.in_ok-next.next c.in_ok-next.ensures.1 in (
      omega arith,
      next,
      pattern_found c.args.text.now c.args.at c.in_ok-row.row_end c.in_ok-column.end c.in_ok-row.row c.in_ok-column.column (omega arith)
          c.in_ok-row.ensures.1 c.in_ok-column.ensures.1 c.in_ok-next.next c.in_ok-next.ensures.1 _ refl refl refl refl,
    )
