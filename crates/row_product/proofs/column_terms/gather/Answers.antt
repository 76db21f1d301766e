use Rattle.std.proofs.Common.{arith}
use Rattle.row_product.proofs.Column.{gathers_more, gathered_few}
use Rattle.row_product.proofs.column_terms.gather.Goals as goal

pub loop-k-preserved : goal.loop-k-preserved
loop-k-preserved c =
    let now = c.loop-k.invariant in
    let found = c.word_at-word in
    let few = now.few in
    let more = gathered_few c.loop-k.calls.operands c.gather_if.new.calls.operands _ found.result.1 c.gather_if.ensures.gathered in
    record {
      gathers = λ mul. gathers_more mul c.args.b.now c.args.cells.now c.loop-k.k-index (0, 0) c.loop-k.calls.operands
          c.gather_if.new.calls.operands found.result.0 found.result.1 c.loop-k-test.true (now.gathers mul) found.ensures
          c.gather_if.ensures.gathered;
      kind = c.gather_if.ensures.kind;
      few = omega (arith, few, more);
    }
