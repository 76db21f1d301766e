use Rattle.std.proofs.Common.{length, arith, sym, ◌∙◌}
use Rattle.std.proofs.lemmas.Bool.{le-ltb}
use Rattle.matrix_market.proofs.Passing.{passes_more}
use Rattle.matrix_market.proofs.lines.next_content.Goals as goal

pub loop-line-preserved : goal.loop-line-preserved
loop-line-preserved c =
    let s = c.in-Some.ensures.shorter in
    let r = c.loop-line.invariant.capacity in
    record {
      passes = passes_more c.args.cursor.rest.now c.args.cursor.at c.loop-line.rest.now c.loop-line.at c.in-Some.line.now c.in-Some.more.now c.loop-line.invariant.passes c.in-Some.ensures.lines (sym c.skipped.ensures ∙ c.if-not-skipped.false) (le-ltb 1024 (length c.in-Some.line.now) (omega arith));
      capacity = omega arith;
    }
