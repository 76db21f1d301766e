use Rattle.std.proofs.Common.{sym, subst, ◌∙◌, arith}
use Rattle.job_runner.specs.inner.CompletedPieces.{ArePlaced}
use Rattle.job_runner.proofs.Joined.{count_of_chunks}
use Rattle.job_runner.proofs.Placing.{none_more, none_placed}
use Rattle.job_runner.proofs.completed_pieces.no_pieces.Goals as goal

pub loop-nth-preserved : goal.loop-nth-preserved
loop-nth-preserved c =
    let i = c.loop-nth.invariant in
    let len = i.len in
    let more = c.in_ok-push.ensures.len in
    record {
      len = omega (arith, len, more);
      none = c.in_ok-push.ensures.items ∙ none_more c.loop-nth._nth c.loop-nth.completed_pieces.items i.none;
    }

pub returns : goal.returns
returns c =
    let len = c.loop-nth.invariant.len in
    let over = c.loop-nth-test.false in
    let end = c.loop-nth.auto._nth-end in
    let count = c.chunks-count.ensures.count in
    let all = count_of_chunks 0 c.args.plan.now in
    let long = c.loop-nth.completed_pieces.ok.0 in
    record {
      long = omega (arith, len, over, end, count, all, long);
      placed = subst (ArePlaced c.args.plan.now) (sym c.loop-nth.invariant.none)
          (none_placed c.args.plan.now c.loop-nth._nth);
    }
