use Rattle.std.proofs.Common.{◌+◌, length, sym, ap, ◌∙◌, arith, length-append, [], ◌∷◌}
use Rattle.csr_store.proofs.Filling.{closes_none, closes_more}
use Rattle.csr_store.proofs.starts.close.Goals as goal

pub loop-init : goal.loop-init
loop-init c =
    let l = c.len-counter.ensures ∙ c.args.ends.now.ok.0 in
    record { closes = closes_none _ _; reached = sym l; upto = let r = c.requires in omega arith }

pub loop-preserved : goal.loop-preserved
loop-preserved c = record {
  closes = closes_more _ _ _ _ c.loop.invariant.closes c.in_ok-push.ensures.pushed;
  reached = ap length c.in_ok-push.ensures.pushed ∙ (length-append c.loop.ends.items (c.args.end ∷ []) ∙ ap (λ n. n + 1) c.loop.invariant.reached);
  upto = omega arith;
}
