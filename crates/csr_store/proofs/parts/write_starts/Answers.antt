use Rattle.std.proofs.Common.{refl, arith}
use Rattle.csr_store.proofs.Parting.{upto_next}
use Rattle.csr_store.proofs.parts.write_starts.Goals as goal
use Rattle.csr_store.proofs.parts.write_starts.Goals.{then-loop-next-test+else-positions-next, else-loop-next-test}

pub loop-part-preserved : goal.loop-part-preserved
loop-part-preserved c =
    upto_next c.args.positions.now c.loop-part.starts c.args.starts.now _ c.args.bits c.loop-part.part c.loop-next.next c.requires.rise c.loop-next.invariant
    (λ l. elim c.loop-next-test.branch [
      | then-loop-next-test+else-positions-next w ↦ (let f = w.if-positions-next.false in omega (arith, f))
      | else-loop-next-test w ↦ (let f = w.loop-next-test.false in absurd (omega (arith, f, l)))
    ])
    (let t = c.loop-part-test.true in omega (arith, t)) _ refl
