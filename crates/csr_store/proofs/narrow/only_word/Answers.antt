use Rattle.std.proofs.Common.{List, ap, ◌∙◌, subst, arith}
use Rattle.csr_store.specs.Grid.{Cell}
use Rattle.csr_store.specs.inner.Narrow.{HaveWord}
use Rattle.csr_store.proofs.Narrowing.{word_next}
use Rattle.csr_store.proofs.narrow.only_word.Goals as goal

pub loop-run-preserved : goal.loop-run-preserved
loop-run-preserved c =
    let w = c.in_ok-word-in-Runs.field-0.now.1 in
    let run = c.deref-in-loop-run.ensures.value ∙ ap (λ v. v.items) c.run-item.is in
    let t = c.loop-run-test.true in
    word_next w c.deref-run-items.result.now c.loop-run.run-index c.run-item.result (omega (arith, t)) c.loop-run.invariant
    (subst (λ (cs : List Cell). HaveWord w cs) run (c.have_word-in-loop-run.ensures c.if-not-have_word.false))
