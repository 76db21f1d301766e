use Rattle.std.proofs.Common.{◌++◌, List, ap, ◌∙◌, arith}
use Rattle.csr_store.specs.Columns.{columns_of}
use Rattle.csr_store.specs.Grid.{Cell}
use Rattle.csr_store.proofs.Narrowing.{columns_next}
use Rattle.csr_store.proofs.narrow.Narrow.of.Goals as goal

pub loop-run-preserved : goal.loop-run-preserved
loop-run-preserved c =
    let old = c.loop-run.columns.items in
    let run = c.deref-in-loop-run.ensures.value ∙ ap (λ v. v.items) c.run-item.is in
    let t = c.loop-run-test.true in
    c.in_ok-push_columns-in-Runs.ensures
    ∙ (ap (λ (cs : List Cell). old ++ columns_of cs) run
    ∙ columns_next old c.deref-run-items.result.now c.loop-run.run-index c.run-item.result (omega (arith, t)) c.loop-run.invariant)
