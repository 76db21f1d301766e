use Rattle.std.proofs.Common.{arith}
use Rattle.csr_store.proofs.Runs.{run_push, rows_push}
use Rattle.csr_store.proofs.rows.Rows.push.Goals as goal

pub invariant_of-self-2 : goal.invariant_of-self-2
invariant_of-self-2 c =
    rw c.in_ok-push.ensures.items (rows_push _ _ _ (c.args.column, c.args.value) c.self.invariant (rw (← c.self.view_is) at c.requires.within, (let f = c.ranges.value.fits in omega arith)) (rw (← c.self.view_is) at c.requires.above))

pub returns-clause-pushed : goal.returns-clause-pushed
returns-clause-pushed c = run_push _ _ _ _ _ (c.args.column, c.args.value) _ c.self.invariant c.in_ok-push.ensures.items c.self.view_is
