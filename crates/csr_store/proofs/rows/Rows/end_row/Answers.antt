use Rattle.std.proofs.Common.{◌∙◌}
use Rattle.csr_store.proofs.Runs.{run_end, rows_more}
use Rattle.csr_store.proofs.rows.Rows.end_row.Goals as goal

pub invariant_of-self-2 : goal.invariant_of-self-2
invariant_of-self-2 c = rw c.in_ok-push.ensures.ended (rows_more _ _ _ c.len.result c.self.invariant (c.len.ensures ∙ c.self.inside.cells.ok.0))

pub returns-clause-ended : goal.returns-clause-ended
returns-clause-ended c = run_end _ _ _ _ _ c.len.result _ c.self.invariant (c.len.ensures ∙ c.self.inside.cells.ok.0) c.in_ok-push.ensures.ended c.self.view_is
