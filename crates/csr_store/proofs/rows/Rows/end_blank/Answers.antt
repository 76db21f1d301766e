use Rattle.std.proofs.Common.{◌∙◌}
use Rattle.csr_store.proofs.Runs.{run_blank, rows_blank}
use Rattle.csr_store.proofs.rows.Rows.end_blank.Goals as goal

pub invariant_of-self-2 : goal.invariant_of-self-2
invariant_of-self-2 c = rw c.in_ok-push_alike.ensures.ended (rows_blank _ c.args.count _ _ c.len.result c.self.invariant (c.len.ensures ∙ c.self.inside.cells.ok.0))

pub returns-clause-ended : goal.returns-clause-ended
returns-clause-ended c = run_blank _ _ c.args.count _ _ _ c.len.result _ c.self.invariant (c.len.ensures ∙ c.self.inside.cells.ok.0)
    c.requires.none_open c.in_ok-push_alike.ensures.ended c.self.view_is
