use Rattle.step_purse.proofs.Chains.{leads_append, leads_snoc}
use Rattle.step_purse.proofs.laws.calls_in_a_row.Goals as goal

pub returns-clause-others : goal.returns-clause-others
returns-clause-others c = leads_append

pub returns-clause-one_more : goal.returns-clause-one_more
returns-clause-one_more c = leads_snoc
