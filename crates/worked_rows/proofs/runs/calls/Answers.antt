use Rattle.std.proofs.Common.{refl}
use Rattle.bpf_run.specs.Meaning.{value_of, cost_of}
use Rattle.worked_rows.proofs.runs.calls.Goals as goal

pub returns-clause-one_more : goal.returns-clause-one_more
unfolding value_of cost_of
returns-clause-one_more c = (refl, refl)

pub returns-clause-wraps : goal.returns-clause-wraps
unfolding value_of
returns-clause-wraps c = refl

pub returns-clause-less : goal.returns-clause-less
unfolding value_of
returns-clause-less c = refl

pub returns-clause-stack : goal.returns-clause-stack
unfolding value_of cost_of
returns-clause-stack c = (refl, refl)

pub returns-clause-taken : goal.returns-clause-taken
unfolding value_of cost_of
returns-clause-taken c = (refl, refl)

pub returns-clause-not_taken : goal.returns-clause-not_taken
unfolding value_of cost_of
returns-clause-not_taken c = (refl, refl)
