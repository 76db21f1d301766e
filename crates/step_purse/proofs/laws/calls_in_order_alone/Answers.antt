use Rattle.step_purse.proofs.Chains.{alone_seen, alone_legal}
use Rattle.step_purse.proofs.laws.calls_in_order_alone.Goals as goal

pub returns-clause-seen : goal.returns-clause-seen
returns-clause-seen c = alone_seen

pub returns-clause-legal : goal.returns-clause-legal
returns-clause-legal c = λ allowance before ds now l is_whole. (alone_legal allowance before ds now l is_whole).0

pub returns-clause-leaves : goal.returns-clause-leaves
returns-clause-leaves c = λ allowance before ds now l is_whole. (alone_legal allowance before ds now l is_whole).1
