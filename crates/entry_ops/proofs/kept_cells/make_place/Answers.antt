use Rattle.entry_ops.proofs.Keeping.{follow-none}
use Rattle.entry_ops.proofs.kept_cells.make_place.Goals as goal

pub returns-clause-follow : goal.returns-clause-follow
returns-clause-follow c = follow-none c.push_all.new.rows
