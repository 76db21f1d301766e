use Rattle.std.proofs.Common.{rules}
use Rattle.race_board.proofs.Steps.{draws}
use Rattle.race_board.proofs.crew.draw_at.Goals as goal

pub fetch_add-requires : goal.fetch_add-requires
fetch_add-requires g c = (search rules, search rules, draws _ _ _ _ g.T.Priced.prices c.requires.prices c.requires.free)
