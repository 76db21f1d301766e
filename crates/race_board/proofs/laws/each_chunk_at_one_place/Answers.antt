use Rattle.std.proofs.Common.{◌∙◌}
use Rattle.race_board.proofs.Chunks.{stands_once, below_one}
use Rattle.race_board.proofs.laws.each_chunk_at_one_place.Goals as goal

pub returns : goal.returns
returns g = λ n chunks once c l. stands_once c chunks (once c ∙ below_one c n l)
