-- Who acts at a seat of the running board. This project's own. A seat knows the records of its workers, as a list. The rule of the
-- board and the five kinds of step are in inner/Rule.antt.
use Rattle.std.specs.Prelude.{List, [], ◌∷◌}
use Rattle.race_board.specs.Race.{Worker}

-- the first worker of a seat acts
abbrev pub acted : (Worker → Worker) → List Worker → List Worker
acted f [] = []
acted f (w ∷ ws) = f w ∷ ws
