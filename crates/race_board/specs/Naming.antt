-- How a board and its seats show what they are: the name of a board, from the table that it keeps its words in, and the one
-- worker of a seat. This project's own.
use Rattle.std.specs.Prelude.{ℕ, List, [], ◌∷◌}
use Rattle.atomic_table.specs.Seated.{TableId}
use Rattle.race_board.specs.Race.{Worker, fresh_worker}

abbrev pub name_of : TableId → List ℕ
name_of id = id.words ∷ id.slots ∷ id.views_name ∷ id.atom ∷ id.block ∷ id.offset ∷ id.slot_names

-- the first worker; where there is none, any
abbrev pub first_worker : List Worker → Worker
first_worker [] = fresh_worker 0
first_worker (w ∷ ws) = w
