-- What stands beside specs/Naming.antt for this crate's own modules and proofs.
use Rattle.std.specs.Prelude.{◌≡◌, List, [], ◌∷◌}
use Rattle.race_board.specs.Race.{Worker}
use Rattle.race_board.specs.Naming.{first_worker}

abbrev pub IsAlone : List Worker → Type 0
IsAlone ws = ws ≡ first_worker ws ∷ []
