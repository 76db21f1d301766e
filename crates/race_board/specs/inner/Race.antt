-- What stands beside specs/Race.antt for this crate's own modules and proofs.
use Rattle.std.specs.Prelude.{ℕ, List, Bool, false, Option, Some, None}
use Rattle.race_board.specs.Race.{Worker, may_record}

abbrev pub may_record_by : List ℕ → ℕ → ℕ → Option Worker → Bool
may_record_by prices c s None = false
may_record_by prices c s (Some x) = may_record prices c s x.state
