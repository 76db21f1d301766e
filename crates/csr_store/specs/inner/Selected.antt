-- What stands beside specs/Added.antt for this crate's own modules and proofs.
use Rattle.std.specs.Prelude.{ℕ, suc, nat_eq, if◌then◌else◌, List, [], ◌∷◌}

-- how many of some answers are not 0
abbrev pub kept_count : List ℕ → ℕ
kept_count [] = 0
kept_count (a ∷ answers) = if nat_eq a 0 then kept_count answers else suc (kept_count answers)
