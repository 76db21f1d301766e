-- Cells whose columns ascend, as a row has them, and parts of them. This project's own.
use Rattle.std.specs.Prelude.{ℕ, ◌≤◌, ◌<◌, suc, Bool, true, nat_eq, is_some, List, [], ◌∷◌, Option, None, Some}
use Rattle.std.specs.Map.{lookup}
use Rattle.csr_store.specs.Grid.{Cell}

-- columns that ascend, from low on and below high
abbrev pub Ascends : ℕ → ℕ → List Cell → Type 0
Ascends low high [] = Unit {0}
Ascends low high (c ∷ cs) = (low ≤ c.0) × (c.0 < high) × Ascends (suc c.0) high cs

-- the value at column j
abbrev pub at : List Cell → ℕ → Option ℕ
at cs j = lookup (nat_eq j) cs

-- column j passes a mask's row, or there is no mask
abbrev pub shows : Option (List Cell) → ℕ → Bool
shows None j = true
shows (Some cs) j = is_some (at cs j)

-- a mask's row ascends, where there is a mask
abbrev pub AscendsIn : ℕ → Option (List Cell) → Type 0
AscendsIn high None = Unit {0}
AscendsIn high (Some cs) = Ascends 0 high cs
