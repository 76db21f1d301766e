-- Structural masks, as the GraphBLAS C API Specification 2.0 has them ("Masks", with `GrB_STRUCTURE`): a position passes where
-- the mask stores something, whatever its value. Without a mask every position passes. What passes is a matrix's rows and what is
-- listed for its positions, given position by position.
use Rattle.std.specs.Prelude.{◌≡◌, ℕ, Bool, true, not, nat_eq, length, if◌then◌else◌, List, [], ◌∷◌, Option, None, Some}
use Rattle.std.specs.Option.{option_map}
use Rattle.std.specs.FinMap as fin
use denote.Ref.{Bor}
use Rattle.csr_store.specs.Grid.{Grid, Position, row_of}
use Rattle.csr_store.specs.Run.{Row}
use Rattle.csr_store.specs.Along.{along, row_by}

-- the position passes
abbrev pub passes : Option Grid → Position → Bool
passes None at = true
passes (Some mask) at = fin.contains_key mask.cells at

-- what stands at a position, where it passes
abbrev pub cut : Option Grid → (Position → Option ℕ) → Position → Option ℕ
cut mask values at = if passes mask at then values at else None

-- what is listed for a position, where it passes
abbrev pub cut_list : {T : Type 0} → Option Grid → (Position → List T) → Position → List T
cut_list mask lists at = if passes mask at then lists at else []

-- row i of so many columns, and the rows from `first` on, n of them
abbrev pub row_under : Option Grid → ℕ → (Position → Option ℕ) → ℕ → Row
row_under mask columns values i = row_by columns (λ j. cut mask values (i, j))

abbrev pub rows_under : Option Grid → ℕ → (Position → Option ℕ) → ℕ → ℕ → List Row
rows_under mask columns values first n = along (λ i. row_under mask columns values i ∷ []) first n

-- what is listed for the positions of row i, and of the rows from `first` on, n of them
abbrev pub listed_under : {T : Type 0} → Option Grid → ℕ → (Position → List T) → ℕ → List T
listed_under mask columns lists i = along (λ j. cut_list mask lists (i, j)) 0 columns

abbrev pub all_listed_under : {T : Type 0} → Option Grid → ℕ → (Position → List T) → ℕ → ℕ → List T
all_listed_under mask columns lists first n = along (λ i. listed_under mask columns lists i) first n

-- a mask has the shape of what it cuts
abbrev pub HasShape : ℕ → ℕ → Option Grid → Type 0
HasShape rows columns None = Unit {0}
HasShape rows columns (Some mask) = (mask.rows ≡ rows) × (mask.columns ≡ columns)

-- some position of row i passes, or there is no mask
abbrev pub row_passes : Option Grid → ℕ → Bool
row_passes None i = true
row_passes (Some mask) i = not (nat_eq (length (row_of mask i)) 0)

-- the mask that a call is lent, if any
abbrev pub mask_of : Option (Bor Grid) → Option Grid
mask_of lent = option_map (λ (m : Bor Grid). m.now) lent
