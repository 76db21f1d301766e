-- Rows of a matrix that are read one after the other. This project's own.
use Rattle.std.specs.Prelude.{ℕ, refl}
use Rattle.std.specs.Coded.{Coded, code_by, coded×, coded_ℕ}
use Rattle.csr_store.specs.Grid.{Grid, grid_code}

-- the matrix, and the row that comes next
pub record Reading : Type 0 where
  pub grid : Grid
  pub row : ℕ

abbrev pub reading_code : Coded Reading
reading_code =
    code_by (Grid × ℕ) (coded× grid_code coded_ℕ) (λ r. (r.grid, r.row)) (λ p. record { grid = p.0; row = p.1 }) (λ _. refl)
