-- A run of rows that follow one another: the ended ones, and the one that is open. This project's own.
use Rattle.std.specs.Prelude.{◌≡◌, ◌≤◌, ℕ, ◌+◌, ◌*◌, ◌/◌, List, [], ◌∷◌, ◌++◌, flat_map, refl, length}
use Rattle.std.specs.Coded.{Coded, code_by, coded×, coded_ℕ, coded_list}
use Rattle.csr_store.specs.Grid.{Cell, Entry, at_row}

-- the cells of a row, by ascending column
abbrev pub Row : Type 0
Row = List Cell

pub record Run : Type 0 where
  pub first : ℕ
  pub columns : ℕ
  pub ended : List Row
  pub opened : Row

-- a run is stored as the tuple of its fields
abbrev pub run_code : Coded Run
run_code =
    code_by (ℕ × (ℕ × (List Row × Row)))
    (coded× coded_ℕ (coded× coded_ℕ
    (coded× (coded_list (coded_list (coded× coded_ℕ coded_ℕ))) (coded_list (coded× coded_ℕ coded_ℕ)))))
    (λ r. (r.first, (r.columns, (r.ended, r.opened))))
    (λ p. record { first = p.0; columns = p.1.0; ended = p.1.1.0; opened = p.1.1.1 }) (λ _. refl)

-- the entries of rows that follow one another, from row i on
abbrev pub numbered : ℕ → List Row → List Entry
numbered i [] = []
numbered i (row ∷ rows) = at_row i row ++ numbered (i + 1) rows

-- the ended rows of runs
abbrev pub all_ended : List Run → List Row
all_ended runs = flat_map (λ (r : Run). r.ended) runs

-- runs of rows of so many columns, with no entry in an open row, that go from one row up to another
abbrev pub Follow : ℕ → ℕ → ℕ → List Run → Type 0
Follow columns at to [] = at ≡ to
Follow columns at to (r ∷ rs) =
    (r.first ≡ at) × (r.columns ≡ columns) × (r.opened ≡ []) × Follow columns (at + length r.ended) to rs

-- rows from one up to another that are all of one run, where each run has 256
abbrev pub IsInRun : ℕ → ℕ → Type 0
IsInRun from to = to ≤ from / 256 * 256 + 256
