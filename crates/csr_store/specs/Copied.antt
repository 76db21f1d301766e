-- Rows that are copied with other values, in the order of their entries. This project's own.
use Rattle.std.specs.Prelude.{ℕ, refl}
use Rattle.std.specs.Coded.{Coded, code_by, coded×, coded_ℕ}
use Rattle.csr_store.specs.Run.{Run, run_code}

-- the rows, and how many of their entries have been written
pub record Copied : Type 0 where
  pub run : Run
  pub written : ℕ

abbrev pub copied_code : Coded Copied
copied_code =
    code_by (Run × ℕ) (coded× run_code coded_ℕ) (λ c. (c.run, c.written)) (λ p. record { run = p.0; written = p.1 }) (λ _. refl)
