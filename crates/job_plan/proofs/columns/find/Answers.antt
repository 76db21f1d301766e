use Rattle.std.proofs.Common.{◌≡◌, ◌≢◌, ℕ, Option, None, Some, refl, arith}
use Rattle.std.specs.Prelude.{MatchOption}
use Rattle.csr_store.specs.Column.{column_of}
use Rattle.job_plan.proofs.Copies.{found_at}
use Rattle.job_plan.proofs.columns.find.Goals as goal

-- where no row differs
none_left : (P : Type 0) (Q : ℕ → Type 0) (row : Option ℕ) → MatchOption row P Q → ((k : ℕ) → row ≡ Some k → ⊥) → P
none_left P Q None h n = h
none_left P Q (Some k) h n = absurd (n k refl)

pub returns-in_default : goal.returns-in_default
returns-in_default c =
    let copy = c.index-copies-nth.result in
    found_at c.args.copies.now c.args.column.now copy c.loop-nth.nth (omega (arith, c.loop-nth-test.true))
    c.index-copies-nth.is
    (none_left (column_of copy ≡ column_of c.args.column.now) (λ (k : ℕ). copy ≢ c.args.column.now) c.difference.result
    c.difference.ensures c.in_default.not-Some)
