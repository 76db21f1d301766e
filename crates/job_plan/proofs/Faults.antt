-- A job has no fault where all the tests pass, and then takes few rounds.
use Rattle.std.proofs.Common.{◌≡◌, ◌≤◌, ◌<◌, ◌-◌, ◌*◌, ℕ, zero, suc, ◌^◌, Bool, true, false, not, cond, nat_lt, Option, None}
use Rattle.std.proofs.Common.{Some, ap, sym, ◌∙◌, refl, arith}
use Rattle.std.proofs.lemmas.Bool.Decides.{nat_tests}
use Rattle.std.proofs.lemmas.Nat.{mul-le}
use Rattle.bpf_verify.specs.Accepted.{Accepted}
use Rattle.csr_store.specs.Grid.{Grid, limit}
use Rattle.csr_store.specs.Along.{summed}
use Rattle.job_plan.specs.declared.error.JobError.{JobError}
use Rattle.job_plan.specs.declared.error.JobError.TheVariants.{WrongKind, WrongShapes, WrongMask, ResultTooLarge, PriceTooHigh}
use Rattle.job_plan.specs.Job.{Job, Form, Product}
use Rattle.job_plan.specs.Forms.{operation}
use Rattle.job_plan.specs.Costing.{costing}
use Rattle.job_plan.specs.Meaning.{row_count}
use Rattle.job_plan.specs.Price.{price_in, price_of}
use Rattle.job_plan.specs.Refusal.{job_fault, price_limit, IsPriced}
use Rattle.job_plan.specs.inner.Refusal.{Passes}
use Rattle.job_plan.proofs.Sums.{summed-times, summed-part}
use Rattle.job_plan.proofs.Rounds.{few_rounds}

-- the fault that five tests give
abbrev fault_by : Bool → Bool → Bool → Bool → Bool → Option JobError
fault_by a b c d e =
    cond (not a) (Some WrongKind) (cond (not b) (Some WrongShapes) (cond (not c) (Some WrongMask)
    (cond d (Some ResultTooLarge) (cond e (Some PriceTooHigh) None))))

last : (a b c d e : Bool) → a ≡ true → b ≡ true → c ≡ true → d ≡ false → fault_by a b c d e ≡ cond e (Some PriceTooHigh) None
last a b c d e p q r s = rw (p, q, r, s) refl

all_pass : (a b c d e : Bool) → fault_by a b c d e ≡ None → (a ≡ true) × (b ≡ true) × (c ≡ true) × (d ≡ false) × (e ≡ false)
all_pass false b c d e h = absurd (cc)
all_pass true false c d e h = absurd (cc)
all_pass true true false d e h = absurd (cc)
all_pass true true true true e h = absurd (cc)
all_pass true true true false true h = absurd (cc)
all_pass true true true false false h = (refl, refl, refl, refl, refl)

small_is : (n : ℕ) → n ≤ limit → nat_lt limit n ≡ false
small_is n h = grind (arith, nat_tests)

is_small : (n : ℕ) → nat_lt limit n ≡ false → n ≤ limit
is_small n h = grind (arith, nat_tests)

by_price : (job : Job) → Passes job → job_fault job ≡ cond (nat_lt price_limit (price_of job)) (Some PriceTooHigh) None
by_price job p = last _ _ _ _ _ p.kinds p.shapes p.shape (small_is _ p.small)

pub too_high : (job : Job) (price : ℕ) → Passes job → price ≡ price_of job → price_limit < price → job_fault job ≡ Some PriceTooHigh
too_high job price p e h =
    let t : nat_lt price_limit (price_of job) ≡ true = rw (← e) (grind (arith, nat_tests)) in
    by_price job p ∙ ap (λ b. cond b (Some PriceTooHigh) None) t

pub is_priced : (job : Job) (price : ℕ) → Passes job → price ≡ price_of job → price ≤ price_limit → IsPriced job
is_priced job price p e h =
    let t : nat_lt price_limit (price_of job) ≡ false = rw (← e) (grind (arith, nat_tests)) in
    record { form = p.form; mask = p.mask; faultless = by_price job p ∙ ap (λ b. cond b (Some PriceTooHigh) None) t }

-- a job that was not refused passes all tests
pub passes : (job : Job) → IsPriced job → Passes job
passes job p =
    let t = all_pass _ _ _ _ _ p.faultless in
    record { form = p.form; mask = p.mask; kinds = t.0; shapes = t.1; shape = t.2; small = is_small _ t.3 }

pub low_price : (job : Job) → IsPriced job → price_of job ≤ price_limit
low_price job p = let t = (all_pass _ _ _ _ _ p.faultless).4 in grind (arith, nat_tests)

-- the price of rows, by their rounds
pub price_by_rounds : (job : Job) (first n rounds round : ℕ) → rounds ≡ summed ((costing job.form).rounds job.mask) first n
    → round ≡ (costing job.form).round → rounds * round ≡ price_in job first n
price_by_rounds job first n rounds round e f =
    rw (e, f) (sym (summed-times ((costing job.form).rounds job.mask) (costing job.form).round first n))

-- the price of a product, of which the entries that it can have are its rounds
pub price_by_product : (job : Job) (add mul : Accepted) (a b : Grid) (entries round : ℕ) → job.form ≡ Product add mul a b
    → entries ≡ (costing job.form).entries job.mask → round ≡ (costing job.form).round → entries * round ≡ price_of job
price_by_product job add mul a b entries round is e f =
    price_by_rounds job 0 (row_count job) entries round
    (e ∙ ap (λ (g : Form). (costing g).entries job.mask) is
    ∙ sym (ap (λ (g : Form). summed ((costing g).rounds job.mask) 0 (operation g).rows) is)) f

-- some of the rows take few rounds
pub few_of_rows : (job : Job) (first last : ℕ) → Passes job → last ≤ row_count job
    → summed ((costing job.form).rounds job.mask) first (last - first) ≤ limit
few_of_rows job first last p l = go (last - first) refl
  where
    go : (n : ℕ) → last - first ≡ n → summed ((costing job.form).rounds job.mask) first n ≤ limit
    go zero e = omega arith
    go (suc n) e =
        let f = few_rounds job.form job.mask p.form p.small in
        let s = summed-part ((costing job.form).rounds job.mask) first (suc n) (row_count job) (omega arith) in
        omega arith

pub fits : (a b : ℕ) → a ≤ limit → b ≤ 8192 → a * b < 2 ^ 64
fits a b h k = let m = mul-le a b limit 8192 h k in omega arith
