-- What calls were charged to workers that recorded each chunk at most once: some of the calls of all jobs, each at most once.
use Rattle.std.proofs.Common.{◌≡◌, ◌<◌, ◌≤◌, inl, inr, ℕ, zero, suc, ◌+◌, ◌-◌, Bool, true, false, List, [], ◌∷◌, ◌++◌, refl, sym, ap, ◌∙◌, subst, arith}
use Rattle.std.specs.Prelude.{nat_lt, ◌==◌, if◌then◌else◌, Result as Outcome, Ok, Err, OnOk, OnErr}
use Rattle.std.specs.List.{AllByRecursion}
use Rattle.std.proofs.lemmas.Bool.Decides.{nat_tests}
use Rattle.csr_store.specs.Along.{along, summed}
use Rattle.csr_store.proofs.Along.{along-split, along-same}
use Rattle.bpf_run.specs.Calls.{Call, steps_of, Charges}
use Rattle.bpf_run.specs.Meaning.{cost_of}
use Rattle.bpf_run.proofs.Charging.{charges-none, charges-all, charges-append}
use Rattle.race_board.specs.Race.{total_of, one_if_same, one_if_below}
use Rattle.race_board.specs.Chunks.{AreOnceAtMost, steps_in, times_in}
use Rattle.job_plan.specs.Job.{Job}
use Rattle.job_plan.specs.Meaning.{row_count, calls_in}
use Rattle.job_plan.specs.Chunks.{Chunk, Cover, chunk_of}
use Rattle.job_runner.specs.Batch.{all_calls}
use Rattle.job_runner.specs.Chunk.{chunks_in, chunk_total, calls_in_job, calls_of}
use Rattle.job_runner.specs.inner.Charged.{IsCharged}
use Rattle.job_runner.proofs.Joined.{flat-ones, at-first, at-behind}
use Rattle.job_runner.proofs.Listed.{along-shift}

-- from another number of steps
charges-from : (cs : List Call) (old new n : ℕ) → Charges cs old new → Charges cs (n + old) (n + new)
charges-from [] old new n h = ap (λ k. n + k) h
charges-from (c ∷ cs) old new n h = elim h [
  | inl a ↦ inl (charges-from cs old new n a)
  | inr a ↦
      let e : n + (old + cost_of c.operator c.operands) ≡ (n + old) + cost_of c.operator c.operands = omega arith in
      inr (subst (λ k. Charges cs k (n + new)) e (charges-from cs (old + cost_of c.operator c.operands) new n a))
]

-- a chunk of which all calls were made, or some
pub charged_chunk : {R E : Type 0} → (cs : List Call) (steps : ℕ) (r : Outcome R E) → OnOk r (steps ≡ steps_of cs)
    → OnErr r (Charges cs 0 steps) → Charges cs 0 steps
charged_chunk cs steps (Ok x) a b = charges-all cs 0 steps (omega (arith, a))
charged_chunk cs steps (Err x) a b = b

-- ---- the steps that a list has of a chunk

abbrev steps_at : ℕ → ℕ × ℕ → ℕ
steps_at c d = if d.0 == c then d.1 else 0

abbrev steps_for : List (ℕ × ℕ) → ℕ → ℕ
steps_for ds c = total_of (steps_at c) ds

at_same : (c : ℕ) (d : ℕ × ℕ) → (d.0 == c) ≡ true → steps_at c d ≡ d.1
at_same c d is = rw is refl

at_other : (c : ℕ) (d : ℕ × ℕ) → (d.0 == c) ≡ false → steps_at c d ≡ 0
at_other c d is = rw is refl

is_same : (c : ℕ) (d : ℕ × ℕ) → (d.0 == c) ≡ true → d.0 ≡ c
is_same c d is = grind (arith, nat_tests)

one_for : (c : ℕ) (d : ℕ × ℕ) → (d.0 == c) ≡ true → one_if_same c d.0 ≡ 1
one_for c d is = rw is refl

none_for : (c : ℕ) (d : ℕ × ℕ) → one_if_same c d.0 ≡ 0 → steps_at c d ≡ 0
none_for c d e = grind (arith, nat_tests)

no_steps : (c : ℕ) (ds : List (ℕ × ℕ)) → times_in c ds ≡ 0 → steps_for ds c ≡ 0
no_steps c [] none = refl
no_steps c (d ∷ ds) none =
    let here = none_for c d (omega (arith, none)) in
    let rest = no_steps c ds (omega (arith, none)) in
    omega (arith, here, rest)

-- they are those of some of its calls
charged_for : (jobs : List Job) (c : ℕ) (ds : List (ℕ × ℕ)) → times_in c ds ≤ 1 → AllByRecursion (IsCharged jobs) ds
    → Charges (calls_of jobs c) 0 (steps_for ds c)
charged_for jobs c [] few h = charges-none (calls_of jobs c) 0
charged_for jobs c (d ∷ ds) few h = go (d.0 == c) refl (λ less. charged_for jobs c ds less h.1)
  where
    go : (b : Bool) → (d.0 == c) ≡ b → (times_in c ds ≤ 1 → Charges (calls_of jobs c) 0 (steps_for ds c))
        → Charges (calls_of jobs c) 0 (steps_for (d ∷ ds) c)
    go true is later =
        let one = one_for c d is in
        let rest = no_steps c ds (omega (arith, few, one)) in
        let here = at_same c d is in
        let all : d.1 ≡ steps_for (d ∷ ds) c = omega (arith, here, rest) in
        subst (λ n. Charges (calls_of jobs c) 0 n) all (subst (λ k. Charges (calls_of jobs k) 0 d.1) (is_same c d is) h.0)
    go false is later =
        let here = at_other c d is in
        let all : steps_for ds c ≡ steps_for (d ∷ ds) c = omega (arith, here) in
        subst (λ n. Charges (calls_of jobs c) 0 n) all (later (omega (arith, few)))

-- ---- the steps of all chunks

charged_along : (jobs : List Job) (ds : List (ℕ × ℕ)) (from n old : ℕ) → ((c : ℕ) → Charges (calls_of jobs c) 0 (steps_for ds c))
    → Charges (along (calls_of jobs) from n) old (old + summed (steps_for ds) from n)
charged_along jobs ds from zero old each = let e : old ≡ old + 0 = omega arith in e
charged_along jobs ds from (suc n) old each =
    let here = charges-from (calls_of jobs from) 0 (steps_for ds from) old (each from) in
    let z : old + 0 ≡ old = omega arith in
    let rest = charged_along jobs ds (suc from) n (old + steps_for ds from) each in
    let e : (old + steps_for ds from) + summed (steps_for ds) (suc from) n ≡ old + summed (steps_for ds) from (suc n) = omega arith in
    charges-append (calls_of jobs from) (along (calls_of jobs) (suc from) n) old (old + steps_for ds from)
    (old + summed (steps_for ds) from (suc n))
    (subst (λ k. Charges (calls_of jobs from) k (old + steps_for ds from)) z here)
    (subst (λ k. Charges (along (calls_of jobs) (suc from) n) (old + steps_for ds from) k) e rest)

summed-none : (d : ℕ × ℕ) (from n : ℕ) → d.0 < from → summed (λ c. steps_at c d) from n ≡ 0
summed-none d from zero l = refl
summed-none d from (suc n) l =
    let here : steps_at from d ≡ 0 = grind (arith, nat_tests) in
    let rest = summed-none d (suc from) n (omega (arith, l)) in
    omega (arith, here, rest)

summed-one : (d : ℕ × ℕ) (from n : ℕ) → from ≤ d.0 → d.0 < from + n → summed (λ c. steps_at c d) from n ≡ d.1
summed-one d from zero l u = absurd (omega (arith, l, u))
summed-one d from (suc n) l u = go (d.0 == from) refl (λ m. summed-one d (suc from) n m (omega (arith, u)))
  where
    go : (b : Bool) → (d.0 == from) ≡ b → (suc from ≤ d.0 → summed (λ c. steps_at c d) (suc from) n ≡ d.1)
        → summed (λ c. steps_at c d) from (suc n) ≡ d.1
    go true is later =
        let same = is_same from d is in
        let here = at_same from d is in
        let rest = summed-none d (suc from) n (omega (arith, same)) in
        omega (arith, here, rest)
    go false is later =
        let away : suc from ≤ d.0 = grind (arith, nat_tests) in
        let here = at_other from d is in
        let rest = later away in
        omega (arith, here, rest)

summed-two : (p q : ℕ → ℕ) (from n : ℕ) → summed (λ c. p c + q c) from n ≡ summed p from n + summed q from n
summed-two p q from zero = refl
summed-two p q from (suc n) = let r = summed-two p q (suc from) n in omega (arith, r)

summed-nothing : (from n : ℕ) → summed (λ c. 0) from n ≡ 0
summed-nothing from zero = refl
summed-nothing from (suc n) = let r = summed-nothing (suc from) n in omega (arith, r)

-- where no chunk of the list is n or above
steps_by_chunk : (ds : List (ℕ × ℕ)) (n : ℕ) → ((c : ℕ) → n ≤ c → times_in c ds ≡ 0) → steps_in ds ≡ summed (steps_for ds) 0 n
steps_by_chunk [] n none = sym (summed-nothing 0 n)
steps_by_chunk (d ∷ ds) n none =
    let below : d.0 < n = inside (nat_lt d.0 n) refl in
    let one = summed-one d 0 n (omega arith) (omega (arith, below)) in
    let rest = steps_by_chunk ds n (λ c l. let e = none c l in omega (arith, e)) in
    let both : summed (steps_for (d ∷ ds)) 0 n ≡ summed (λ c. steps_at c d) 0 n + summed (steps_for ds) 0 n =
    summed-two (λ c. steps_at c d) (steps_for ds) 0 n in
    omega (arith, one, rest, both)
  where
    inside : (b : Bool) → nat_lt d.0 n ≡ b → d.0 < n
    inside true is = grind (arith, nat_tests)
    inside false is =
        let above : n ≤ d.0 = grind (arith, nat_tests) in
        let e = none d.0 above in
        let one : one_if_same d.0 d.0 ≡ 1 = grind (arith, nat_tests) in
        absurd (omega (arith, e, one))

below_one : (c n : ℕ) → one_if_below c n ≤ 1
below_one c n = grind (arith, nat_tests)

below_none : (c n : ℕ) → n ≤ c → one_if_below c n ≡ 0
below_none c n l = grind (arith, nat_tests)

-- ---- the calls of all chunks are those of all jobs

calls_of_all : ((k : ℕ) (job : Job) → Cover k job) → (jobs : List Job)
    → along (calls_of jobs) 0 (chunk_total jobs) ≡ all_calls jobs
calls_of_all cover [] = refl
calls_of_all cover (job ∷ jobs) =
    let f = calls_of (job ∷ jobs) in
    let n = chunks_in job in
    let m = chunk_total jobs in
    let e : 0 + n ≡ n + 0 = omega arith in
    along-split f 0 n m
    ∙ ap (λ (xs : List Call). xs ++ along f (0 + n) m)
    (along-same f (calls_in_job job) 0 n (λ c l u. at-first calls_in_job [] job jobs c (omega (arith, u)))
    ∙ sym (flat-ones (λ (x : Chunk). calls_in job x.first (x.last - x.first)) (chunk_of 0 job) 0 n)
    ∙ (cover 0 job).calls)
    ∙ ap (λ k. calls_in job 0 (row_count job) ++ along f k m) e
    ∙ ap (λ (xs : List Call). calls_in job 0 (row_count job) ++ xs)
    (along-shift f n 0 m
    ∙ along-same (λ c. f (n + c)) (calls_of jobs) 0 m (λ c l u. at-behind calls_in_job [] job jobs c)
    ∙ calls_of_all cover jobs)

pub charged_all : (jobs : List Job) (n : ℕ) (ds : List (ℕ × ℕ)) → ((k : ℕ) (job : Job) → Cover k job) → n ≡ chunk_total jobs
    → AreOnceAtMost n ds → AllByRecursion (IsCharged jobs) ds → Charges (all_calls jobs) 0 (steps_in ds)
charged_all jobs n ds cover many once h =
    let each : (c : ℕ) → Charges (calls_of jobs c) 0 (steps_for ds c) = λ c. charged_for jobs c ds
    (let o = once c in let b = below_one c n in omega (arith, o, b)) h in
    let sum = steps_by_chunk ds n (λ c l. let o = once c in let b = below_none c n l in omega (arith, o, b)) in
    let all = charged_along jobs ds 0 n 0 each in
    let s : 0 + summed (steps_for ds) 0 n ≡ steps_in ds = omega (arith, sum) in
    subst (λ cs. Charges cs 0 (steps_in ds)) (calls_of_all cover jobs)
    (subst (λ k. Charges (along (calls_of jobs) 0 k) 0 (steps_in ds)) many
    (subst (λ k. Charges (along (calls_of jobs) 0 n) 0 k) s all))
