-- The prices of a plan's chunks, and what chunks cost.
use Rattle.std.proofs.Common.{◌≡◌, ◌<◌, ◌≤◌, ℕ, zero, suc, ◌+◌, ◌^◌, ◌*◌, List, [], ◌∷◌, length, map, get_or, Some}
use Rattle.std.proofs.Common.{refl, ap, ◌∙◌, subst, arith}
use Rattle.std.specs.Prelude.{sum, sum_by}
use Rattle.std.specs.Prelude.{slice_index}
use Rattle.std.specs.Option.{option_map}
use Rattle.std.specs.List.{slice_get, AllByRecursion}
use Rattle.std.proofs.lemmas.Option.{slice_get-get_or, slice_get-map, get_or_from_slice_get}
use Rattle.std.proofs.lemmas.List.{length-map}
use Rattle.std.proofs.lemmas.List.Sums.{sum_by-cons, sum_by-append}
use Rattle.csr_store.specs.Along.{summed}
use Rattle.job_plan.specs.Job.{Job}
use Rattle.job_plan.specs.Price.{IsWithinPrice}
use Rattle.job_plan.specs.Refusal.{IsPriced}
use Rattle.job_plan.specs.Chunks.{Chunk, Cover, prices_of, plan_chunks, chunks_from, chunks_of, chunk_first}
use Rattle.job_runner.specs.Batch.{total_steps}
use Rattle.job_runner.specs.Chunk.{chunk_total, chunk_rows, steps_in_job, chunk_steps}
use Rattle.job_runner.proofs.Faultless.{faultless}
use Rattle.job_runner.proofs.Located.{located, said-at, place_within}
use Rattle.job_runner.proofs.Working.{spent_room}
use Rattle.job_runner.proofs.Joined.{count_of_chunks, total_of_jobs, total_low}

within_at : (jobs : List Job) (i : ℕ) (job : Job) → AllByRecursion IsWithinPrice jobs → slice_get jobs i ≡ Some job
    → IsWithinPrice job
within_at [] i job h e = absurd (cc)
within_at (j ∷ js) zero job h e = let same : j ≡ job = cc in subst IsWithinPrice same h.0
within_at (j ∷ js) (suc i) job h e = within_at js i job h.1 e

-- a chunk's steps are within its price
pub price_enough : (jobs : List Job) (c : ℕ) → AllByRecursion IsWithinPrice jobs → c < length (plan_chunks jobs)
    → chunk_steps jobs c ≤ slice_index (prices_of jobs) c
price_enough jobs c h l =
    let none : Chunk = record { job = 0; first = 0; last = 0; price = 0 } in
    let x = get_or (plan_chunks jobs) c none in
    let there = slice_get-get_or (plan_chunks jobs) c none l in
    let p = located 0 jobs c x there in
    let w = within_at jobs x.job p.job h (place_within jobs c x p) in
    let s = said-at steps_in_job 0 jobs c p.job p.number p.is in
    let a = w.steps (chunk_first p.number) (chunk_rows p.job p.number) in
    let b = w.bound (chunk_first p.number) (chunk_rows p.job p.number) in
    let e = ap (λ (y : Chunk). y.price) p.chunk in
    let m = slice_get-map (λ (y : Chunk). y.price) (plan_chunks jobs) c ∙ ap (λ o. option_map (λ (y : Chunk). y.price) o) there in
    let g = get_or_from_slice_get (prices_of jobs) c x.price 0 m in
    omega (arith, s, a, b, e, g)

pub chunk_listed : (jobs : List Job) (c : ℕ) (prices : List ℕ) → prices ≡ prices_of jobs → c < length prices
    → c < length (plan_chunks jobs)
chunk_listed jobs c prices e l =
    let a = ap (λ (xs : List ℕ). length xs) e in
    let b = length-map (plan_chunks jobs) (λ (x : Chunk). x.price) in
    omega (arith, l, a, b)

pub chunk_there : (jobs : List Job) (c : ℕ) → c < length (plan_chunks jobs) → c < chunk_total jobs
chunk_there jobs c l = let n = count_of_chunks 0 jobs in omega (arith, l, n)

pub all_listed : (jobs : List Job) (prices : List ℕ) → prices ≡ prices_of jobs → length prices ≡ chunk_total jobs
all_listed jobs prices e =
    let a = ap (λ (xs : List ℕ). length xs) e in
    let b = length-map (plan_chunks jobs) (λ (x : Chunk). x.price) in
    let n = count_of_chunks 0 jobs in
    omega (arith, a, b, n)

-- steps that the definition gives are within the price
pub price_there : (jobs : List Job) (c s : ℕ) (prices : List ℕ) → prices ≡ prices_of jobs → AllByRecursion IsWithinPrice jobs
    → c < length (plan_chunks jobs) → s ≤ chunk_steps jobs c → s ≤ slice_index prices c
price_there jobs c s prices e h l m =
    let a = price_enough jobs c h l in
    let b = ap (λ (xs : List ℕ). slice_index xs c) e in
    omega (arith, a, b, m)

-- all chunks together
pub steps_small : (jobs : List Job) → AllByRecursion IsPriced jobs → AllByRecursion IsWithinPrice jobs → length jobs ≤ 64
    → total_steps jobs < 2 ^ 62
steps_small jobs p w few = let low = total_low jobs p w in omega (arith, low, few)

-- what was spent on chunks below `next`, and a chunk from there on, fit a word
pub room_of : (jobs : List Job) (next c spent steps : ℕ) → ((k : ℕ) (job : Job) → Cover k job) → AllByRecursion IsPriced jobs
    → AllByRecursion IsWithinPrice jobs → length jobs ≤ 64 → c < chunk_total jobs → spent ≤ summed (chunk_steps jobs) 0 next
    → next ≤ c → steps ≤ chunk_steps jobs c → spent + steps < 2 ^ 64
room_of jobs next c spent steps cover p w few there sum below most =
    let capacity = (spent_room (chunk_steps jobs) next c (chunk_total jobs) spent steps sum below there most).1 in
    let all = total_of_jobs cover jobs in
    let small = steps_small jobs p w few in
    omega (arith, capacity, all, small)

-- the prices of all chunks together
sum_of_prices : (chunks : List Chunk) → sum (map (λ (c : Chunk). c.price) chunks) ≡ sum_by (λ (c : Chunk). c.price) chunks
sum_of_prices [] = refl
sum_of_prices (c ∷ cs) =
    let a = sum_by-cons (λ (n : ℕ). n) c.price (map (λ (d : Chunk). d.price) cs) in
    let b = sum_by-cons (λ (d : Chunk). d.price) c cs in
    let r = sum_of_prices cs in
    omega (arith, a, b, r)

prices_from : (k : ℕ) (jobs : List Job) → ((k : ℕ) (job : Job) → Cover k job) → AllByRecursion IsPriced jobs
    → sum_by (λ (c : Chunk). c.price) (chunks_from k jobs) ≤ 4294967296 * length jobs
prices_from k [] cover p = omega arith
prices_from k (job ∷ jobs) cover p =
    let one = (cover k job).prices in
    let low = (faultless job p.0).price in
    let both = sum_by-append (λ (c : Chunk). c.price) (chunks_of k job) (chunks_from (k + 1) jobs) in
    let r = prices_from (k + 1) jobs cover p.1 in
    omega (arith, one, low, both, r)

pub prices_small : (jobs : List Job) → ((k : ℕ) (job : Job) → Cover k job) → AllByRecursion IsPriced jobs → length jobs ≤ 64
    → sum (prices_of jobs) ≤ 2 ^ 62
prices_small jobs cover p few =
    let e = sum_of_prices (plan_chunks jobs) in
    let low = prices_from 0 jobs cover p in
    omega (arith, e, low, few)
