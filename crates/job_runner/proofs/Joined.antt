-- The pieces of a job's chunks, joined.
use Rattle.std.proofs.Common.{◌≡◌, ◌<◌, ◌≤◌, ℕ, zero, suc, ◌+◌, ◌-◌, ◌*◌, min, Bool, true, false, cond, nat_lt, length-append, List, [], ◌∷◌, ◌++◌, length, get_or, drop, take, map, refl, sym, ap, ◌∙◌, subst, arith}
use Rattle.std.specs.Prelude.{flat_map, Result as Outcome, Ok, Err, OnOk, OnErr}
use Rattle.std.specs.List.{AllByRecursion}
use Rattle.std.proofs.lemmas.Bool.{lt-ltb, le-ltb}
use Rattle.std.proofs.lemmas.List.{drop_more, take_more, map-append}
use Rattle.csr_store.specs.Along.{along, summed}
use Rattle.csr_store.specs.Grid.{Grid, IsGrid, limit}
use Rattle.csr_store.specs.ByRows.{grid}
use Rattle.csr_store.specs.Run.{Run, all_ended, numbered}
use Rattle.csr_store.specs.Stacked.{IsNext}
use Rattle.csr_store.specs.Mask.{row_under}
use Rattle.csr_store.proofs.Along.{along-split, along-same}
use Rattle.bpf_run.specs.Calls.{Call, steps_of, Charges}
use Rattle.bpf_run.proofs.Charging.{steps-append, charges-le}
use Rattle.job_plan.specs.Forms.{operation}
use Rattle.job_plan.specs.Job.{Job}
use Rattle.job_plan.specs.Meaning.{IsMatrixOf, row_count, column_count, rows_in, calls_in, steps_of_job}
use Rattle.job_plan.specs.Price.{IsWithinPrice}
use Rattle.job_plan.specs.Refusal.{IsPriced}
use Rattle.job_plan.specs.Chunks.{Chunk, Cover, chunk_count, chunk_first, chunk_of, chunks_of, chunks_from}
use Rattle.job_runner.specs.declared.answer.JobResult.{JobResult}
use Rattle.job_runner.specs.Batch.{Result, IsResultOf, AreResultsOf, total_steps, result_of}
use Rattle.job_runner.specs.Chunk.{chunks_in, chunk_total, chunk_rows, run_in_job, calls_in_job, steps_in_job, at_chunk, calls_of, chunk_steps}
use Rattle.job_runner.specs.inner.Pieces.{listed}
use Rattle.job_runner.proofs.Located.{ones-length}
use Rattle.job_runner.proofs.Entries.{length-numbered}
use Rattle.job_runner.proofs.Faultless.{faultless, job_entries}
use Rattle.job_runner.proofs.Matrix.{matrix_of}
use Rattle.job_runner.proofs.Listed.{along-shift, summed-split, summed-shift, summed-same}

-- ---- one job

pub flat-ones : {X T : Type 0} → (f : X → List T) (x : ℕ → X) (from n : ℕ)
    → flat_map f (along (λ c. x c ∷ []) from n) ≡ along (λ c. f (x c)) from n
flat-ones f x from zero = refl
flat-ones f x from (suc n) = ap (λ ys. f (x from) ++ ys) (flat-ones f x (suc from) n)

-- its rows
pub ended_all : (k : ℕ) (job : Job) → Cover k job
    → all_ended (listed (run_in_job job) (chunks_in job)) ≡ rows_in job 0 (row_count job)
ended_all k job c =
    flat-ones (λ (r : Run). r.ended) (run_in_job job) 0 (chunks_in job)
    ∙ sym (flat-ones (λ (x : Chunk). rows_in job x.first (x.last - x.first)) (chunk_of k job) 0 (chunks_in job))
    ∙ c.rows

-- its steps
steps-along : (g : ℕ → List Call) (from n : ℕ) → steps_of (along g from n) ≡ summed (λ c. steps_of (g c)) from n
steps-along g from zero = refl
steps-along g from (suc n) =
    let h = steps-along g (suc from) n in let a = steps-append (g from) (along g (suc from) n) in omega (arith, h, a)

pub steps_all : (k : ℕ) (job : Job) → Cover k job → summed (steps_in_job job) 0 (chunks_in job) ≡ steps_of_job job
steps_all k job c =
    sym (steps-along (calls_in_job job) 0 (chunks_in job))
    ∙ ap steps_of (sym (flat-ones (λ (x : Chunk). calls_in job x.first (x.last - x.first)) (chunk_of k job) 0 (chunks_in job))
    ∙ c.calls)

pub steps_low : (job : Job) → IsPriced job → IsWithinPrice job → steps_of_job job ≤ 4294967296
steps_low job p w =
    let a = w.steps 0 (row_count job) in
    let b = w.bound 0 (row_count job) in
    let l = (faultless job p).price in
    omega (arith, a, b, l)

-- the first rows have no more entries than all
first_few : (job : Job) (m : ℕ) → IsPriced job → m ≤ row_count job → length (numbered 0 (rows_in job 0 m)) ≤ limit
first_few job m p l =
    let row = row_under job.mask (column_count job) (operation job.form).value_at in
    let all = length-numbered 0 row 0 (row_count job) in
    let first = length-numbered 0 row 0 m in
    let split = summed-split (λ i. length (row i)) 0 m (row_count job - m) in
    let e : m + (row_count job - m) ≡ row_count job = omega (arith, l) in
    let a = ap (summed (λ i. length (row i)) 0) e in
    let few = job_entries job p in
    omega (arith, all, first, split, a, few)

-- the rows of its first chunks, n of them
abbrev pub first_rows : Job → ℕ → Run
first_rows job n = record {
  first = 0;
  columns = column_count job;
  ended = rows_in job 0 (min (256 * n) (row_count job));
  opened = [];
}

pub length_first : (job : Job) (n : ℕ) → length (first_rows job n).ended ≡ min (256 * n) (row_count job)
length_first job n = ones-length _ 0 (min (256 * n) (row_count job))

-- the rows of the next chunk come behind them
next_chunk : (job : Job) (n : ℕ) → n < chunks_in job → (first_rows job n).ended ++ (run_in_job job n).ended ≡ (first_rows job (n + 1)).ended
next_chunk job n l =
    let row = row_under job.mask (column_count job) (operation job.form).value_at in
    let first = min (256 * n) (row_count job) in
    let e : first + chunk_rows job n ≡ min (256 * (n + 1)) (row_count job) = omega (arith, l) in
    let f : 256 * n ≡ 0 + first = omega (arith, l) in
    ap (λ k. rows_in job 0 first ++ rows_in job k (chunk_rows job n)) f
    ∙ sym (along-split (λ i. row i ∷ []) 0 first (chunk_rows job n)) ∙ ap (rows_in job 0) e

pub next_run : (job : Job) (n : ℕ) (stack run : Run) → IsPriced job → n < chunks_in job → stack ≡ first_rows job n
    → run ≡ run_in_job job n
    → IsNext run stack × (record stack { ended = stack.ended ++ run.ended } ≡ first_rows job (n + 1))
next_run job n stack run p l s r =
    let first = length_first job n in
    let next : length (rows_in job (chunk_first n) (chunk_rows job n)) ≡ chunk_rows job n = ones-length _ (chunk_first n)
    (chunk_rows job n) in
    let is_next : IsNext (run_in_job job n) (first_rows job n) = record {
      first = omega (arith, first, l);
      columns = refl;
      none_open = refl;
      full = omega (arith, first, l);
      some = omega (arith, next, l);
      even = omega (arith, next, l);
      small = subst (λ rs. length (numbered 0 rs) ≤ limit) (sym (next_chunk job n l))
          (first_few job (min (256 * (n + 1)) (row_count job)) p (omega (arith, l)));
    } in (
      subst (λ x. IsNext x stack) (sym r) (subst (IsNext (run_in_job job n)) (sym s) is_next),
      ap (λ (x : Run). record x { ended = x.ended ++ run.ended }) s
          ∙ ap (λ (x : Run). record (first_rows job n) { ended = (first_rows job n).ended ++ x.ended }) r
          ∙ ap (λ rs. record (first_rows job n) { ended = rs }) (next_chunk job n l),
    )

-- its matrix
pub joined_matrix : (job : Job) (n : ℕ) (stack : Run) (g : Grid) → chunks_in job ≤ n → stack ≡ first_rows job n
    → g ≡ grid (length stack.ended) stack.columns (numbered 0 stack.ended) → IsGrid g → IsMatrixOf job g
joined_matrix job n stack g l s e within =
    let all : min (256 * n) (row_count job) ≡ row_count job = omega (arith, l) in
    let ended = ap (rows_in job 0) all in
    let rows : length (rows_in job 0 (row_count job)) ≡ row_count job = ones-length _ 0 (row_count job) in
    let whole : Grid = grid (row_count job) (column_count job) (numbered 0 (rows_in job 0 (row_count job))) in
    let same : g ≡ whole = e ∙ ap (λ (r : Run). grid (length r.ended) r.columns (numbered 0 r.ended)) s
    ∙ ap (λ rs. grid (length rs) (column_count job) (numbered 0 rs)) ended
    ∙ ap (λ m. grid m (column_count job) (numbered 0 (rows_in job 0 (row_count job)))) rows in
    subst (IsMatrixOf job) (sym same) (matrix_of job (subst IsGrid same within))

-- ---- the first job, and those behind it

module _ {T : Type 0} where
  pub at-first : (said : Job → ℕ → T) (none : T) (job : Job) (jobs : List Job) (c : ℕ) → c < chunks_in job
      → at_chunk said none (job ∷ jobs) c ≡ said job c
  at-first said none job jobs c l =
      ap (λ b. cond b (said job c) (at_chunk said none jobs (c - chunks_in job))) (lt-ltb c (chunks_in job) l)

  pub at-behind : (said : Job → ℕ → T) (none : T) (job : Job) (jobs : List Job) (c : ℕ)
      → at_chunk said none (job ∷ jobs) (chunks_in job + c) ≡ at_chunk said none jobs c
  at-behind said none job jobs c =
      let e : chunks_in job + c - chunks_in job ≡ c = omega arith in
      ap (λ b. cond b (said job (chunks_in job + c)) (at_chunk said none jobs (chunks_in job + c - chunks_in job)))
      (le-ltb (chunks_in job + c) (chunks_in job) (omega arith))
      ∙ ap (at_chunk said none jobs) e

  pub listed-jobs : (said : Job → ℕ → T) (none : T) (job : Job) (jobs : List Job) (m : ℕ)
      → listed (at_chunk said none (job ∷ jobs)) (chunks_in job + m) ≡ listed (said job) (chunks_in job) ++ listed
      (at_chunk said none jobs) m
  listed-jobs said none job jobs m =
      let f = at_chunk said none (job ∷ jobs) in
      let n = chunks_in job in
      let e : 0 + n ≡ n + 0 = omega arith in
      along-split (λ c. f c ∷ []) 0 n m
      ∙ ap (λ xs. xs ++ along (λ c. f c ∷ []) (0 + n) m)
      (along-same (λ c. f c ∷ []) (λ c. said job c ∷ []) 0 n
      (λ c l u. ap (λ x. x ∷ []) (at-first said none job jobs c (omega (arith, u)))))
      ∙ ap (λ k. listed (said job) n ++ along (λ c. f c ∷ []) k m) e
      ∙ ap (λ xs. listed (said job) n ++ xs) (along-shift (λ c. f c ∷ []) n 0 m
      ∙ along-same (λ c. f (n + c) ∷ []) (λ c. at_chunk said none jobs c ∷ []) 0 m
      (λ c l u. ap (λ x. x ∷ []) (at-behind said none job jobs c)))

-- the steps of all chunks
pub total_of_jobs : ((k : ℕ) (job : Job) → Cover k job) → (jobs : List Job)
    → summed (chunk_steps jobs) 0 (chunk_total jobs) ≡ total_steps jobs
total_of_jobs cover [] = refl
total_of_jobs cover (job ∷ jobs) =
    let n = chunks_in job in
    let f = chunk_steps (job ∷ jobs) in
    let e : 0 + n ≡ n + 0 = omega arith in
    let a = summed-split f 0 n (chunk_total jobs) in
    let b = summed-same f (steps_in_job job) 0 n (λ c l u. at-first steps_in_job 0 job jobs c (omega (arith, u))) in
    let d = steps_all 0 job (cover 0 job) in
    let g = ap (λ k. summed f k (chunk_total jobs)) e in
    let h = summed-shift f n 0 (chunk_total jobs) in
    let i = summed-same (λ c. f (n + c)) (chunk_steps jobs) 0 (chunk_total jobs) (λ c l u. at-behind steps_in_job 0 job jobs c) in
    let r = total_of_jobs cover jobs in
    omega (arith, a, b, d, g, h, i, r)

pub count_of_chunks : (k : ℕ) (jobs : List Job) → length (chunks_from k jobs) ≡ chunk_total jobs
count_of_chunks k [] = refl
count_of_chunks k (job ∷ jobs) =
    let a = length-append (chunks_of k job) (chunks_from (k + 1) jobs) in
    let b = ones-length (chunk_of k job) 0 (chunks_in job) in
    let r = count_of_chunks (k + 1) jobs in
    omega (arith, a, b, r)

pub total_low : (jobs : List Job) → AllByRecursion IsPriced jobs → AllByRecursion IsWithinPrice jobs
    → total_steps jobs ≤ 4294967296 * length jobs
total_low [] p w = omega arith
total_low (job ∷ jobs) p w =
    let a = steps_low job p.0 w.0 in let r = total_low jobs p.1 w.1 in omega (arith, a, r)

-- ---- results, one job after another

pub results-more : (jobs : List Job) (results : List Result) (job : Job) (r : Result) → AreResultsOf jobs results → IsResultOf job r
    → AreResultsOf (jobs ++ job ∷ []) (results ++ r ∷ [])
results-more [] [] job r h k = (k, tt)
results-more [] (x ∷ xs) job r h k = absurd h
results-more (j ∷ js) [] job r h k = absurd h
results-more (j ∷ js) (x ∷ xs) job r h k = (h.0, results-more js xs job r h.1 k)

-- the steps of a chunk's calls are those of the chunk
pub steps-of-chunk : (jobs : List Job) (c : ℕ) → steps_of (calls_of jobs c) ≡ chunk_steps jobs c
steps-of-chunk [] c = refl
steps-of-chunk (job ∷ jobs) c = go (nat_lt c (chunks_in job)) (steps-of-chunk jobs (c - chunks_in job))
  where
    go : (b : Bool) → steps_of (calls_of jobs (c - chunks_in job)) ≡ chunk_steps jobs (c - chunks_in job)
        → steps_of (cond b (calls_in_job job c) (calls_of jobs (c - chunks_in job))) ≡ cond b (steps_in_job job c)
        (chunk_steps jobs (c - chunks_in job))
    go true h = refl
    go false h = h

-- what a chunk cost that wanted memory
pub charged-chunk : (jobs : List Job) (c steps : ℕ) → Charges (calls_of jobs c) 0 steps → steps ≤ chunk_steps jobs c
charged-chunk jobs c steps h =
    let a = charges-le (calls_of jobs c) 0 steps h in let e = steps-of-chunk jobs c in omega (arith, a, e)

-- ---- the pieces that are left when some jobs are joined

pub front-listed : {T : Type 0} (said : Job → ℕ → T) (none : T) (jobs : List Job) (job : Job) (i : ℕ) (xs : List T)
    → i < length jobs
    → job ≡ get_or jobs i job → xs ≡ listed (at_chunk said none (drop i jobs)) (chunk_total (drop i jobs))
    → xs ≡ listed (said job) (chunks_in job) ++ listed (at_chunk said none (drop (i + 1) jobs)) (chunk_total (drop (i + 1) jobs))
front-listed said none jobs job i xs l is h =
    h ∙ ap (λ js. listed (at_chunk said none js) (chunk_total js)) (drop_more jobs i job l
    ∙ ap (λ j. j ∷ drop (i + 1) jobs) (sym is))
    ∙ listed-jobs said none job (drop (i + 1) jobs) (chunk_total (drop (i + 1) jobs))

pub done-more : (jobs : List Job) (job : Job) (i : ℕ) (results : List JobResult) (r : JobResult) → i < length jobs
    → job ≡ get_or jobs i job
    → AreResultsOf (take i jobs) (map result_of results) → IsResultOf job (result_of r)
    → AreResultsOf (take (i + 1) jobs) (map result_of (results ++ r ∷ []))
done-more jobs job i results r l is h k =
    let t = take_more jobs i job l ∙ ap (λ j. take i jobs ++ j ∷ []) (sym is) in
    let m = map-append result_of results (r ∷ []) in
    subst (λ js. AreResultsOf js (map result_of (results ++ r ∷ []))) (sym t)
    (subst (λ rs. AreResultsOf (take i jobs ++ job ∷ []) rs) (sym m)
    (results-more (take i jobs) (map result_of results) job (result_of r) h k))

-- what a chunk cost, be it computed or not
pub chunk_at_most : {R E : Type 0} → (jobs : List Job) (c steps : ℕ) (r : Outcome R E) → OnOk r (steps ≡ steps_of (calls_of jobs c))
    → OnErr r (Charges (calls_of jobs c) 0 steps) → steps ≤ chunk_steps jobs c
chunk_at_most jobs c steps (Ok x) a b = let e = steps-of-chunk jobs c in omega (arith, a, e)
chunk_at_most jobs c steps (Err x) a b = charged-chunk jobs c steps b
