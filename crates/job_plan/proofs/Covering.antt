-- Chunks cover the rows of a job, each once and in order, and their prices add up.
use Rattle.std.proofs.Common.{◌≡◌, ◌≤◌, ◌<◌, ◌+◌, ◌-◌, ◌*◌, ℕ, zero, suc, min, List, [], ◌∷◌, ◌++◌, length}
use Rattle.std.proofs.Common.{get_or, Some, refl, sym, ap, ◌∙◌, append_assoc, append-nil, subst, map, arith}
use Rattle.std.specs.Prelude.{slice_get, sum_by}
use Rattle.std.specs.Option.{option_map}
use Rattle.std.proofs.lemmas.List.{length-map, map-append}
use Rattle.std.proofs.lemmas.List.Sums.{sum_by-cons}
use Rattle.std.proofs.lemmas.Option.{slice_get-get_or, slice_get-map, get_or_from_slice_get}
use Rattle.std.specs.List.{range_with_len, AllByRecursion}
use Rattle.csr_store.specs.Along.{along, summed}
use Rattle.csr_store.specs.Mask.{row_under, listed_under}
use Rattle.csr_store.proofs.Along.{along-split, along-snoc, along-same}
use Rattle.job_plan.specs.declared.plan.ChunkRows.{ChunkRows}
use Rattle.job_plan.specs.Job.{Job}
use Rattle.job_plan.specs.Forms.{operation}
use Rattle.job_plan.specs.Meaning.{row_count, column_count}
use Rattle.job_plan.specs.Price.{row_price}
use Rattle.job_plan.specs.Chunks.{Chunk, chunk_count, chunk_first, chunk_last, chunk_of, chunks_of, chunks_from, over_chunks}
use Rattle.job_plan.specs.Chunks.{Cover, IsChunkOf, IsChunkAt}
use Rattle.job_plan.specs.inner.Chunks.{rows_of_chunk, rows_of_job, rows_from}
use Rattle.job_plan.proofs.Sums.{summed-split}

module _ {T : Type 0} (g : ℕ → List T) (rows : ℕ) where
  -- what is listed for chunk c
  abbrev part : ℕ → List T
  part c = along g (chunk_first c) (chunk_last rows c - chunk_first c)

  first_parts : (k : ℕ) → 256 * k ≤ rows + 255 → along part 0 k ≡ along g 0 (min (256 * k) rows)
  first_parts zero h = let e : 0 ≡ min (256 * 0) rows = omega arith in ap (along g 0) e
  first_parts (suc k) h =
      let e : suc k ≡ k + 1 = omega arith in
      let z : 0 + k ≡ k = omega arith in
      let y : chunk_first k ≡ 0 + min (256 * k) rows = omega arith in
      let s : min (256 * k) rows + (chunk_last rows k - chunk_first k) ≡ min (256 * suc k) rows = omega arith in
      ap (along part 0) e
      ∙ (along-snoc part 0 k
      ∙ (ap (λ xs. xs ++ part (0 + k)) (first_parts k (omega arith))
      ∙ (ap (λ m. along g 0 (min (256 * k) rows) ++ part m) z
      ∙ (ap (λ m. along g 0 (min (256 * k) rows) ++ along g m (chunk_last rows k - chunk_first k)) y
      ∙ (sym (along-split g 0 (min (256 * k) rows) (chunk_last rows k - chunk_first k)) ∙ ap (along g 0) s)))))

  -- what is listed chunk by chunk is what is listed row by row
  pub chunks_cover : along part 0 (chunk_count rows) ≡ along g 0 rows
  chunks_cover =
      let e : min (256 * chunk_count rows) rows ≡ rows = omega arith in
      first_parts (chunk_count rows) (omega arith) ∙ ap (along g 0) e

-- ---- the same of sums

first_sums : (p : ℕ → ℕ) (rows k : ℕ) → 256 * k ≤ rows + 255
    → summed (λ c. summed p (chunk_first c) (chunk_last rows c - chunk_first c)) 0 k ≡ summed p 0 (min (256 * k) rows)
first_sums p rows zero h = let e : 0 ≡ min (256 * 0) rows = omega arith in ap (summed p 0) e
first_sums p rows (suc k) h =
    let part : ℕ → ℕ = λ c. summed p (chunk_first c) (chunk_last rows c - chunk_first c) in
    let n = chunk_last rows k - chunk_first k in
    let e : suc k ≡ k + 1 = omega arith in
    let a = ap (summed part 0) e in
    let b = summed-split part 0 k 1 in
    let i = first_sums p rows k (omega arith) in
    let t = summed-split p 0 (min (256 * k) rows) n in
    let s : min (256 * k) rows + n ≡ min (256 * suc k) rows = omega arith in
    let u = ap (summed p 0) s in
    let z : 0 + k ≡ k = omega arith in
    let v = ap part z in
    let y : 0 + min (256 * k) rows ≡ chunk_first k = omega arith in
    let w = ap (λ m. summed p m n) y in
    omega arith

pub chunk_sums : (p : ℕ → ℕ) (rows : ℕ)
    → summed (λ c. summed p (chunk_first c) (chunk_last rows c - chunk_first c)) 0 (chunk_count rows) ≡ summed p 0 rows
chunk_sums p rows =
    let e : min (256 * chunk_count rows) rows ≡ rows = omega arith in
    first_sums p rows (chunk_count rows) (omega arith) ∙ ap (summed p 0) e

-- ---- the chunks of a job

over_along : {T : Type 0} (listed : ℕ → ℕ → List T) (chunk : ℕ → Chunk) (from n : ℕ)
    → over_chunks listed (along (λ c. chunk c ∷ []) from n)
    ≡ along (λ c. listed (chunk c).first ((chunk c).last - (chunk c).first)) from n
over_along listed chunk from zero = refl
over_along listed chunk from (suc n) =
    ap (λ xs. listed (chunk from).first ((chunk from).last - (chunk from).first) ++ xs) (over_along listed chunk (suc from) n)

sum_along : (chunk : ℕ → Chunk) (from n : ℕ)
    → sum_by (λ (c : Chunk). c.price) (along (λ c. chunk c ∷ []) from n) ≡ summed (λ c. (chunk c).price) from n
sum_along chunk from zero = refl
sum_along chunk from (suc n) =
    sum_by-cons (λ (c : Chunk). c.price) (chunk from) (along (λ c. chunk c ∷ []) (suc from) n)
    ∙ ap (λ m. (chunk from).price + m) (sum_along chunk (suc from) n)

numbers_along : (from n : ℕ) → range_with_len from n ≡ along (λ i. i ∷ []) from n
numbers_along from zero = refl
numbers_along from (suc n) =
    let e : from + 1 ≡ suc from = omega arith in
    ap (λ k. from ∷ range_with_len k n) e ∙ ap (λ xs. from ∷ xs) (numbers_along (suc from) n)

-- what is listed along the rows is listed along the chunks
pub job_covered : {T : Type 0} (g : ℕ → List T) (k : ℕ) (job : Job)
    → over_chunks (λ first n. along g first n) (chunks_of k job) ≡ along g 0 (row_count job)
job_covered g k job =
    over_along (λ first n. along g first n) (chunk_of k job) 0 (chunk_count (row_count job)) ∙ chunks_cover g (row_count job)

numbers : (k : ℕ) (job : Job) → over_chunks range_with_len (chunks_of k job) ≡ range_with_len 0 (row_count job)
numbers k job =
    over_along range_with_len (chunk_of k job) 0 (chunk_count (row_count job))
    ∙ along-same _ (part (λ i. i ∷ []) (row_count job)) 0 (chunk_count (row_count job))
    (λ c l u. numbers_along (chunk_first c) _)
    ∙ chunks_cover (λ i. i ∷ []) (row_count job) ∙ sym (numbers_along 0 (row_count job))

pub covers : (k : ℕ) (job : Job) → Cover k job
covers k job = record {
  numbers = numbers k job;
  rows = job_covered (λ i. row_under job.mask (column_count job) (operation job.form).value_at i ∷ []) k job;
  calls = job_covered (λ i. listed_under job.mask (column_count job) (operation job.form).calls_at i) k job;
  prices = sum_along (chunk_of k job) 0 (chunk_count (row_count job)) ∙ chunk_sums (row_price job) (row_count job);
}

-- ---- the chunks of a plan

module _ {X : Type 0} (P : X → Type 0) where
  pub all_append : (xs ys : List X) → AllByRecursion P xs → AllByRecursion P ys → AllByRecursion P (xs ++ ys)
  all_append [] ys a b = b
  all_append (x ∷ xs) ys a b = (a.0, all_append xs ys a.1 b)

  pub all_along : (x : ℕ → X) (from n : ℕ) → ((c : ℕ) → from ≤ c → c < from + n → P (x c))
      → AllByRecursion P (along (λ c. x c ∷ []) from n)
  all_along x from zero h = _
  all_along x from (suc n) h =
      (h from (omega arith) (omega arith), all_along x (suc from) n (λ c l u. h c (omega arith) (omega arith)))

  pub all_at : (xs : List X) (i : ℕ) (d : X) → AllByRecursion P xs → i < length xs → P (get_or xs i d)
  all_at [] i d a l = absurd (omega (arith, l))
  all_at (x ∷ xs) zero d a l = a.0
  all_at (x ∷ xs) (suc i) d a l = all_at xs i d a.1 (omega (arith, l))

chunk_is : (all : List Job) (k : ℕ) (job : Job) (c : ℕ) → slice_get all k ≡ Some job → c < chunk_count (row_count job)
    → IsChunkOf all (chunk_of k job c)
chunk_is all k job c e l = record {
  job = job;
  is = e;
  ordered = omega arith;
  within = omega arith;
  priced = refl;
}

all_chunks : (all jobs : List Job) (k : ℕ)
    → ((i : ℕ) (job : Job) → slice_get jobs i ≡ Some job → slice_get all (k + i) ≡ Some job)
    → AllByRecursion (IsChunkOf all) (chunks_from k jobs)
all_chunks all [] k h = _
all_chunks all (job ∷ jobs) k h =
    all_append (IsChunkOf all) (chunks_of k job) (chunks_from (k + 1) jobs)
    (all_along (IsChunkOf all) (chunk_of k job) 0 (chunk_count (row_count job))
    (λ c l u. chunk_is all k job c
    (let z : k + 0 ≡ k = omega arith in sym (ap (slice_get all) z) ∙ h 0 job refl) (omega (arith, u))))
    (all_chunks all jobs (k + 1)
    (λ i j e. let z : k + suc i ≡ (k + 1) + i = omega arith in sym (ap (slice_get all) z) ∙ h (suc i) j e))

pub plan_chunk : (all : List Job) (i : ℕ) (c : Chunk) → i < length (chunks_from 0 all)
    → IsChunkOf all (get_or (chunks_from 0 all) i c)
plan_chunk all i c l =
    all_at (IsChunkOf all) (chunks_from 0 all) i c
    (all_chunks all all 0 (λ i job e. let z : 0 + i ≡ i = omega arith in ap (slice_get all) z ∙ e)) l

-- ---- cutting chunk by chunk, and job by job

-- the chunks of a job before number n were added to some others
pub record IsCutting (k : ℕ) (job : Job) (others : List ChunkRows) (n : ℕ) (chunks : List ChunkRows) : Type 0 where
  pub cut : chunks ≡ others ++ along (λ c. rows_of_chunk k job c ∷ []) 0 n

pub cutting_begins : (k : ℕ) (job : Job) (others : List ChunkRows) → IsCutting k job others 0 others
cutting_begins k job others = record { cut = sym (append-nil others) }

pub cutting_more : (k : ℕ) (job : Job) (others chunks now : List ChunkRows) (n : ℕ) (c : ChunkRows)
    → IsCutting k job others n chunks → c ≡ rows_of_chunk k job n → now ≡ chunks ++ c ∷ []
    → IsCutting k job others (n + 1) now
cutting_more k job others chunks now n c h e is = record {
  cut = is ∙ ap (λ d. chunks ++ d ∷ []) e ∙ ap (λ cs. cs ++ rows_of_chunk k job n ∷ []) h.cut
      ∙ append_assoc others (along (λ c. rows_of_chunk k job c ∷ []) 0 n) (rows_of_chunk k job n ∷ [])
      ∙ ap (λ cs. others ++ cs) (ap (λ m. along (λ c. rows_of_chunk k job c ∷ []) 0 n ++ rows_of_chunk k job m ∷ [])
      (let z : n ≡ 0 + n = omega arith in z)
      ∙ sym (along-snoc (λ c. rows_of_chunk k job c ∷ []) 0 n));
}

pub the_rows : (k : ℕ) (job : Job) (n rows : ℕ) → rows ≡ row_count job
    → record { job = k; first = 256 * n; last = min (256 * n + 256) rows } ≡ rows_of_chunk k job n
the_rows k job n rows r =
    let e : min (256 * n + 256) rows ≡ chunk_last (row_count job) n = omega arith in
    ap (λ m. record { job = k; first = 256 * n; last = m }) e

-- the chunks of the jobs before place k are there: those of the others complete the whole
pub record AreCut (jobs left : List Job) (k : ℕ) (chunks : List ChunkRows) : Type 0 where
  pub cut : chunks ++ rows_from k left ≡ rows_from 0 jobs

-- ---- the chunks that are kept are the rows of those that are meant

abbrev rows_only : Chunk → ChunkRows
rows_only c = record { job = c.job; first = c.first; last = c.last }

rows_along : (k : ℕ) (job : Job) (from n : ℕ)
    → along (λ c. rows_of_chunk k job c ∷ []) from n ≡ map rows_only (along (λ c. chunk_of k job c ∷ []) from n)
rows_along k job from zero = refl
rows_along k job from (suc n) = ap (λ cs. rows_of_chunk k job from ∷ cs) (rows_along k job (suc from) n)

rows_are : (k : ℕ) (jobs : List Job) → rows_from k jobs ≡ map rows_only (chunks_from k jobs)
rows_are k [] = refl
rows_are k (job ∷ jobs) =
    ap (λ cs. cs ++ rows_from (k + 1) jobs) (rows_along k job 0 (chunk_count (row_count job)))
    ∙ ap (λ cs. map rows_only (chunks_of k job) ++ cs) (rows_are (k + 1) jobs)
    ∙ sym (map-append rows_only (chunks_of k job) (chunks_from (k + 1) jobs))

pub rows_count : (jobs : List Job) → length (rows_from 0 jobs) ≡ length (chunks_from 0 jobs)
rows_count jobs = ap length (rows_are 0 jobs) ∙ length-map (chunks_from 0 jobs) rows_only

at_rows : (all : List Job) (c : ℕ) (chunk : Chunk) (x : ChunkRows) → x ≡ rows_only chunk
    → slice_get (chunks_from 0 all) c ≡ Some chunk → IsChunkOf all chunk → IsChunkAt all c x.job x.first x.last
at_rows all c chunk x same is right =
    subst (λ (y : ChunkRows). IsChunkAt all c y.job y.first y.last) (sym same)
    (record { price = chunk.price; is = is; right = right })

-- chunk c has the rows that are kept of it
pub kept_at : (all : List Job) (c : ℕ) (x : ChunkRows) → c < length (chunks_from 0 all) → x ≡ get_or (rows_from 0 all) c x
    → IsChunkAt all c x.job x.first x.last
kept_at all c x l e =
    let d : Chunk = record { job = x.job; first = x.first; last = x.last; price = 0 } in
    let chunk = get_or (chunks_from 0 all) c d in
    let is = slice_get-get_or (chunks_from 0 all) c d l in
    let m = slice_get-map rows_only (chunks_from 0 all) c ∙ ap (λ o. option_map rows_only o) is in
    let g = get_or_from_slice_get (map rows_only (chunks_from 0 all)) c (rows_only chunk) x m in
    let same : x ≡ rows_only chunk = e ∙ ap (λ cs. get_or cs c x) (rows_are 0 all) ∙ g in
    at_rows all c chunk x same is (plan_chunk all c d l)
