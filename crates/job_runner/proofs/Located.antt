-- Where a chunk of the jobs is: in which job, and which of the job's own chunks it is.
use Rattle.std.proofs.Common.{◌≡◌, ◌<◌, ◌≤◌, ◌⊎◌, ℕ, zero, suc, ◌+◌, ◌-◌, cond, List, [], ◌∷◌, ◌++◌, length, Some, refl, sym, ap, ◌∙◌, inl, inr, arith}
use Rattle.std.specs.List.{slice_get}
use Rattle.std.proofs.lemmas.Bool.{lt-ltb, le-ltb}
use Rattle.csr_store.specs.Along.{along}
use Rattle.csr_store.specs.Run.{Run}
use Rattle.job_plan.specs.Job.{Job}
use Rattle.job_plan.specs.Meaning.{row_count, column_count, rows_in, calls_in}
use Rattle.job_plan.specs.Chunks.{Chunk, chunk_count, chunk_first, chunk_last, chunk_of, chunks_of, chunks_from}
use Rattle.job_runner.specs.Chunk.{chunks_in, run_in_job, calls_in_job, at_chunk, run_of, calls_of}

-- ---- lists

module _ {X : Type 0} where
  pub get-front : (xs ys : List X) (c : ℕ) → c < length xs → slice_get (xs ++ ys) c ≡ slice_get xs c
  get-front [] ys c l = absurd (omega (arith, l))
  get-front (x ∷ xs) ys zero l = refl
  get-front (x ∷ xs) ys (suc c) l = get-front xs ys c (omega (arith, l))

  pub get-behind : (xs ys : List X) (c : ℕ) → length xs ≤ c → slice_get (xs ++ ys) c ≡ slice_get ys (c - length xs)
  get-behind [] ys c l = let e : c ≡ c - 0 = omega arith in ap (slice_get ys) e
  get-behind (x ∷ xs) ys zero l = absurd (omega (arith, l))
  get-behind (x ∷ xs) ys (suc c) l =
      let e : c - length xs ≡ suc c - length (x ∷ xs) = omega arith in
      get-behind xs ys c (omega (arith, l)) ∙ ap (slice_get ys) e

  -- one of each number
  pub ones-get : (f : ℕ → X) (from n c : ℕ) → c < n → slice_get (along (λ k. f k ∷ []) from n) c ≡ Some (f (from + c))
  ones-get f from zero c l = absurd (omega (arith, l))
  ones-get f from (suc n) zero l = let e : from ≡ from + 0 = omega arith in ap (λ k. Some (f k)) e
  ones-get f from (suc n) (suc c) l =
      let e : suc from + c ≡ from + suc c = omega arith in
      ones-get f (suc from) n c (omega (arith, l)) ∙ ap (λ k. Some (f k)) e

  pub ones-length : (f : ℕ → X) (from n : ℕ) → length (along (λ k. f k ∷ []) from n) ≡ n
  ones-length f from zero = refl
  ones-length f from (suc n) = let h = ones-length f (suc from) n in omega arith

pub lt_or : (a b : ℕ) → (a < b) ⊎ (b ≤ a)
lt_or zero zero = inr (omega arith)
lt_or zero (suc b) = inl (omega arith)
lt_or (suc a) zero = inr (omega arith)
lt_or (suc a) (suc b) = elim (lt_or a b) [ inl h ↦ inl (omega arith) | inr h ↦ inr (omega arith) ]

some_same : {X : Type 0} → (x y : X) → Some x ≡ Some y → x ≡ y
some_same x y e = cc

-- ---- chunk c of the jobs is chunk n of a job

abbrev pub IsAt : List Job → ℕ → Job → ℕ → Type 0
IsAt [] c job n = ⊥
IsAt (j ∷ js) c job n =
    ((c < chunks_in j) × (j ≡ job) × (c ≡ n)) ⊎ ((chunks_in j ≤ c) × IsAt js (c - chunks_in j) job n)

pub said-at : {T : Type 0} → (said : Job → ℕ → T) (none : T) (jobs : List Job) (c : ℕ) (job : Job) (n : ℕ) → IsAt jobs c job n
    → at_chunk said none jobs c ≡ said job n
said-at said none [] c job n h = absurd h
said-at said none (j ∷ js) c job n h = elim h [
  | inl a ↦ ap (λ b. cond b (said j c) (at_chunk said none js (c - chunks_in j))) (lt-ltb c (chunks_in j) a.0)
      ∙ ap (λ k. said k c) a.1 ∙ ap (said job) a.2
  | inr b ↦ ap (λ t. cond t (said j c) (at_chunk said none js (c - chunks_in j))) (le-ltb c (chunks_in j) b.0)
      ∙ said-at said none js (c - chunks_in j) job n b.1
]

pub record Place (k : ℕ) (jobs : List Job) (c : ℕ) (x : Chunk) : Type 0 where
  pub job : Job
  pub at : ℕ
  pub number : ℕ
  pub there : slice_get jobs at ≡ Some job
  pub below : number < chunks_in job
  pub chunk : x ≡ chunk_of (k + at) job number
  pub is : IsAt jobs c job number

pub located : (k : ℕ) (jobs : List Job) (c : ℕ) (x : Chunk) → slice_get (chunks_from k jobs) c ≡ Some x → Place k jobs c x
located k [] c x e = absurd (cc)
located k (job ∷ jobs) c x e = elim (lt_or c (chunks_in job)) [
  | inl l ↦ here l
  | inr g ↦ later g (located (k + 1) jobs (c - chunks_in job) x)
]
  where
    size : length (chunks_of k job) ≡ chunks_in job
    size = ones-length (chunk_of k job) 0 (chunks_in job)

    here : c < chunks_in job → Place k (job ∷ jobs) c x
    here l =
        let s = size in
        let own = ones-get (chunk_of k job) 0 (chunks_in job) c l in
        let z : 0 + c ≡ c = omega arith in
        let y : k ≡ k + 0 = omega arith in
        let same = some_same (chunk_of k job (0 + c)) x
        (sym own ∙ sym (get-front (chunks_of k job) (chunks_from (k + 1) jobs) c (omega (arith, s, l))) ∙ e) in
        record {
          job = job;
          at = 0;
          number = c;
          there = refl;
          below = l;
          chunk = sym same ∙ ap (chunk_of k job) z ∙ ap (λ i. chunk_of i job c) y;
          is = inl (l, refl, refl);
        }

    later : chunks_in job ≤ c → (slice_get (chunks_from (k + 1) jobs) (c - chunks_in job) ≡ Some x
        → Place (k + 1) jobs (c - chunks_in job) x)
        → Place k (job ∷ jobs) c x
    later g rest =
        let s = size in
        let b = get-behind (chunks_of k job) (chunks_from (k + 1) jobs) c (omega (arith, s, g)) in
        let p = rest (ap (λ n. slice_get (chunks_from (k + 1) jobs) (c - n)) (sym s) ∙ sym b ∙ e) in
        let y : (k + 1) + p.at ≡ k + suc p.at = omega arith in
        record {
          job = p.job;
          at = suc p.at;
          number = p.number;
          there = p.there;
          below = p.below;
          chunk = p.chunk ∙ ap (λ i. chunk_of i p.job p.number) y;
          is = inr (g, p.is);
        }

-- ---- what a plan says of a chunk

pub place_within : (jobs : List Job) (c : ℕ) (x : Chunk) → (p : Place 0 jobs c x) → slice_get jobs x.job ≡ Some p.job
place_within jobs c x p =
    let e : x.job ≡ 0 + p.at = ap (λ (y : Chunk). y.job) p.chunk in
    let z : 0 + p.at ≡ p.at = omega arith in
    ap (slice_get jobs) (e ∙ z) ∙ p.there

pub chunk_ordered : (rows n : ℕ) → n < chunk_count rows → chunk_first n ≤ chunk_last rows n
chunk_ordered rows n l = omega (arith, l)

pub place_ordered : (jobs : List Job) (c : ℕ) (x : Chunk) → Place 0 jobs c x → x.first ≤ x.last
place_ordered jobs c x p =
    let f : x.first ≡ chunk_first p.number = ap (λ (y : Chunk). y.first) p.chunk in
    let l : x.last ≡ chunk_last (row_count p.job) p.number = ap (λ (y : Chunk). y.last) p.chunk in
    let o = chunk_ordered (row_count p.job) p.number p.below in
    omega (arith, f, l, o)

pub place_rows : (jobs : List Job) (c : ℕ) (x : Chunk) (job : Job) → (p : Place 0 jobs c x) → job ≡ p.job → x.last ≤ row_count job
place_rows jobs c x job p e =
    let l : x.last ≡ chunk_last (row_count p.job) p.number = ap (λ (y : Chunk). y.last) p.chunk in
    let r : row_count job ≡ row_count p.job = ap row_count e in
    omega (arith, l, r)

pub place_run : (jobs : List Job) (c : ℕ) (x : Chunk) (job : Job) → (p : Place 0 jobs c x) → job ≡ p.job
    → (let run : Run = record {
      first = x.first;
      columns = column_count job;
      ended = rows_in job x.first (x.last - x.first);
      opened
          = [];
    } in run)
    ≡ run_of jobs c
place_run jobs c x job p e =
    ap (λ (j : Job). let run : Run = record {
      first = x.first;
      columns = column_count j;
      ended = rows_in j x.first
          (x.last - x.first);
      opened = [];
    } in run) e
    ∙ ap (λ (y : Chunk). let run : Run = record {
      first = y.first;
      columns = column_count p.job;
      ended = rows_in p.job y.first
          (y.last - y.first);
      opened = [];
    } in run) p.chunk
    ∙ sym (said-at run_in_job (record { first = 0; columns = 0; ended = []; opened = [] }) jobs c p.job p.number p.is)

pub place_calls : (jobs : List Job) (c : ℕ) (x : Chunk) (job : Job) → (p : Place 0 jobs c x) → job ≡ p.job
    → calls_in job x.first (x.last - x.first) ≡ calls_of jobs c
place_calls jobs c x job p e =
    ap (λ (j : Job). calls_in j x.first (x.last - x.first)) e
    ∙ ap (λ (y : Chunk). calls_in p.job y.first (y.last - y.first)) p.chunk
    ∙ sym (said-at calls_in_job [] jobs c p.job p.number p.is)
