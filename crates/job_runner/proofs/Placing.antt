-- Pieces put at the places of their chunks, and what they give, taken off in order.
use Rattle.std.proofs.Common.{◌≡◌, ◌<◌, ◌⊎◌, inl, inr, ℕ, zero, suc, ◌+◌, List, [], ◌∷◌, ◌++◌, ◌-◌, map}
use Rattle.std.proofs.Common.{length, replicate, true, false, cond, is_some, refl, sym, ap, ◌∙◌, subst, arith}
use Rattle.std.specs.Prelude.{Option, Some, None}
use Rattle.std.specs.List.{slice_get, AllByRecursion}
use Rattle.std.proofs.Math.ListN.{set, replicate-append-replicate}
use Rattle.std.proofs.lemmas.Option.{slice_get_within}
use Rattle.std.proofs.lemmas.Bool.{lt-ltb, le-ltb}
use Rattle.std.proofs.lemmas.Bool.Decides.{nat_tests}
use Rattle.race_board.specs.Race.{one_if_same}
use Rattle.race_board.specs.Chunks.{times_in}
use Rattle.race_board.proofs.Sums.{sum_append}
use Rattle.csr_store.specs.Along.{along}
use Rattle.csr_store.specs.Run.{Run}
use Rattle.job_plan.specs.Job.{Job}
use Rattle.job_runner.specs.declared.piece.Piece.{Piece}
use Rattle.job_runner.specs.Worked.{recorded, IsPieceOf}
use Rattle.job_runner.specs.Chunk.{chunks_in, chunk_total, run_in_job, steps_in_job, run_of, chunk_steps, none_run}
use Rattle.job_runner.specs.inner.Pieces.{AreAll, given, given_at, job_gives, gives, listed}
use Rattle.job_runner.specs.inner.CompletedPieces.{AreCompletedPieces, ArePlaced, IsFull}
use Rattle.job_runner.proofs.Listed.{next-listed}
use Rattle.job_runner.proofs.Located.{lt_or}
use Rattle.job_runner.proofs.Working.{record_more}

abbrev IsOther : ℕ → ℕ → Type 0
IsOther a b = (a < b) ⊎ (b < a)

same_or : (a b : ℕ) → (a ≡ b) ⊎ IsOther a b
same_or zero zero = inl refl
same_or zero (suc b) = inr (inl (omega arith))
same_or (suc a) zero = inr (inr (omega arith))
same_or (suc a) (suc b) = elim (same_or a b) [
  | inl h ↦ inl (ap suc h)
  | inr h ↦ inr (elim h [ inl l ↦ inl (omega (arith, l)) | inr l ↦ inr (omega (arith, l)) ])
]

some_same : {X : Type 0} → (x y : X) → Some x ≡ Some y → x ≡ y
some_same x y e = cc

set_here : {X : Type 0} (xs : List X) (i : ℕ) (x : X) → i < length xs → slice_get (set xs i x) i ≡ Some x
set_here [] i x l = absurd (omega (arith, l))
set_here (y ∷ ys) zero x l = refl
set_here (y ∷ ys) (suc i) x l = set_here ys i x (omega (arith, l))

set_other : {X : Type 0} (xs : List X) (i k : ℕ) (x : X) → IsOther k i → slice_get (set xs i x) k ≡ slice_get xs k
set_other [] i k x n = refl
set_other (y ∷ ys) zero zero x n = elim n [ inl l ↦ absurd (omega (arith, l)) | inr l ↦ absurd (omega (arith, l)) ]
set_other (y ∷ ys) zero (suc k) x n = refl
set_other (y ∷ ys) (suc i) zero x n = refl
set_other (y ∷ ys) (suc i) (suc k) x n =
    set_other ys i k x (elim n [ inl l ↦ inl (omega (arith, l)) | inr l ↦ inr (omega (arith, l)) ])

-- a piece is put at its place
pub put_placed : (jobs : List Job) (completed_pieces : List (Option Piece)) (p : Piece) → p.chunk < length completed_pieces → IsPieceOf jobs p
    → ArePlaced jobs completed_pieces → ArePlaced jobs (set completed_pieces p.chunk (Some p))
put_placed jobs completed_pieces p l r h c q e = elim (same_or c p.chunk) [
  | inl s ↦
      let here = subst (λ k. slice_get (set completed_pieces p.chunk (Some p)) k ≡ Some (Some q)) s e in
      let same = some_same p q (some_same (Some p) (Some q) (sym (set_here completed_pieces p.chunk (Some p) l) ∙ here)) in
      (subst (IsPieceOf jobs) same r, ap (λ (x : Piece). x.chunk) (sym same) ∙ sym s)
  | inr o ↦ h c q (sym (set_other completed_pieces p.chunk c (Some p) o) ∙ e)
]

pub put_kept : (completed_pieces : List (Option Piece)) (p : Piece) (c : ℕ) → p.chunk < length completed_pieces → IsFull completed_pieces c
    → IsFull (set completed_pieces p.chunk (Some p)) c
put_kept completed_pieces p c l h = elim (same_or c p.chunk) [
  | inl s ↦ (p, ap (λ k. slice_get (set completed_pieces p.chunk (Some p)) k) s ∙ set_here completed_pieces p.chunk (Some p) l)
  | inr o ↦ (h.0, set_other completed_pieces p.chunk c (Some p) o ∙ h.1)
]

pub put_here : (completed_pieces : List (Option Piece)) (p : Piece) (c : ℕ) → p.chunk < length completed_pieces → c ≡ p.chunk
    → IsFull (set completed_pieces p.chunk (Some p)) c
put_here completed_pieces p c l s = (p, ap (λ k. slice_get (set completed_pieces p.chunk (Some p)) k) s ∙ set_here completed_pieces p.chunk (Some p) l)

same_number : (c d : ℕ) → 0 < one_if_same c d → c ≡ d
same_number c d h = grind (arith, nat_tests)

one_more : (c a d n : ℕ) → n ≡ a + (one_if_same c d + 0) → 0 < n → (0 < a) ⊎ (c ≡ d)
one_more c zero d n e l = inr (same_number c d (omega (arith, e, l)))
one_more c (suc a) d n e l = inl (omega arith)

-- a chunk of pieces in hand is that of the last, or of the others
pub last_or : (rest : List Piece) (p : Piece) (c : ℕ) → 0 < times_in c (recorded (rest ++ p ∷ []))
    → (0 < times_in c (recorded rest)) ⊎ (c ≡ p.chunk)
last_or rest p c l =
    one_more c (times_in c (recorded rest)) p.chunk (times_in c (recorded (rest ++ p ∷ [])))
    (ap (times_in c) (record_more rest p) ∙ sum_append (λ (d : ℕ × ℕ). one_if_same c d.0) (recorded rest) ((p.chunk, p.steps) ∷ []))
    l

pub put_there : (completed_pieces : List (Option Piece)) (rest pieces : List Piece) (p : Piece) (c : ℕ) → p.chunk < length completed_pieces
    → pieces ≡ rest ++ p ∷ [] → (0 < times_in c (recorded pieces)) ⊎ IsFull completed_pieces c
    → (0 < times_in c (recorded rest)) ⊎ IsFull (set completed_pieces p.chunk (Some p)) c
put_there completed_pieces rest pieces p c l e h = elim h [
  | inl a ↦ elim (last_or rest p c (subst (λ (ps : List Piece). 0 < times_in c (recorded ps)) e a)) [
    | inl b ↦ inl b
    | inr s ↦ inr (put_here completed_pieces p c l s)
  ]
  | inr f ↦ inr (put_kept completed_pieces p c l f)
]

pub all_front : {X : Type 0} (P : X → Type 0) (xs : List X) (x : X) → AllByRecursion P (xs ++ x ∷ []) → AllByRecursion P xs
all_front P [] x h = tt
all_front P (y ∷ ys) x h = (h.0, all_front P ys x h.1)

pub all_end : {X : Type 0} (P : X → Type 0) (xs : List X) (x : X) → AllByRecursion P (xs ++ x ∷ []) → P x
all_end P [] x h = h.0
all_end P (y ∷ ys) x h = all_end P ys x h.1

-- no place of many is full
none_there : (n c : ℕ) (p : Piece) → slice_get (replicate n None) c ≡ Some (Some p) → ⊥
none_there zero c p e = absurd (cc)
none_there (suc n) zero p e = absurd (cc)
none_there (suc n) (suc c) p e = none_there n c p e

pub none_placed : (jobs : List Job) (n : ℕ) → ArePlaced jobs (replicate n None)
none_placed jobs n c p e = absurd (none_there n c p e)

pub none_more : (n : ℕ) (completed_pieces : List (Option Piece)) → completed_pieces ≡ replicate n None → completed_pieces ++ None ∷ [] ≡ replicate (n + 1) None
none_more n completed_pieces h = ap (λ xs. xs ++ None ∷ []) h ∙ replicate-append-replicate n 1 None

-- what the pieces at the places give, all of them there

mapped : {X T : Type 0} → (g : X → T) (f : ℕ → T) (xs : List X) (from : ℕ)
    → ((k : ℕ) (x : X) → slice_get xs k ≡ Some x → g x ≡ f (from + k)) → map g xs ≡ along (λ c. f c ∷ []) from (length xs)
mapped g f [] from h = refl
mapped g f (x ∷ xs) from h =
    let z : from + 0 ≡ from = omega arith in
    let first = h 0 x refl ∙ ap f z in
    ap (λ y. y ∷ map g xs) first ∙ ap (λ ys. f from ∷ ys) (mapped g f xs (suc from) (λ k y e.
    let m : from + suc k ≡ suc from + k = omega arith in h (suc k) y e ∙ ap f m))

-- some rows and steps, and each of the two
abbrev told : Run → ℕ → Option (Run × ℕ)
told r n = Some (r, n)

abbrev rows_told : Option (Run × ℕ) → Run
rows_told None = none_run
rows_told (Some t) = t.0

abbrev steps_told : Option (Run × ℕ) → ℕ
steps_told None = 0
steps_told (Some t) = t.1

gives_is : (jobs : List Job) (c : ℕ) → c < chunk_total jobs → gives jobs c ≡ told (run_of jobs c) (chunk_steps jobs c)
gives_is [] c l = absurd (omega (arith, l))
gives_is (job ∷ jobs) c l =
    let rest = c - chunks_in job in
    elim (lt_or c (chunks_in job)) [
      | inl a ↦ let t = lt-ltb c (chunks_in job) a in
          ap (λ b. cond b (job_gives job c) (gives jobs rest)) t
          ∙ sym (ap (λ b. told (cond b (run_in_job job c) (run_of jobs rest)) (cond b (steps_in_job job c) (chunk_steps jobs rest))) t)
      | inr m ↦ let t = le-ltb c (chunks_in job) m in
          ap (λ b. cond b (job_gives job c) (gives jobs rest)) t
          ∙ gives_is jobs rest (omega (arith, l, m))
          ∙ sym (ap (λ b. told (cond b (run_in_job job c) (run_of jobs rest)) (cond b (steps_in_job job c) (chunk_steps jobs rest))) t)
    ]

pub all_given : (jobs : List Job) (completed_pieces : List (Option Piece)) → AreCompletedPieces jobs completed_pieces
    → ((c : ℕ) → c < chunk_total jobs → IsFull completed_pieces c) → AreAll jobs completed_pieces
all_given jobs completed_pieces are full =
    mapped given (gives jobs) completed_pieces 0 (λ k o e.
    let long = are.long in
    let within = slice_get_within completed_pieces k o e in
    let inside : k < chunk_total jobs = omega (arith, within, long) in
    let there = full k inside in
    let right = are.placed k there.0 there.1 in
    let same : o ≡ Some there.0 = some_same o (Some there.0) (sym e ∙ there.1) in
    let z : k ≡ 0 + k = omega arith in
    ap given same ∙ ap (λ r. told r there.0.steps) (right.0.rows ∙ ap (run_of jobs) right.1)
    ∙ ap (λ n. told (run_of jobs k) n) (right.0.steps ∙ ap (chunk_steps jobs) right.1)
    ∙ sym (gives_is jobs k inside) ∙ ap (gives jobs) z)
    ∙ ap (listed (gives jobs)) are.long

-- what the next place gives
pub next_given : (job : Job) (i n : ℕ) (p : Piece) (rest : List (Option Piece)) (others : List (Option (Run × ℕ))) → i < n
    → given_at (Some p ∷ rest) ≡ along (λ c. job_gives job c ∷ []) i (n - i) ++ others
    → (p.rows ≡ run_in_job job i) × (p.steps ≡ steps_in_job job i)
    × (given_at rest ≡ along (λ c. job_gives job c ∷ []) (i + 1) (n - (i + 1)) ++ others)
next_given job i n p rest others l h =
    let next = next-listed (job_gives job) i n (given (Some p)) (given_at rest) others l h in
    (ap rows_told next.0, ap steps_told next.0, next.1)

-- a place is not empty, while some are left
pub none_given : (job : Job) (i n : ℕ) (rest : List (Option Piece)) (others : List (Option (Run × ℕ))) → i < n
    → given_at (None ∷ rest) ≡ along (λ c. job_gives job c ∷ []) i (n - i) ++ others → ⊥
none_given job i n rest others l h =
    let next = next-listed (job_gives job) i n (given None) (given_at rest) others l h in
    let e : false ≡ true = ap is_some next.0 in absurd (cc)
