-- What a worker's turn does to its seat, and what it may spend.
use Rattle.std.proofs.Common.{◌≡◌, ◌<◌, ◌≤◌, ℕ, zero, suc, ◌+◌, ◌-◌, List, [], ◌∷◌, ◌++◌}
use Rattle.std.proofs.Common.{refl, sym, ap, ◌∙◌, subst, arith, append_assoc}
use Rattle.std.specs.List.{AllByRecursion}
use Rattle.csr_store.specs.Along.{summed}
use Rattle.race_board.specs.declared.worker_state.WorkerState.{WorkerState}
use Rattle.race_board.specs.declared.worker_state.WorkerState.TheVariants.{Free}
use Rattle.race_board.specs.Race.{Worker, times_drawn, steps_of, steps_now, holding, completed, failed, IsAboveDraws}
use Rattle.race_board.proofs.Sums.{sum_append}
use Rattle.race_board.proofs.Turns.{completed_drew}
use Rattle.job_plan.specs.Job.{Job}
use Rattle.job_runner.specs.declared.piece.Piece.{Piece}
use Rattle.job_runner.specs.Worked.{recorded, IsPieceOf}
use Rattle.job_runner.specs.inner.Worked.{Adds}
use Rattle.job_runner.proofs.Listed.{summed-split}

summed-more : (p : ℕ → ℕ) (a b : ℕ) → a ≤ b → summed p 0 a ≤ summed p 0 b
summed-more p a b l =
    let s = summed-split p 0 a (b - a) in
    let e : a + (b - a) ≡ b = omega (arith, l) in
    let f = ap (summed p 0) e in
    omega (arith, s, f)

-- what was spent on chunks below `next`, and a chunk from there on
pub spent_room : (p : ℕ → ℕ) (next c n spent steps : ℕ) → spent ≤ summed p 0 next → next ≤ c → c < n → steps ≤ p c
    → (spent + steps ≤ summed p 0 (c + 1)) × (spent + steps ≤ summed p 0 n)
spent_room p next c n spent steps h l u s =
    let a = summed-more p next c l in
    let b = summed-split p 0 c 1 in
    let z : 0 + c ≡ c = omega arith in
    let e = ap (λ k. summed p k 1) z in
    let m = summed-more p (c + 1) n (omega (arith, u)) in
    (omega (arith, h, a, b, e, s), omega (arith, h, a, b, e, s, m))

-- a draw is above all earlier ones
pub above_next : (w : Worker) (next c : ℕ) → (0 < next → 0 < times_drawn (next - 1) w) → IsAboveDraws w c → next ≤ c
above_next w zero c h a = omega arith
above_next w (suc n) c h a =
    let d = h (omega arith) in
    let e : suc n - 1 ≡ n = omega arith in
    let k = a n (subst (λ m. 0 < times_drawn m w) e d) in
    omega (arith, k)

-- the worker's record after a turn
pub turn_steps : (w v u : Worker) (c s : ℕ) → w.state ≡ Free → v ≡ holding c w → u ≡ completed c s v → steps_of u ≡ steps_of w + s
turn_steps w v u c s f d e =
    let a = ap steps_of (e ∙ ap (completed c s) d) in
    let b = sum_append (λ (d : ℕ × ℕ). d.1) w.done ((c, s) ∷ []) in
    let z = ap (λ (t : WorkerState). steps_now t) f in
    omega (arith, a, b, z)

pub fail_steps : (w v u : Worker) (c s : ℕ) → w.state ≡ Free → v ≡ holding c w → u ≡ failed c s v
    → steps_of u ≡ steps_of w + s
fail_steps w v u c s f d e =
    let a = ap steps_of (e ∙ ap (failed c s) d) in
    let z = ap (λ (t : WorkerState). steps_now t) f in
    omega (arith, a, z)

pub turn_drawn : (v u : Worker) (c s : ℕ) → u ≡ completed c s v → 0 < times_drawn ((c + 1) - 1) u
turn_drawn v u c s e =
    let z : (c + 1) - 1 ≡ c = omega arith in
    subst (λ k. 0 < times_drawn k u) (sym z) (subst (λ (x : Worker). 0 < times_drawn c x) (sym e) (completed_drew c s v))

-- one more behind others
pub all_more : {X : Type 0} → (P : X → Type 0) (xs : List X) (x : X) → AllByRecursion P xs → P x → AllByRecursion P (xs ++ x ∷ [])
all_more P [] x h k = (k, tt)
all_more P (y ∷ ys) x h k = (h.0, all_more P ys x h.1 k)

pub right_more : (jobs : List Job) (c s : ℕ) (old new : List Piece) → AllByRecursion (IsPieceOf jobs) old → Adds jobs c s old new
    → AllByRecursion (IsPieceOf jobs) new
right_more jobs c s old new h a =
    subst (AllByRecursion (IsPieceOf jobs)) (sym a.put) (all_more (IsPieceOf jobs) old a.piece h a.right)

pub record_more : (ps : List Piece) (p : Piece) → recorded (ps ++ p ∷ []) ≡ recorded ps ++ (p.chunk, p.steps) ∷ []
record_more [] p = refl
record_more (q ∷ qs) p = ap (λ rs. (q.chunk, q.steps) ∷ rs) (record_more qs p)

pub gained_more : (jobs : List Job) (c s : ℕ) (old new : List Piece) (before now then : List (ℕ × ℕ)) → Adds jobs c s old new
    → now ≡ before ++ recorded old → then ≡ now ++ (c, s) ∷ [] → then ≡ before ++ recorded new
gained_more jobs c s old new before now then a h e =
    e ∙ ap (λ ds. ds ++ (c, s) ∷ []) h ∙ append_assoc before (recorded old) ((c, s) ∷ [])
    ∙ ap (λ ds. before ++ ds) (ap (λ k. recorded old ++ (k, s) ∷ []) (sym a.chunk_is)
    ∙ ap (λ k. recorded old ++ (a.piece.chunk, k) ∷ []) (sym a.steps_is)
    ∙ sym (record_more old a.piece) ∙ ap recorded (sym a.put))
