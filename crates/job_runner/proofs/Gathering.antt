-- What came back of workers that have ended, taken together.
use Rattle.std.proofs.Common.{◌≡◌, ◌<◌, ◌≤◌, ◌⊎◌, inl, inr, ℕ, zero, suc, ◌+◌, List, [], ◌∷◌, ◌++◌}
use Rattle.std.proofs.Common.{length, Bool, true, false, ◌||◌, refl, sym, ap, ◌∙◌, subst, arith}
use Rattle.std.specs.Prelude.{All}
use Rattle.std.specs.List.{AllByRecursion}
use Rattle.csr_store.specs.Along.{summed}
use Rattle.race_board.specs.declared.worker_state.WorkerState.{WorkerState}
use Rattle.race_board.specs.declared.worker_state.WorkerState.TheVariants.{Drained}
use Rattle.race_board.specs.Race.{Worker, BoardState, SeatState, IsDrained, total_of, times_completed, times_drawn}
use Rattle.race_board.specs.Race.{one_if_same, one_if_below, steps_of, workers_of, IsFinished}
use Rattle.race_board.specs.Chunks.{CostJust, completed_by, recorded_by, failed_chunk, sum_below, times_in}
use Rattle.race_board.proofs.Sums.{sum_append}
use Rattle.race_board.proofs.Elements.{all_snoc}
use Rattle.race_board.proofs.Seats.{workers_snoc}
use Rattle.race_board.proofs.Chunks.{cost_append as just_append, completed_snoc, recorded_steps, closed_recorded, closed_completed, below_one}
use Rattle.bpf_run.specs.Calls.{Charges}
use Rattle.bpf_run.proofs.Charging.{charges-all}
use Rattle.job_plan.specs.Job.{Job}
use Rattle.job_runner.specs.declared.piece.Piece.{Piece}
use Rattle.job_runner.specs.declared.worker_outputs.Ended.{Ended}
use Rattle.job_runner.specs.declared.worker_outputs.WorkerOutputs.{WorkerOutputs}
use Rattle.job_plan.specs.Chunks.{Cover, prices_of}
use Rattle.job_runner.specs.Batch.{all_calls}
use Rattle.race_board.proofs.Finishing.{all_drained, drained_finished}
use Rattle.job_runner.specs.Chunk.{calls_of, chunk_total, chunk_steps}
use Rattle.job_runner.specs.inner.CompletedPieces.{IsFull}
use Rattle.job_runner.specs.Worked.{recorded, IsPieceOf, StandsAfter}
use Rattle.job_runner.specs.inner.Charged.{IsCharged}
use Rattle.job_runner.specs.inner.Crew.{IsEnded, AreWorkerOutputs}
use Rattle.job_runner.proofs.Listed.{summed-split}
use Rattle.job_runner.proofs.Charged.{charged_all}
use Rattle.job_runner.proofs.Joined.{steps-of-chunk}
use Rattle.job_runner.proofs.Costs.{all_listed}

all_append : {X : Type 0} (P : X → Type 0) (xs ys : List X) → AllByRecursion P xs → AllByRecursion P ys → AllByRecursion P (xs ++ ys)
all_append P [] ys h k = k
all_append P (x ∷ xs) ys h k = (h.0, all_append P xs ys h.1 k)

all_before : {X : Type 0} (P : X → Type 0) (xs ys : List X) → AllByRecursion P (xs ++ ys) → AllByRecursion P xs
all_before P [] ys h = tt
all_before P (x ∷ xs) ys h = (h.0, all_before P xs ys h.1)

all_behind : {X : Type 0} (P : X → Type 0) (xs ys : List X) → AllByRecursion P (xs ++ ys) → AllByRecursion P ys
all_behind P [] ys h = h
all_behind P (x ∷ xs) ys h = all_behind P xs ys h.1

cost_pieces : (jobs : List Job) (ps : List Piece) → AllByRecursion (IsPieceOf jobs) ps → AllByRecursion (IsCharged jobs) (recorded ps)
cost_pieces jobs [] h = tt
cost_pieces jobs (p ∷ ps) h =
    let e = h.0.steps in
    let s = steps-of-chunk jobs p.chunk in
    (charges-all (calls_of jobs p.chunk) 0 p.steps (omega (arith, e, s)), cost_pieces jobs ps h.1)

cost_failed : (jobs : List Job) (failed : Bool) (state : WorkerState) → StandsAfter jobs failed state
    → AllByRecursion (IsCharged jobs) (failed_chunk state)
cost_failed jobs false state h = subst (λ (t : WorkerState). AllByRecursion (IsCharged jobs) (failed_chunk t)) (sym h) tt
cost_failed jobs true state h = subst (λ (t : WorkerState). AllByRecursion (IsCharged jobs) (failed_chunk t)) (sym h.2) (h.4, tt)

-- the steps of a worker that has ended
cost_ended : (board : BoardState) (jobs : List Job) (e : Ended) → IsEnded board jobs e
    → AllByRecursion (IsCharged jobs) (e.seat.worker.done ++ failed_chunk e.seat.worker.state)
cost_ended board jobs e h =
    all_append (IsCharged jobs) e.seat.worker.done (failed_chunk e.seat.worker.state)
    (subst (AllByRecursion (IsCharged jobs)) (sym h.done) (cost_pieces jobs e.worked.pieces.items h.pieces))
    (cost_failed jobs e.worked.failed e.seat.worker.state h.stands)

cost_more : (P : ℕ × ℕ → Type 0) (ws : List Worker) (w : Worker) → AllByRecursion P (recorded_by ws)
    → AllByRecursion P (w.done ++ failed_chunk w.state)
    → AllByRecursion P (recorded_by (ws ++ w ∷ []))
cost_more P [] w h k = all_append P (w.done ++ failed_chunk w.state) [] k tt
cost_more P (v ∷ ws) w h k =
    all_append P (v.done ++ failed_chunk v.state) (recorded_by (ws ++ w ∷ []))
    (all_before P (v.done ++ failed_chunk v.state) (recorded_by ws) h)
    (cost_more P ws w (all_behind P (v.done ++ failed_chunk v.state) (recorded_by ws) h) k)

pub gathered_cost : (board : BoardState) (jobs : List Job) (seats : List SeatState) (e : Ended) → IsEnded board jobs e
    → AllByRecursion (IsCharged jobs) (recorded_by (workers_of seats))
    → AllByRecursion (IsCharged jobs) (recorded_by (workers_of (seats ++ e.seat ∷ [])))
gathered_cost board jobs seats e h k =
    subst (λ (ws : List Worker). AllByRecursion (IsCharged jobs) (recorded_by ws)) (sym (workers_snoc seats e.seat))
    (cost_more (IsCharged jobs) (workers_of seats) e.seat.worker k (cost_ended board jobs e h))

just_pieces : (jobs : List Job) (ps : List Piece) → AllByRecursion (IsPieceOf jobs) ps → CostJust (chunk_steps jobs) (recorded ps)
just_pieces jobs [] h = tt
just_pieces jobs (p ∷ ps) h = (h.0.steps, just_pieces jobs ps h.1)

-- what a worker completed took just the steps of its chunks
pub gathered_just : (board : BoardState) (jobs : List Job) (seats : List SeatState) (e : Ended) → IsEnded board jobs e
    → CostJust (chunk_steps jobs) (completed_by (workers_of seats))
    → CostJust (chunk_steps jobs) (completed_by (workers_of (seats ++ e.seat ∷ [])))
gathered_just board jobs seats e h k =
    subst (CostJust (chunk_steps jobs))
    (sym (ap completed_by (workers_snoc seats e.seat) ∙ completed_snoc (workers_of seats) e.seat.worker))
    (just_append (chunk_steps jobs) (completed_by (workers_of seats)) e.seat.worker.done k
    (subst (CostJust (chunk_steps jobs)) (sym h.done) (just_pieces jobs e.worked.pieces.items h.pieces)))

some_of : (a b n : ℕ) → n ≡ a + b → 0 < n → (0 < a) ⊎ (0 < b)
some_of zero b n e l = inr (omega (arith, e, l))
some_of (suc a) b n e l = inl (omega arith)

-- a chunk that these completed was completed by the others or by the last
pub completed_or : (board : BoardState) (jobs : List Job) (seats : List SeatState) (e : Ended) (c : ℕ) → IsEnded board jobs e
    → 0 < times_in c (completed_by (workers_of (seats ++ e.seat ∷ [])))
    → (0 < times_in c (completed_by (workers_of seats))) ⊎ (0 < times_in c (recorded e.worked.pieces.items))
completed_or board jobs seats e c h l =
    some_of (times_in c (completed_by (workers_of seats))) (times_in c (recorded e.worked.pieces.items))
    (times_in c (completed_by (workers_of (seats ++ e.seat ∷ []))))
    (ap (λ (ws : List Worker). times_in c (completed_by ws)) (workers_snoc seats e.seat)
    ∙ (ap (times_in c) (completed_snoc (workers_of seats) e.seat.worker)
    ∙ (sum_append (λ (d : ℕ × ℕ). one_if_same c d.0) (completed_by (workers_of seats)) e.seat.worker.done
    ∙ ap (λ ds. times_in c (completed_by (workers_of seats)) + times_in c ds) h.done)))
    l

ended_told : (jobs : List Job) (failed : Bool) (state : WorkerState) → StandsAfter jobs failed state → failed ≡ false → state ≡ Drained
ended_told jobs false state h e = h
ended_told jobs true state h e = absurd (cc)

pub gathered_told : (board : BoardState) (jobs : List Job) (seats : List SeatState) (e : Ended) → IsEnded board jobs e
    → e.worked.failed ≡ false → All (λ (s : SeatState). IsDrained s.worker) seats
    → All (λ (s : SeatState). IsDrained s.worker) (seats ++ e.seat ∷ [])
gathered_told board jobs seats e h f k =
    all_snoc (λ (s : SeatState). IsDrained s.worker) seats e.seat k (ended_told jobs e.worked.failed e.seat.worker.state h.stands f)

pub neither : (a b : Bool) → (a || b) ≡ false → (a ≡ false) × (b ≡ false)
neither false b h = (refl, h)
neither true b h = absurd (cc)

pub below_summed : (g : ℕ → ℕ) (n : ℕ) → sum_below g n ≡ summed g 0 n
below_summed g zero = refl
below_summed g (suc n) =
    let h = below_summed g n in
    let e : n + 1 ≡ suc n = omega arith in
    let s = summed-split g 0 n 1 in
    let f = ap (summed g 0) e in
    let z : 0 + n ≡ n = omega arith in
    let a = ap (λ k. summed g k 1) z in
    omega (arith, h, s, f, a)

-- where all were told the end, each chunk was completed
pub all_completed : (board : BoardState) (workers : List Worker) (n c : ℕ) → length board.prices ≡ n
    → ((c : ℕ) → total_of (times_completed c) workers ≡ one_if_below c (length board.prices))
    → c < n → 0 < times_in c (completed_by workers)
all_completed board workers n c e done l =
    let each = closed_completed (length board.prices) workers done c in
    let one = below_one c (length board.prices) (omega (arith, l, e)) in
    omega (arith, each, one)

-- what closing the board tells was spent are the steps of some of the calls, each taken at most once
pub gathered_spent : (board : BoardState) (jobs : List Job) (g : WorkerOutputs) (spent : ℕ) → AreWorkerOutputs board jobs g
    → ((c : ℕ) → total_of (times_drawn c) (workers_of g.seats.items) ≤ one_if_below c (length board.prices))
    → spent ≡ total_of steps_of (workers_of g.seats.items) → board.prices ≡ prices_of jobs → ((k : ℕ) (job : Job) → Cover k job)
    → Charges (all_calls jobs) 0 spent
gathered_spent board jobs g spent h once s prices cover =
    let workers = workers_of g.seats.items in
    subst (λ n. Charges (all_calls jobs) 0 n) (recorded_steps workers ∙ sym s)
    (charged_all jobs (length board.prices) (recorded_by workers) cover (all_listed jobs board.prices prices)
    (closed_recorded (length board.prices) workers once) h.cost)

-- where all workers are here and none failed, each chunk has its piece
pub gathered_full : (board : BoardState) (jobs : List Job) (g : WorkerOutputs) → AreWorkerOutputs board jobs g
    → (IsFinished board (workers_of g.seats.items) → All IsDrained (workers_of g.seats.items)
    → (c : ℕ) → total_of (times_completed c) (workers_of g.seats.items) ≡ one_if_below c (length board.prices))
    → board.prices ≡ prices_of jobs → 0 < length g.seats.items → length g.seats.items ≡ board.workers → g.failed ≡ false
    → (c : ℕ) → c < chunk_total jobs → IsFull g.completed_pieces.items c
gathered_full board jobs g h completed prices some whole failed c l =
    let drained = h.drained failed in
    let done = completed (drained_finished board g.seats.items some whole drained) (all_drained g.seats.items drained) in
    h.there c (all_completed board (workers_of g.seats.items) (chunk_total jobs) c (all_listed jobs board.prices prices) done l)
