-- A crew of one, as the seat that shows it; seats that are dealt and gathered.
use Rattle.std.proofs.Common.{◌≡◌, ◌⊎◌, ℕ, zero, suc, ◌+◌, ◌-◌, ◌<◌, List, [], ◌∷◌, ◌++◌, length, Option, Some, None, refl, sym, ap, ◌∙◌, ⊎_elim, inl, inr, arith}
use Rattle.std.specs.Prelude.{slice_get, slice_index_or, IfSome, All}
use Rattle.std.proofs.lemmas.Option.{slice_get-get_or}
use Rattle.race_board.specs.declared.worker_state.WorkerState.{WorkerState}
use Rattle.race_board.specs.declared.worker_state.WorkerState.TheVariants.{Free, Holds}
use Rattle.race_board.specs.Race.{Worker, worker, fresh_worker, fresh_workers, BoardState, SeatState, MayDrawAt, IsAboveDraws, workers_of, total_of, times_drawn}
use Rattle.race_board.specs.Naming.{first_worker}
use Rattle.race_board.specs.inner.Naming.{IsAlone}
use Rattle.race_board.specs.inner.Rule.{first_of, rest_of}
use Rattle.race_board.specs.Crews.{MayDraw, IsAnswer}
use Rattle.race_board.specs.inner.Crews.{HoldsChunk}

pub alone_draws : (ws : List Worker) → IsAlone ws → (first_worker ws).state ≡ Free → MayDraw ws
alone_draws ws alone free = ((first_worker ws).number, (first_worker ws).done, [], alone ∙ ap (λ (s : WorkerState). worker (first_worker ws).number (first_worker ws).done s ∷ []) free)

pub alone_holds : (c : ℕ) (ws : List Worker) → IsAlone ws → (first_worker ws).state ≡ Holds c → HoldsChunk c ws
alone_holds c ws alone holds = ((first_worker ws).number, (first_worker ws).done, [], alone ∙ ap (λ (s : WorkerState). worker (first_worker ws).number (first_worker ws).done s ∷ []) holds)

pub alone_above : (prices : List ℕ) (ws : List Worker) (o : Option ℕ) (later : List Worker) (w : Worker) → IsAlone ws → first_worker ws ≡ w → IsAnswer prices ws o later → IfSome o (λ c. IsAboveDraws w c)
alone_above prices ws None later w alone is a = tt
alone_above prices ws (Some c) later w alone is a = λ k drew. let e = ap (total_of (times_drawn k)) alone in let f = ap (times_drawn k) is in a.2 k (omega arith)

-- the sum of a crew of one is its worker's
pub alone_sum : (f : Worker → ℕ) (ws : List Worker) (w : Worker) → IsAlone ws → first_worker ws ≡ w → total_of f ws ≡ f w
alone_sum f ws w alone is = let e = ap (total_of f) alone in let g = ap f is in omega arith

pub fresh_rest : (k n : ℕ) → k < n → rest_of (fresh_workers k (n - k)) ≡ fresh_workers (k + 1) (n - (k + 1))
fresh_rest k n l = let e : n - k ≡ suc (n - (k + 1)) = omega arith in ap (λ (m : ℕ). rest_of (fresh_workers k m)) e

pub fresh_first : (k n : ℕ) → k < n → first_of (fresh_workers k (n - k)) ≡ fresh_worker k ∷ []
fresh_first k n l = let e : n - k ≡ suc (n - (k + 1)) = omega arith in ap (λ (m : ℕ). first_of (fresh_workers k m)) e

pub fresh_last : (k n : ℕ) → n ≡ k + 1 → fresh_workers k (n - k) ≡ fresh_worker k ∷ []
fresh_last k n l = let e : n - k ≡ suc 0 = omega arith in ap (λ (m : ℕ). fresh_workers k m) e

-- the seats so far are those of the first workers
abbrev pub AreDealt : List ℕ → List SeatState → Type 0
AreDealt name seats = (k : ℕ) (s : SeatState) → slice_get seats k ≡ Some s → (s.board ≡ name) × (s.worker ≡ fresh_worker k)

get_snoc : {A : Type 0} (xs : List A) (x s : A) (k : ℕ) → slice_get (xs ++ x ∷ []) k ≡ Some s → (slice_get xs k ≡ Some s) ⊎ ((k ≡ length xs) × (x ≡ s))
get_snoc [] x s zero e = inr (refl, cc)
get_snoc [] x s (suc k) e = absurd (cc)
get_snoc (y ∷ ys) x s zero e = inl e
get_snoc (y ∷ ys) x s (suc k) e = ⊎_elim (λ a. inl a) (λ (b : (k ≡ length ys) × (x ≡ s)). inr (ap suc b.0, b.1)) (get_snoc ys x s k e)

pub dealt_snoc : (name : List ℕ) (seats : List SeatState) (s : SeatState) → AreDealt name seats → s.board ≡ name → s.worker ≡ fresh_worker (length seats) → AreDealt name (seats ++ s ∷ [])
dealt_snoc name seats s all board is k x e =
    ⊎_elim
    (λ a. all k x a)
    (λ (b : (k ≡ length seats) × (s ≡ x)). (ap (λ (y : SeatState). y.board) (sym b.1) ∙ board, ap (λ (y : SeatState). y.worker) (sym b.1) ∙ (is ∙ ap fresh_worker (sym b.0))))
    (get_snoc seats s x k e)

pub gathered_snoc : (f : Worker → ℕ) (seats : List SeatState) (s : SeatState) → total_of f (workers_of (seats ++ s ∷ [])) ≡ total_of f (workers_of seats) + f s.worker
gathered_snoc f [] s = omega arith
gathered_snoc f (x ∷ xs) s = let a = gathered_snoc f xs s in omega arith

-- seats that are dealt may draw
pub dealt_ready : (board : BoardState) (seats : List SeatState) → AreDealt board.name seats → All (MayDrawAt board) seats
dealt_ready board seats all k d l =
    let f = all k (slice_index_or seats k d) (slice_get-get_or seats k d l) in
    (f.0, ap (λ (w : Worker). w.state) f.1)

pub workers_snoc : (seats : List SeatState) (s : SeatState) → workers_of (seats ++ s ∷ []) ≡ workers_of seats ++ s.worker ∷ []
workers_snoc [] s = refl
workers_snoc (x ∷ xs) s = ap (λ (l : List Worker). x.worker ∷ l) (workers_snoc xs s)
