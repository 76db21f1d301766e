-- What an event makes of a race, by how its worker stands.
use Rattle.std.proofs.Common.{◌≡◌, ℕ, ◌+◌, ◌^◌, ◌<◌, ◌≤◌, List, [], ◌∷◌, length, Option, Some, None, Bool, true, false, refl, sym, ap, ◌∙◌, subst, arith}
use Rattle.std.specs.Prelude.{slice_get, slice_set, slice_index, nat_lt, nat_le, ◌==◌, ◌&&◌, if◌then◌else◌, nat_eq}
use Rattle.std.proofs.lemmas.Bool.Decides.{nat_tests}
use Rattle.std.proofs.lemmas.Option.{slice_get_within}
use Rattle.race_board.specs.declared.worker_state.WorkerState.{WorkerState}
use Rattle.race_board.specs.declared.worker_state.WorkerState.TheVariants.{Free, Holds, Drained, Failed}
use Rattle.race_board.specs.declared.event.RaceEvent.TheVariants.{Draw}
use Rattle.race_board.specs.Race.{
  Worker,
  worker,
  RaceState,
  race,
  state_after,
  drawn,
  completed,
  failed,
  total_of,
  steps_of,
  steps_now,
  may_draw,
  may_record,
  draw_by,
  record_by,
  after_event,
  ends_of,
}
use Rattle.race_board.specs.inner.Race.{may_record_by}
use Rattle.race_board.specs.inner.Balance.{held_price, IsRun}
use Rattle.race_board.proofs.Sums.{sum_set, sum_has, sum_le, count_of_all, sum_append, prices_below}
use Rattle.race_board.proofs.Balances.{ends_one}

-- the count is at most the chunks and the workers
pub count_below : (r : RaceState) → IsRun r → r.count ≤ length r.prices + length r.workers
count_below r h =
    let a = h.balanced.counted in
    let b = h.balanced.draws in
    let c = sum_le ends_of (λ (w : Worker). 1) ends_one r.workers in
    let d = count_of_all r.workers in
    omega arith

pub draws_none : (r : RaceState) (w : ℕ) → slice_get r.workers w ≡ None → after_event r (Draw w) ≡ r
draws_none r w e = ap (draw_by r w) e

pub draws_busy : (r : RaceState) (w : ℕ) (x : Worker) → slice_get r.workers w ≡ Some x → ¬ (x.state ≡ Free) → after_event r (Draw w) ≡ r
draws_busy r w x e busy = ap (draw_by r w) e ∙ go x.state refl
  where
    go : (s : WorkerState) → x.state ≡ s → (if may_draw s then race r.prices (r.count + 1) (slice_set r.workers w (drawn r.prices r.count x)) else r) ≡ r
    go Free is = absurd (busy is)
    go (Holds c) is = refl
    go Drained is = refl
    go (Failed c s) is = refl

pub draws_free : (r : RaceState) (w : ℕ) (x q new : Worker) → slice_get r.workers w ≡ Some x → slice_get r.workers w ≡ Some q → x.state ≡ Free → new ≡ worker q.number q.done (state_after (length r.prices) r.count)
    → after_event r (Draw w) ≡ race r.prices (r.count + 1) (slice_set r.workers w new)
draws_free r w x q new a b free is =
    let same : q ≡ x = cc in
    let stands : q.state ≡ Free = ap (λ (y : Worker). y.state) same ∙ free in
    ap (draw_by r w) b
    ∙ (ap (λ (s : WorkerState). if may_draw s then race r.prices (r.count + 1) (slice_set r.workers w (drawn r.prices r.count q)) else r) stands
    ∙ ap (λ (y : Worker). race r.prices (r.count + 1) (slice_set r.workers w y)) (sym is))

pub draws_spend_nothing : (r : RaceState) (w : ℕ) (x q new : Worker) → slice_get r.workers w ≡ Some x → slice_get r.workers w ≡ Some q → x.state ≡ Free → new ≡ worker q.number q.done (state_after (length r.prices) r.count)
    → total_of steps_of r.workers ≡ total_of steps_of (slice_set r.workers w new)
draws_spend_nothing r w x q new a b free is =
    let same : q ≡ x = cc in
    let stands : q.state ≡ Free = ap (λ (y : Worker). y.state) same ∙ free in
    let old = ap steps_now stands in
    let now : steps_now (state_after (length r.prices) r.count) ≡ 0 = go (nat_lt r.count (length r.prices)) in
    let e = sum_set steps_of r.workers w q new b in
    let n = ap steps_of is in
    omega arith
  where
    go : (t : Bool) → steps_now (if t then Holds r.count else Drained) ≡ 0
    go true = refl
    go false = refl

pub may_none : (ps : List ℕ) (c s w : ℕ) (ws : List Worker) → slice_get ws w ≡ None → false ≡ may_record_by ps c s (slice_get ws w)
may_none ps c s w ws e = sym (ap (may_record_by ps c s) e)

pub may_busy : (ps : List ℕ) (c s w : ℕ) (ws : List Worker) (x : Worker) → slice_get ws w ≡ Some x → ((d : ℕ) → ¬ (x.state ≡ Holds d)) → false ≡ may_record_by ps c s (slice_get ws w)
may_busy ps c s w ws x e busy = sym (ap (may_record_by ps c s) e ∙ go x.state refl)
  where
    go : (t : WorkerState) → x.state ≡ t → may_record ps c s t ≡ false
    go Free is = refl
    go (Holds d) is = absurd (busy d is)
    go Drained is = refl
    go (Failed d u) is = refl

pub may_held : (ps : List ℕ) (c s w d : ℕ) (ws : List Worker) (x : Worker) → slice_get ws w ≡ Some x → x.state ≡ Holds d → (d == c) && nat_le s (slice_index ps c) ≡ may_record_by ps c s (slice_get ws w)
may_held ps c s w d ws x e held = sym (ap (may_record_by ps c s) e ∙ ap (may_record ps c s) held)

pub may_here : (ps : List ℕ) (c s w d price : ℕ) (ws : List Worker) (x : Worker) → slice_get ws w ≡ Some x → x.state ≡ Holds d → d ≡ c → price ≡ slice_index ps d → nat_le s price ≡ may_record_by ps c s (slice_get ws w)
may_here ps c s w d price ws x e held same is =
    let t : (d == c) ≡ true = grind (arith, nat_tests) in
    let p : price ≡ slice_index ps c = is ∙ ap (slice_index ps) same in
    ap (nat_le s) p ∙ (ap (λ b. b && nat_le s (slice_index ps c)) (sym t) ∙ may_held ps c s w d ws x e held)

pub may_elsewhere : (ps : List ℕ) (c s w d : ℕ) (ws : List Worker) (x : Worker) → slice_get ws w ≡ Some x → x.state ≡ Holds d → ¬ (d ≡ c) → nat_eq d c ≡ may_record_by ps c s (slice_get ws w)
may_elsewhere ps c s w d ws x e held other =
    let f : nat_eq d c ≡ false = grind (arith, nat_tests) in
    let t : (d == c) ≡ false = grind (arith, nat_tests) in
    f ∙ (ap (λ b. b && nat_le s (slice_index ps c)) (sym t) ∙ may_held ps c s w d ws x e held)

-- what a worker that may record holds
record MayRecord (r : RaceState) (w c s : ℕ) : Type 0 where
  number : ℕ
  done : List (ℕ × ℕ)
  at : slice_get r.workers w ≡ Some (worker number done (Holds c))
  price : s ≤ slice_index r.prices c

may_record_of : (r : RaceState) (w c s : ℕ) → true ≡ may_record_by r.prices c s (slice_get r.workers w) → MayRecord r w c s
may_record_of r w c s e = by_worker (slice_get r.workers w) refl e
  where
    by_tests : (x : Worker) (d : ℕ) → slice_get r.workers w ≡ Some (worker x.number x.done (Holds d)) → true ≡ (d == c) && nat_le s (slice_index r.prices c) → MayRecord r w c s
    by_tests x d at t =
        let same : d ≡ c = grind (arith, nat_tests) in
        record { number = x.number; done = x.done; at = subst (λ (k : ℕ). slice_get r.workers w ≡ Some (worker x.number x.done (Holds k))) same at; price = grind (arith, nat_tests) }

    by_state : (x : Worker) (t : WorkerState) → slice_get r.workers w ≡ Some (worker x.number x.done t) → true ≡ may_record r.prices c s t → MayRecord r w c s
    by_state x Free at t = absurd (cc)
    by_state x (Holds d) at t = by_tests x d at t
    by_state x Drained at t = absurd (cc)
    by_state x (Failed d u) at t = absurd (cc)

    by_worker : (o : Option Worker) → slice_get r.workers w ≡ o → true ≡ may_record_by r.prices c s o → MayRecord r w c s
    by_worker None at t = absurd (cc)
    by_worker (Some x) at t = by_state x x.state at t

pub may_within : (r : RaceState) (w c s : ℕ) → true ≡ may_record_by r.prices c s (slice_get r.workers w) → w < length r.workers
may_within r w c s e = let m = may_record_of r w c s e in slice_get_within r.workers w (worker m.number m.done (Holds c)) m.at

-- the steps of a chunk that is held have room
pub records_fit : (r : RaceState) (w c s : ℕ) → IsRun r → true ≡ may_record_by r.prices c s (slice_get r.workers w) → total_of steps_of r.workers + s ≤ 2 ^ 62
records_fit r w c s h e =
    let m = may_record_of r w c s e in
    let one = sum_has (held_price r.prices) r.workers w (worker m.number m.done (Holds c)) m.at in
    let a = h.balanced.capacity in
    let b = prices_below r.prices r.count in
    let d = h.small in
    let p = m.price in
    omega arith

pub records_kept : (r : RaceState) (w c s : ℕ) (f : Worker → Worker) → false ≡ may_record_by r.prices c s (slice_get r.workers w) → record_by r w c s f (slice_get r.workers w) ≡ r
records_kept r w c s f e = go (slice_get r.workers w) e
  where
    go : (o : Option Worker) → false ≡ may_record_by r.prices c s o → record_by r w c s f o ≡ r
    go None t = refl
    go (Some x) t = ap (λ b. if b then race r.prices r.count (slice_set r.workers w (f x)) else r) (sym t)

pub records_made : (r : RaceState) (w c s : ℕ) (f : Worker → Worker) (q new : Worker) → true ≡ may_record_by r.prices c s (slice_get r.workers w) → slice_get r.workers w ≡ Some q → new ≡ f q
    → record_by r w c s f (slice_get r.workers w) ≡ race r.prices r.count (slice_set r.workers w new)
records_made r w c s f q new e at is =
    let t : true ≡ may_record r.prices c s q.state = e ∙ ap (may_record_by r.prices c s) at in
    ap (record_by r w c s f) at
    ∙ (ap (λ b. if b then race r.prices r.count (slice_set r.workers w (f q)) else r) (sym t)
    ∙ ap (λ (y : Worker). race r.prices r.count (slice_set r.workers w y)) (sym is))

completed_steps : (c s : ℕ) (x : Worker) → steps_of (completed c s x) ≡ total_of (λ (d : ℕ × ℕ). d.1) x.done + s
completed_steps c s x = let e = sum_append (λ (d : ℕ × ℕ). d.1) x.done ((c, s) ∷ []) in omega arith

-- a worker that holds a chunk gives it up, by either record, with these steps
pub records_spend : (r : RaceState) (w c s : ℕ) (q new : Worker) → true ≡ may_record_by r.prices c s (slice_get r.workers w) → slice_get r.workers w ≡ Some q → steps_of new ≡ total_of (λ (d : ℕ × ℕ). d.1) q.done + s
    → total_of steps_of r.workers + s ≡ total_of steps_of (slice_set r.workers w new)
records_spend r w c s q new e at is =
    let m = may_record_of r w c s e in
    let same : q ≡ worker m.number m.done (Holds c) = cc (m.at) in
    let old : steps_of q ≡ total_of (λ (d : ℕ × ℕ). d.1) q.done = ap steps_of same ∙ (omega arith ∙ ap (λ (y : Worker). total_of (λ (d : ℕ × ℕ). d.1) y.done) (sym same)) in
    let a = sum_set steps_of r.workers w q new at in
    omega arith

pub completes_spend : (r : RaceState) (w c s : ℕ) (q new : Worker) → true ≡ may_record_by r.prices c s (slice_get r.workers w) → slice_get r.workers w ≡ Some q → new ≡ completed c s q
    → total_of steps_of r.workers + s ≡ total_of steps_of (slice_set r.workers w new)
completes_spend r w c s q new e at is = records_spend r w c s q new e at (ap steps_of is ∙ completed_steps c s q)

pub fails_spend : (r : RaceState) (w c s : ℕ) (q new : Worker) → true ≡ may_record_by r.prices c s (slice_get r.workers w) → slice_get r.workers w ≡ Some q → new ≡ failed c s q
    → total_of steps_of r.workers + s ≡ total_of steps_of (slice_set r.workers w new)
fails_spend r w c s q new e at is = records_spend r w c s q new e at (ap steps_of is)
