-- Each kind of step keeps the rule of the board.
use Rattle.std.proofs.Common.{◌≡◌, ◌≢◌, ℕ, zero, suc, ◌+◌, ◌%◌, ◌^◌, ◌<◌, ◌≤◌, List, [], ◌∷◌, ◌++◌, length, set, refl, sym, ap, ◌∙◌, subst, ⊎_elim, arith}
use Rattle.std.specs.Prelude.{slice_index, min}
use mathlib.Core.Option.{some, some-ne-none, some-injective, none}
use lib.ListN.{get_elem?}
use Rattle.std.proofs.lemmas.Bool.Decides.{nat_tests}
use Rattle.atomic_table.specs.Table.{State, Me, step, keeps, stepped, Allows, Splits, Joins, opening}
use Rattle.atomic_table.proofs.Lists.{at_set, at_snoc, set_again}
use Rattle.race_board.specs.declared.worker_state.WorkerState.TheVariants.{Free, Holds, Failed}
use Rattle.race_board.specs.declared.race_key.RaceKey.{RaceKey}
use Rattle.race_board.specs.Race.{Worker, worker, fresh_worker, fresh_workers, drawn, total_of, one_if_same, one_if_below, times_drawn, draws_of, steps_of, ends_of}
use Rattle.race_board.specs.inner.Balance.{first_prices, held_price, IsBalanced, AllSound}
use Rattle.race_board.specs.Rule.{acted}
use Rattle.race_board.specs.inner.Rule.{
  weigh,
  IsSmall,
  IsHeld,
  everyone,
  first_of,
  rest_of,
  completes,
  fails,
  Draws,
  Completes,
  Fails,
  Learns,
}
use Rattle.race_board.specs.Crews.{MayDraw}
use Rattle.race_board.specs.inner.Crews.{HoldsChunk}
use Rattle.race_board.proofs.Sums.{sum_set_view, sum_append, sum_has_view, sum_le, prices_below}
use Rattle.race_board.proofs.Balances.{Moves, balanced_same, draw_balanced, complete_balanced, fail_balanced, all_sound_more, drawn_sound, completed_sound, failed_sound, sound_append, ends_one}
use Rattle.race_board.proofs.Events.{fresh_sum, fresh_sound, start_balanced}

-- the first worker of a seat is replaced
weigh_acted : (views : List (List Worker)) (id : ℕ) (old new : Worker) (ws : List Worker) → get_elem? views id ≡ some (old ∷ ws) → Moves (weigh views) (weigh (set views id (new ∷ ws))) old new
weigh_acted views id old new ws at f = let s = sum_set_view (total_of f) views id (old ∷ ws) (new ∷ ws) at in omega arith

abbrev ViewsSound : List ℕ → ℕ → List (List Worker) → Type 0
ViewsSound prices count views = (j : ℕ) (v : List Worker) → get_elem? views j ≡ some v → AllSound prices count v

views_sound_set : (prices : List ℕ) (count : ℕ) (views : List (List Worker)) (id : ℕ) (u : List Worker) → ViewsSound prices count views → AllSound prices count u → ViewsSound prices count (set views id u)
views_sound_set prices count views id u all mine j v a =
    ⊎_elim
    (λ (t : (j ≡ id) × (u ≡ v)). subst (AllSound prices count) t.1 mine)
    (λ (t : (j ≢ id) × (get_elem? views j ≡ some v)). all j v t.1)
    (at_set views id j u v a)

views_sound_snoc : (prices : List ℕ) (count : ℕ) (views : List (List Worker)) (u : List Worker) → ViewsSound prices count views → AllSound prices count u → ViewsSound prices count (views ++ u ∷ [])
views_sound_snoc prices count views u all mine j v a = ⊎_elim (λ (t : get_elem? views j ≡ some v). all j v t) (λ (t : u ≡ v). subst (AllSound prices count) t mine) (at_snoc views u v j a)

mod_small : (x : ℕ) → x < 2 ^ 64 → x % 2 ^ 64 ≡ x
mod_small x l = omega arith

-- the count is at most the chunks and the workers, and what was spent at most the prices
in_words_of : (t : RaceKey) (views : List (List Worker)) (count spent : ℕ) → IsBalanced t.prices.each count spent (weigh views) → weigh views (λ (w : Worker). 1) ≡ t.workers
    → (count ≤ length t.prices.each + t.workers) × (spent ≤ first_prices t.prices.each (length t.prices.each))
in_words_of t views count spent h many =
    let a = h.draws in
    let b = h.counted in
    let c = sum_le (total_of ends_of) (total_of (λ (w : Worker). 1)) (λ v. sum_le ends_of (λ (w : Worker). 1) ends_one v) views in
    let r = h.capacity in
    let q = prices_below t.prices.each count in
    (omega arith, omega arith)

-- the count is far from the end of its word
count_small : (t : RaceKey) (s : State ℕ (List Worker)) → (h : IsHeld t s) → h.count < 2 ^ 63 + 65
count_small t s h = let a = h.in_words.0 in let e = h.small in omega (arith, e.0, e.2)

-- a step that replaces the first worker of a seat by one of its number
replaced : (t : RaceKey) (s : State ℕ (List Worker)) (h : IsHeld t s) (id i n : ℕ) (cs : List (ℕ × ℕ)) (old new : Worker) (ws : List Worker) (count spent : ℕ) → get_elem? s.views id ≡ some (old ∷ ws) → old.number ≡ new.number
    → set (h.count ∷ h.spent ∷ []) i n ≡ count ∷ spent ∷ [] → (Moves (weigh s.views) (weigh (set s.views id (new ∷ ws))) old new → IsBalanced t.prices.each count spent (weigh (set s.views id (new ∷ ws))))
    → ViewsSound t.prices.each count (set s.views id (new ∷ ws)) → IsHeld t (stepped s i n id cs (new ∷ ws) keeps)
replaced t s h id i n cs old new ws count spent at same words balanced sound =
    let mv = weigh_acted s.views id old new ws at in
    let all : weigh (set s.views id (new ∷ ws)) (λ (w : Worker). 1) ≡ t.workers = let m = mv (λ (w : Worker). 1) in let z = h.many in omega arith in
    record {
      count = count;
      spent = spent;
      words = ap (λ l. set l i n) h.words ∙ words;
      balanced = balanced mv;
      sound = sound;
      numbers = λ k. let m = mv (λ (w : Worker). one_if_same k w.number) in let e = ap (one_if_same k) same in let z = h.numbers k in omega arith;
      many = all;
      small = h.small;
      in_words = in_words_of t (set s.views id (new ∷ ws)) count spent (balanced mv) all;
    }

pub draws : (t : RaceKey) (slots id : ℕ) (me : Me ℕ (List Worker)) (prices : List ℕ) → prices ≡ t.prices.each → MayDraw me.0 → Allows (IsHeld t) slots id me 0 (λ n. (n + 1) % 2 ^ 64) (Draws prices (step slots 0 1 0 none) me)
draws t slots id me prices same free s h _ at small =
    let n = free.0 in
    let d = free.1 in
    let ws = free.2 in
    let ps : List ℕ = t.prices.each in
    let old : Worker = worker n d Free in
    let new : Worker = drawn ps h.count old in
    let here : get_elem? s.views id ≡ some (old ∷ ws) = at ∙ ap some free.3 in
    let found : slice_index s.words 0 ≡ h.count = ap (λ l. slice_index l 0) h.words in
    let low = count_small t s h in
    let next : (slice_index s.words 0 + 1) % 2 ^ 64 ≡ h.count + 1 = ap (λ (x : ℕ). (x + 1) % 2 ^ 64) found ∙ mod_small (h.count + 1) (omega arith) in
    let mine = h.sound id (old ∷ ws) here in
    let kept : IsHeld t (stepped s 0 ((slice_index s.words 0 + 1) % 2 ^ 64) id me.1 (new ∷ ws) keeps) =
    replaced t s h id 0 ((slice_index s.words 0 + 1) % 2 ^ 64) me.1 old new ws (h.count + 1) h.spent here refl (ap (λ x. x ∷ h.spent ∷ []) next)
    (λ mv. draw_balanced ps h.count h.spent n d (weigh s.views) (weigh (set s.views id (new ∷ ws))) mv h.balanced)
    (views_sound_set ps (h.count + 1) s.views id (new ∷ ws) (λ j v a. all_sound_more ps h.count v (h.sound j v a)) (drawn_sound ps h.count n d mine.0, all_sound_more ps h.count ws mine.1)) in
    let view : new ∷ ws ≡ acted (drawn prices (slice_index s.words 0)) me.0 =
    ap (λ (x : ℕ). acted (drawn ps x) (old ∷ ws)) (sym found) ∙ (ap (λ (x : List ℕ). acted (drawn x (slice_index s.words 0)) (old ∷ ws)) (sym same) ∙ ap (acted (drawn prices (slice_index s.words 0))) (sym free.3)) in
    (new ∷ ws, keeps, tt, kept, (view, refl, λ c some_drawn. let a = sum_has_view (total_of (times_drawn c)) s.views id me.0 at in let b = h.balanced.drawn c in is_below c h.count (length ps) (slice_index s.words 0) found (omega arith), (let a = sum_has_view (total_of draws_of) s.views id me.0 at in let b = h.balanced.draws in let e = h.small.0 in omega arith)))
  where
    is_below : (c m l x : ℕ) → x ≡ m → 0 < one_if_below c (min m l) → c < x
    is_below c m l x e p = grind (arith, nat_tests)

-- what a seat spent, and spends now, is within the prices
steps_fit : (t : RaceKey) (s : State ℕ (List Worker)) (h : IsHeld t s) (id : ℕ) (v : List Worker) (c steps : ℕ) → get_elem? s.views id ≡ some v → HoldsChunk c v → steps ≤ slice_index t.prices.each c → total_of steps_of v + steps ≤ 2 ^ 62
steps_fit t s h id v c steps at holds le =
    let ps : List ℕ = t.prices.each in
    let here : get_elem? s.views id ≡ some (worker holds.0 holds.1 (Holds c) ∷ holds.2) = at ∙ ap some holds.3 in
    let one = sum_has_view (total_of (held_price ps)) s.views id (worker holds.0 holds.1 (Holds c) ∷ holds.2) here in
    let two = sum_has_view (total_of steps_of) s.views id v at in
    let r = h.balanced.capacity in
    let q = prices_below ps h.count in
    let z = h.small.1 in
    let y = h.balanced.steps in
    omega arith

pub completes_step : (t : RaceKey) (slots id : ℕ) (me : Me ℕ (List Worker)) (c steps : ℕ) → HoldsChunk c me.0 → steps ≤ slice_index t.prices.each c → Allows (IsHeld t) slots id me 1 (λ n. (n + steps) % 2 ^ 64) (Completes (step slots 1 steps 0 none) me)
completes_step t slots id me c steps holds le s h _ at small =
    let n = holds.0 in
    let d = holds.1 in
    let ws = holds.2 in
    let ps : List ℕ = t.prices.each in
    let old : Worker = worker n d (Holds c) in
    let new : Worker = worker n (d ++ (c, steps) ∷ []) Free in
    let here : get_elem? s.views id ≡ some (old ∷ ws) = at ∙ ap some holds.3 in
    let found : slice_index s.words 1 ≡ h.spent = ap (λ l. slice_index l 1) h.words in
    let r = h.balanced.capacity in
    let q = prices_below ps h.count in
    let z = h.small.1 in
    let one = sum_has_view (total_of (held_price ps)) s.views id (old ∷ ws) here in
    let next : (slice_index s.words 1 + steps) % 2 ^ 64 ≡ h.spent + steps = ap (λ (x : ℕ). (x + steps) % 2 ^ 64) found ∙ mod_small (h.spent + steps) (omega arith) in
    let mine = h.sound id (old ∷ ws) here in
    let kept : IsHeld t (stepped s 1 ((slice_index s.words 1 + steps) % 2 ^ 64) id me.1 (new ∷ ws) keeps) =
    replaced t s h id 1 ((slice_index s.words 1 + steps) % 2 ^ 64) me.1 old new ws h.count (h.spent + steps) here refl (ap (λ x. h.count ∷ x ∷ []) next)
    (λ mv. complete_balanced ps h.count h.spent n steps c d (weigh s.views) (weigh (set s.views id (new ∷ ws))) mv le h.balanced)
    (views_sound_set ps h.count s.views id (new ∷ ws) h.sound (completed_sound ps h.count n c steps d mine.0 le, mine.1)) in
    (new ∷ ws, keeps, tt, kept, (ap (acted (completes steps)) (sym holds.3), refl, steps_fit t s h id me.0 c steps at holds le))

pub fails_step : (t : RaceKey) (slots id : ℕ) (me : Me ℕ (List Worker)) (c steps : ℕ) → HoldsChunk c me.0 → steps ≤ slice_index t.prices.each c → Allows (IsHeld t) slots id me 1 (λ n. (n + steps) % 2 ^ 64) (Fails (step slots 1 steps 0 none) me)
fails_step t slots id me c steps holds le s h _ at small =
    let n = holds.0 in
    let d = holds.1 in
    let ws = holds.2 in
    let ps : List ℕ = t.prices.each in
    let old : Worker = worker n d (Holds c) in
    let new : Worker = worker n d (Failed c steps) in
    let here : get_elem? s.views id ≡ some (old ∷ ws) = at ∙ ap some holds.3 in
    let found : slice_index s.words 1 ≡ h.spent = ap (λ l. slice_index l 1) h.words in
    let r = h.balanced.capacity in
    let q = prices_below ps h.count in
    let z = h.small.1 in
    let one = sum_has_view (total_of (held_price ps)) s.views id (old ∷ ws) here in
    let next : (slice_index s.words 1 + steps) % 2 ^ 64 ≡ h.spent + steps = ap (λ (x : ℕ). (x + steps) % 2 ^ 64) found ∙ mod_small (h.spent + steps) (omega arith) in
    let mine = h.sound id (old ∷ ws) here in
    let kept : IsHeld t (stepped s 1 ((slice_index s.words 1 + steps) % 2 ^ 64) id me.1 (new ∷ ws) keeps) =
    replaced t s h id 1 ((slice_index s.words 1 + steps) % 2 ^ 64) me.1 old new ws h.count (h.spent + steps) here refl (ap (λ x. h.count ∷ x ∷ []) next)
    (λ mv. fail_balanced ps h.count h.spent n steps c d (weigh s.views) (weigh (set s.views id (new ∷ ws))) mv le h.balanced)
    (views_sound_set ps h.count s.views id (new ∷ ws) h.sound (failed_sound ps h.count n c steps d mine.0 le, mine.1)) in
    (new ∷ ws, keeps, tt, kept, (ap (acted (fails steps)) (sym holds.3), refl, steps_fit t s h id me.0 c steps at holds le))

-- the views change, and what they hold in all does not
rearranged : (t : RaceKey) (s : State ℕ (List Worker)) (new : List (List Worker)) → (h : IsHeld t s) → ((f : Worker → ℕ) → weigh new f ≡ weigh s.views f) → ViewsSound t.prices.each h.count new → IsHeld t record { words = s.words; homes = s.homes; views = new }
rearranged t s new h same sound = record {
  count = h.count;
  spent = h.spent;
  words = h.words;
  balanced = balanced_same t.prices.each h.count h.spent (weigh s.views) (weigh new) same h.balanced;
  sound = sound;
  numbers = λ k. same (λ (w : Worker). one_if_same k w.number) ∙ h.numbers k;
  many = same (λ (w : Worker). 1) ∙ h.many;
  small = h.small;
  in_words = h.in_words;
}

parted : (f : Worker → ℕ) (ws : List Worker) → total_of f (rest_of ws) + total_of f (first_of ws) ≡ total_of f ws
parted f [] = refl
parted f (w ∷ ws) = omega arith

rest_sound : (prices : List ℕ) (count : ℕ) (ws : List Worker) → AllSound prices count ws → AllSound prices count (rest_of ws)
rest_sound prices count [] h = h
rest_sound prices count (x ∷ xs) h = h.1

first_sound : (prices : List ℕ) (count : ℕ) (ws : List Worker) → AllSound prices count ws → AllSound prices count (first_of ws)
first_sound prices count [] h = h
first_sound prices count (x ∷ xs) h = (h.0, tt)

pub splits : (t : RaceKey) (id : ℕ) (v : List Worker) → Splits (IsHeld t) id v (rest_of v) (first_of v)
splits t id v s h at =
    let ps : List ℕ = t.prices.each in
    let mine : AllSound ps h.count v = h.sound id v at in
    rearranged t s (set s.views id (rest_of v) ++ first_of v ∷ []) h
    (λ f. let a = sum_set_view (total_of f) s.views id v (rest_of v) at in let b = sum_append (total_of f) (set s.views id (rest_of v)) (first_of v ∷ []) in let c = parted f v in omega arith)
    (views_sound_snoc ps h.count (set s.views id (rest_of v)) (first_of v) (views_sound_set ps h.count s.views id (rest_of v) h.sound (rest_sound ps h.count v mine)) (first_sound ps h.count v mine))

pub joins : (t : RaceKey) (id : ℕ) (v : List Worker) (other : ℕ) (u : List Worker) → Joins (IsHeld t) id v other u (v ++ u) []
joins t id v other u s h at apart there =
    let ps : List ℕ = t.prices.each in
    let both : List Worker = v ++ u in
    let none_left : List Worker = [] in
    let their : get_elem? s.views other ≡ some u = ⊎_elim (λ (x : (other ≡ id) × (both ≡ u)). absurd (apart x.0)) (λ (x : (other ≢ id) × (get_elem? s.views other ≡ some u)). x.1) (at_set s.views id other both u there) in
    rearranged t s (set (set s.views id both) other none_left) h
    (λ f. let a = sum_set_view (total_of f) s.views id v both at in let b = sum_set_view (total_of f) (set s.views id both) other u none_left there in let c = sum_append f v u in omega arith)
    (views_sound_set ps h.count (set s.views id both) other none_left (views_sound_set ps h.count s.views id both h.sound (sound_append ps h.count v u (h.sound id v at) (h.sound other u their))) tt)

pub learns : (t : RaceKey) (slots id : ℕ) (me : Me ℕ (List Worker)) → Allows (IsHeld t) slots id me 0 (λ n. n) (Learns (step slots 0 0 0 none) me)
learns t slots id me s h _ at small =
    let again : set s.words 0 (slice_index s.words 0) ≡ s.words = (let P : List ℕ → Type 0 = λ l. set l 0 (slice_index l 0) ≡ l in subst P (sym h.words) refl) in
    let one = sum_has_view (total_of draws_of) s.views id me.0 at in
    let two = sum_has_view (total_of steps_of) s.views id me.0 at in
    let a = h.balanced.draws in
    let b = h.small in
    let r = h.balanced.capacity in
    let q = prices_below t.prices.each h.count in
    let y = h.balanced.steps in
    (me.0, keeps, tt, subst (λ l. IsHeld t record { words = l; homes = s.homes; views = set s.views id me.0 }) (sym again) (subst (λ l. IsHeld t record { words = s.words; homes = s.homes; views = l }) (sym (set_again s.views id me.0 at)) h), (refl, refl, omega (arith, b.0), omega (arith, b.1)))

fresh_many : (a n : ℕ) → total_of (λ (w : Worker). 1) (fresh_workers a n) ≡ n
fresh_many a zero = refl
fresh_many a (suc n) = let y = fresh_many (a + 1) n in omega arith

below_more : (k a : ℕ) → one_if_same k a + one_if_below k a ≡ one_if_below k (a + 1)
below_more k a = grind (arith, nat_tests)

pub fresh_numbers : (k a n : ℕ) → total_of (λ (w : Worker). one_if_same k w.number) (fresh_workers a n) + one_if_below k a ≡ one_if_below k (a + n)
fresh_numbers k a zero = let e : a + 0 ≡ a = omega arith in let e' = ap (one_if_below k) e in omega arith
fresh_numbers k a (suc n) = let y = fresh_numbers k (a + 1) n in let z = below_more k a in let e : (a + 1) + n ≡ a + suc n = omega arith in let e' = ap (one_if_below k) e in omega arith

pub opens : (t : RaceKey) → IsSmall t → IsHeld t (opening (0 ∷ 0 ∷ []) [] (everyone t))
opens t small =
    let ps : List ℕ = t.prices.each in
    let n : ℕ = t.workers in
    let zeros : (f : Worker → ℕ) → ((k : ℕ) → f (fresh_worker k) ≡ 0) → weigh (everyone t ∷ []) f ≡ 0 = (λ f z. let e = fresh_sum f z 0 n in omega arith) in
    record {
      count = 0;
      spent = 0;
      words = refl;
      balanced = start_balanced ps (weigh (everyone t ∷ [])) zeros;
      sound = first_view;
      numbers = λ k. let a = fresh_numbers k 0 n in let e : 0 + n ≡ n = omega arith in let e' = ap (one_if_below k) e in let z = none_at k in omega arith;
      many = let a = fresh_many 0 n in omega arith;
      small = small;
      in_words = (omega arith, omega arith);
    }
  where
    none_at : (k : ℕ) → one_if_below k 0 ≡ 0
    none_at k = grind (arith, nat_tests)

    first_view : (j : ℕ) (v : List Worker) → get_elem? (everyone t ∷ []) j ≡ some v → AllSound t.prices.each 0 v
    first_view zero v a = subst (AllSound t.prices.each 0) (some-injective _ v a) (fresh_sound t.prices.each 0 0 t.workers)
    first_view (suc j) v a = absurd (some-ne-none v (sym a))
