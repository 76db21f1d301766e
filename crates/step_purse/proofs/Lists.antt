-- Sums over lists, and lists that grow.
use Rattle.std.proofs.Common.{◌≡◌, ◌≢◌, ◌⊎◌, inl, inr, ℕ, zero, suc, ◌+◌, ◌≤◌, ◌<◌, List, [], ◌∷◌, ◌++◌, length, set, Some, Bool, true, false, refl, sym, ap, ◌∙◌, subst, ⊎_elim, arith, append_assoc, length-append}
use Rattle.std.specs.Prelude.{slice_get, ◌==◌, if◌then◌else◌}
use mathlib.Core.Option.{some, some-ne-none, some-injective}
use lib.ListN.{get_elem?}
use Rattle.std.proofs.lemmas.Bool.Decides.{nat_tests}
use Rattle.atomic_table.proofs.Lists.{at_set, at_snoc}
use Rattle.step_purse.specs.declared.dealings.Dealing.{Dealing}
use Rattle.step_purse.specs.declared.views.View.{View}
use Rattle.step_purse.specs.Histories.{total_of, Begins, Stand, times_at}
use Rattle.step_purse.specs.inner.Rule.{once_below, left_behind, AreSeen, Knows, Fits}

-- the sum after a change of one
pub sum_set : {A : Type 0} (f : A → ℕ) (xs : List A) (i : ℕ) (v w : A) → get_elem? xs i ≡ some v → total_of f (set xs i w) + f v ≡ total_of f xs + f w
sum_set f [] i v w at = absurd (some-ne-none v (sym at))
sum_set f (x ∷ xs) zero v w at = let e = ap f (some-injective x v at) in omega arith
sum_set f (x ∷ xs) (suc i) v w at = let e = sum_set f xs i v w at in omega arith

pub sum_snoc : {A : Type 0} (f : A → ℕ) (xs : List A) (w : A) → total_of f (xs ++ w ∷ []) ≡ total_of f xs + f w
sum_snoc f [] w = omega arith
sum_snoc f (x ∷ xs) w = let e = sum_snoc f xs w in omega arith

-- each is at most the sum
pub sum_has : {A : Type 0} (f : A → ℕ) (xs : List A) (i : ℕ) (v : A) → get_elem? xs i ≡ some v → f v ≤ total_of f xs
sum_has f [] i v at = absurd (some-ne-none v (sym at))
sum_has f (x ∷ xs) zero v at = let e = ap f (some-injective x v at) in omega arith
sum_has f (x ∷ xs) (suc i) v at = let e = sum_has f xs i v at in omega arith

-- what was set is there
pub there_set : {A : Type 0} (xs : List A) (i : ℕ) (v w : A) → get_elem? xs i ≡ some v → get_elem? (set xs i w) i ≡ some w
there_set [] i v w at = absurd (some-ne-none v (sym at))
there_set (x ∷ xs) zero v w at = refl
there_set (x ∷ xs) (suc i) v w at = there_set xs i v w at

get_front : (xs ys : List Dealing) (k : ℕ) (d : Dealing) → slice_get xs k ≡ Some d → slice_get (xs ++ ys) k ≡ Some d
get_front [] ys k d e = absurd (cc)
get_front (x ∷ xs) ys zero d e = e
get_front (x ∷ xs) ys (suc k) d e = get_front xs ys k d e

pub get_snoc : (xs : List Dealing) (d : Dealing) → slice_get (xs ++ d ∷ []) (length xs) ≡ Some d
get_snoc [] d = refl
get_snoc (x ∷ xs) d = get_snoc xs d

-- calls stand in a longer history too
pub stand_more : (history rest : List Dealing) (cs : List (ℕ × Dealing)) → Stand history cs → Stand (history ++ rest) cs
stand_more history rest [] s = tt
stand_more history rest (c ∷ cs) s = (get_front history rest c.0 c.1 s.0, stand_more history rest cs s.1)

pub stand_append : (history : List Dealing) (cs us : List (ℕ × Dealing)) → Stand history cs → Stand history us → Stand history (cs ++ us)
stand_append history [] us s t = t
stand_append history (c ∷ cs) us s t = (s.0, stand_append history cs us s.1 t)

pub begins_more : (seen history rest : List Dealing) → Begins seen history → Begins seen (history ++ rest)
begins_more seen history rest b = (b.0 ++ rest, ap (λ l. l ++ rest) b.1 ∙ append_assoc seen b.0 rest)

pub append_nil : (xs : List Dealing) → xs ++ [] ≡ xs
append_nil [] = refl
append_nil (x ∷ xs) = ap (λ l. x ∷ l) (append_nil xs)

pub begins_itself : (history : List Dealing) → Begins history history
begins_itself history = ([], sym (append_nil history))

pub begins_none : (history : List Dealing) → Begins [] history
begins_none history = (history, refl)

-- what is known of a history is known of a longer one
pub knows_more : (allowance : ℕ) (history rest : List Dealing) (v : View) → Knows allowance history v → Knows allowance (history ++ rest) v
knows_more allowance history rest v k = record {
  opened = k.opened;
  part = k.part;
  agrees = k.agrees;
  seen = begins_more v.known.seen history rest k.seen;
  beside = begins_more v.beside history rest k.beside;
  calls = stand_more history rest v.known.calls k.calls;
  own_seen = k.own_seen;
}

pub fits_more : (allowance : ℕ) (history rest : List Dealing) (v : View) → Fits allowance history v → Fits allowance (history ++ rest) v
fits_more allowance history rest v f = ⊎_elim (λ (l : v ≡ left_behind). inl l) (λ (k : Knows allowance history v). inr (knows_more allowance history rest v k)) f

-- a place at which a call stands is below the length
get_below : (xs : List Dealing) (k : ℕ) (d : Dealing) → slice_get xs k ≡ Some d → k < length xs
get_below [] k d e = absurd (cc)
get_below (x ∷ xs) zero d e = omega arith
get_below (x ∷ xs) (suc k) d e = let h = get_below xs k d e in omega arith

pub stand_seen : (seen beside : List Dealing) (cs : List (ℕ × Dealing)) → Stand seen cs → AreSeen seen beside cs
stand_seen seen beside [] s = tt
stand_seen seen beside (c ∷ cs) s = (inl (get_below seen c.0 c.1 s.0), stand_seen seen beside cs s.1)

-- calls that stand in the first beginning, or in the second, stand in one of two
pub seen_first : (seen beside : List Dealing) (cs : List (ℕ × Dealing)) → AreSeen seen [] cs → AreSeen seen beside cs
seen_first seen beside [] s = tt
seen_first seen beside (c ∷ cs) s = (⊎_elim (λ (l : c.0 < length seen). inl l) (λ (n : c.0 < 0). absurd (omega arith)) s.0, seen_first seen beside cs s.1)

pub seen_second : (seen beside : List Dealing) (cs : List (ℕ × Dealing)) → AreSeen seen [] cs → AreSeen beside seen cs
seen_second seen beside [] s = tt
seen_second seen beside (c ∷ cs) s = (⊎_elim (λ (l : c.0 < length seen). inr l) (λ (n : c.0 < 0). absurd (omega arith)) s.0, seen_second seen beside cs s.1)

pub seen_append : (seen beside : List Dealing) (cs us : List (ℕ × Dealing)) → AreSeen seen beside cs → AreSeen seen beside us → AreSeen seen beside (cs ++ us)
seen_append seen beside [] us s t = t
seen_append seen beside (c ∷ cs) us s t = (s.0, seen_append seen beside cs us s.1 t)

passed : (b : Bool) (n : ℕ) → b ≡ false → 0 < (if b then 1 else 0) + n → 0 < n
passed true n e h = absurd (cc)
passed false n e h = omega arith

-- a call at the place k stands in one of them
pub seen_at : (seen beside : List Dealing) (cs : List (ℕ × Dealing)) (k : ℕ) → AreSeen seen beside cs → 0 < times_at k cs → (k < length seen) ⊎ (k < length beside)
seen_at seen beside [] k s some_call = absurd (omega arith)
seen_at seen beside (c ∷ cs) k s some_call = go (c.0 == k) refl (seen_at seen beside cs k s.1)
  where
    go : (b : Bool) → (c.0 == k) ≡ b → (0 < times_at k cs → (k < length seen) ⊎ (k < length beside)) → (k < length seen) ⊎ (k < length beside)
    go true is later = let e : c.0 ≡ k = grind (arith, nat_tests) in subst (λ (n : ℕ). (n < length seen) ⊎ (n < length beside)) e s.0
    go false is later = later (passed (c.0 == k) (times_at k cs) is some_call)

-- a beginning that is as long as the history is all of it
pub begins_all : (seen history : List Dealing) (b : Begins seen history) → length history ≤ length seen → b.0 ≡ []
begins_all seen history b long =
    let l : length history ≡ length seen + length b.0 = ap length b.1 ∙ length-append seen b.0 in none b.0 (omega arith)
  where
    none : (rest : List Dealing) → length rest ≡ 0 → rest ≡ []
    none [] e = refl
    none (x ∷ xs) e = absurd (omega arith)

pub begins_whole : (seen history : List Dealing) → Begins seen history → length history ≤ length seen → history ≡ seen
begins_whole seen history b long = b.1 ∙ (ap (λ l. seen ++ l) (begins_all seen history b long) ∙ append_nil seen)

-- one call more
pub times_snoc : (k : ℕ) (cs : List (ℕ × Dealing)) (n : ℕ) (d : Dealing) → times_at k (cs ++ (n, d) ∷ []) ≡ times_at k cs + (if n == k then 1 else 0)
times_snoc k cs n d = sum_snoc (λ (c : ℕ × Dealing). if c.0 == k then 1 else 0) cs (n, d)

pub times_append : (k : ℕ) (cs us : List (ℕ × Dealing)) → times_at k (cs ++ us) ≡ times_at k cs + times_at k us
times_append k [] us = omega arith
times_append k (c ∷ cs) us = let e = times_append k cs us in omega arith

pub below_snoc : (k n : ℕ) → once_below k (n + 1) ≡ once_below k n + (if n == k then 1 else 0)
below_snoc k n = grind (arith, nat_tests)

pub below_one : (k n : ℕ) → once_below k n ≤ 1
below_one k n = grind (arith, nat_tests)

-- what holds of all views holds after a change of one
pub views_set : (P : View → Type 0) (views : List View) (i : ℕ) (w : View) → P w → ((j : ℕ) (u : View) → get_elem? views j ≡ some u → P u) → (j : ℕ) (u : View) → get_elem? (set views i w) j ≡ some u → P u
views_set P views i w mine others j u at = ⊎_elim (λ (x : (j ≡ i) × (w ≡ u)). subst P x.1 mine) (λ (x : (j ≢ i) × (get_elem? views j ≡ some u)). others j u x.1) (at_set views i j w u at)

-- and after one more
pub views_snoc : (P : View → Type 0) (views : List View) (w : View) → P w → ((j : ℕ) (u : View) → get_elem? views j ≡ some u → P u) → (j : ℕ) (u : View) → get_elem? (views ++ w ∷ []) j ≡ some u → P u
views_snoc P views w mine others j u at = ⊎_elim (others j u) (λ (e : w ≡ u). subst P e mine) (at_snoc views w u j at)

pub below_last : (n : ℕ) → once_below n (suc n) ≡ 1
below_last n = grind (arith, nat_tests)
