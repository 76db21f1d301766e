-- An entry and its mirror, put into a map.
use Rattle.std.proofs.Common.{◌≡◌, ℕ, List, [], ◌∷◌, ◌++◌, Bool, true, false, ◌||◌, ◌&&◌, cond, nat_eq, Option, Some, None, is_some, refl, sym, ap, ◌∙◌, arith, append-nil}
use Rattle.std.proofs.lemmas.Bool.Decides.{nat_tests}
use Rattle.std.specs.List.{list_any}
use Rattle.std.specs.Ordering.{eq_by_cmp, nat_cmp, is_eq, ordering_then}
use Rattle.std.specs.declared.cmp.Ordering.{Ordering}
use Rattle.std.specs.declared.cmp.Ordering.TheVariants.{Less, Equal, Greater}
use Rattle.std.specs.FinMap as fin
use Rattle.csr_store.specs.Grid.{Position, pos_cmp}
use Rattle.csr_store.proofs.Order.{pos_total}
use Rattle.matrix_market.specs.Market.{WrittenEntry, is_place, places, is_repeated, words_at, word_of, at_most}
use Rattle.matrix_market.specs.inner.Answers.{put_all, some_given}

abbrev Cells : Type 0
Cells = fin.FinMap pos_cmp ℕ

is_eq-then : (a b : Ordering) → is_eq (ordering_then a b) ≡ (is_eq a && is_eq b)
is_eq-then Less b = refl
is_eq-then Equal b = refl
is_eq-then Greater b = refl

is_eq-cmp : (a b : ℕ) → is_eq (nat_cmp a b) ≡ nat_eq a b
is_eq-cmp a b = grind (arith, nat_tests)

both_same : (a b x y : Bool) → a ≡ x → b ≡ y → (a && b) ≡ (x && y)
both_same a b x y e f = cc

pub same_place : (p q : Position) → eq_by_cmp pos_cmp p q ≡ is_place p q
same_place p q = is_eq-then (nat_cmp p.0 q.0) (nat_cmp p.1 q.1) ∙ both_same _ _ _ _ (is_eq-cmp p.0 q.0) (is_eq-cmp p.1 q.1)

pub get_put : (m : Cells) (p : Position) (w : ℕ) (q : Position) → fin.get (fin.insert m p w) q ≡ cond (is_place q p) (Some w) (fin.get m q)
get_put m p w q = fin.get-insert pos_total m p w q ∙ ap (λ t. cond t (Some w) (fin.get m q)) (same_place q p)

-- a second place that has nothing after the first was put had nothing before
pub none_before : (m : Cells) (p q : Position) (w : ℕ) → is_some (fin.get (fin.insert m p w) q) ≡ false → is_some (fin.get m q) ≡ false
none_before m p q w h = elim (is_place q p) as (λ t. is_some (cond t (Some w) (fin.get m q)) ≡ false → is_some (fin.get m q) ≡ false) [
  | true ↦ λ e. absurd (cc)
  | false ↦ λ e. e
] (sym (ap is_some (get_put m p w q)) ∙ h)

either : (a b w : Bool) (x y : Option ℕ) (n : ℕ) → cond a (Some n) (cond b (Some n) x) ≡ cond (b || a) (Some n) x
either true true w x y n = refl
either true false w x y n = refl
either false true w x y n = refl
either false false w x y n = refl

pub get_put_all : (m : Cells) (ps : List Position) (w : ℕ) (q : Position) → fin.get (put_all m ps w) q ≡ cond (list_any (is_place q) ps) (Some w) (fin.get m q)
get_put_all m [] w q = refl
get_put_all m (p ∷ ps) w q =
    get_put_all (fin.insert m p w) ps w q ∙ (ap (cond (list_any (is_place q) ps) (Some w)) (get_put m p w q) ∙ either (list_any (is_place q) ps) (is_place q p) true (fin.get m q) None w)

place_eq : (p q : Position) → is_place p q ≡ true → p ≡ q
place_eq p q h = let a : p.0 ≡ q.0 = grind (arith, nat_tests) in let b : p.1 ≡ q.1 = grind (arith, nat_tests) in λ i. (a i, b i)

either_false : (a b : Bool) → (a || b) ≡ false → (a ≡ false) × (b ≡ false)
either_false true b e = absurd (cc)
either_false false b e = (refl, e)

none_from : (o : Option ℕ) → is_some o ≡ false → o ≡ None
none_from None e = refl
none_from (Some x) e = absurd (cc)

-- where none of the places is given, each has nothing
pub none_at : (m : Cells) (ps : List Position) (q : Position) → some_given m ps ≡ false → list_any (is_place q) ps ≡ true → fin.get m q ≡ None
none_at m [] q a b = absurd (cc)
none_at m (p ∷ ps) q a b =
    let o = either_false (is_some (fin.get m p)) (some_given m ps) a in
    elim (is_place q p) as (λ t. is_place q p ≡ t → (t || list_any (is_place q) ps) ≡ true → fin.get m q ≡ None) [
      | true ↦ λ e k. ap (fin.get m) (place_eq q p e) ∙ none_from _ o.0
      | false ↦ λ e k. none_at m ps q o.1 k
    ] refl b

-- the words at a position, with one entry more
pub words_more : (symmetric : Bool) (es : List WrittenEntry) (e : WrittenEntry) (p : Position) → words_at symmetric (es ++ e ∷ []) p ≡ words_at symmetric es p ++ cond (list_any (is_place p) (places symmetric e)) (word_of e.value ∷ []) []
words_more symmetric [] e p = append-nil (cond (list_any (is_place p) (places symmetric e)) (word_of e.value ∷ []) [])
words_more symmetric (f ∷ es) e p =
    elim (list_any (is_place p) (places symmetric f)) as (λ t. cond t (word_of f.value ∷ []) [] ++ words_at symmetric (es ++ e ∷ []) p ≡ (cond t (word_of f.value ∷ []) [] ++ words_at symmetric es p) ++ cond (list_any (is_place p) (places symmetric e)) (word_of e.value ∷ []) []) [
      | true ↦ ap (λ ws. word_of f.value ∷ ws) (words_more symmetric es e p)
      | false ↦ words_more symmetric es e p
    ]

-- the map keeps up with the entries
pub cells_more : (symmetric : Bool) (es : List WrittenEntry) (e : WrittenEntry) (m : Cells) → ((p : Position) → words_at symmetric es p ≡ at_most (fin.get m p)) → some_given m (places symmetric e) ≡ false
    → (p : Position) → words_at symmetric (es ++ e ∷ []) p ≡ at_most (fin.get (put_all m (places symmetric e) (word_of e.value)) p)
cells_more symmetric es e m h n p =
    words_more symmetric es e p ∙ (elim (list_any (is_place p) (places symmetric e)) as (λ t. list_any (is_place p) (places symmetric e) ≡ t →
    words_at symmetric es p ++ cond t (word_of e.value ∷ []) [] ≡ at_most (cond t (Some (word_of e.value)) (fin.get m p))) [
      | true ↦ λ t. ap (λ ws. ws ++ word_of e.value ∷ []) (h p ∙ ap at_most (none_at m (places symmetric e) p n t))
      | false ↦ λ t. append-nil (words_at symmetric es p) ∙ h p
    ] refl ∙ sym (ap at_most (get_put_all m (places symmetric e) (word_of e.value) p)))

-- whether a position has a word
abbrev has : List ℕ → Bool
has [] = false
has (w ∷ ws) = true

has_words : (symmetric : Bool) (es : List WrittenEntry) (p : Position) → has (words_at symmetric es p) ≡ list_any (λ f. list_any (is_place p) (places symmetric f)) es
has_words symmetric [] p = refl
has_words symmetric (f ∷ es) p =
    elim (list_any (is_place p) (places symmetric f)) as (λ t. has (cond t (word_of f.value ∷ []) [] ++ words_at symmetric es p) ≡ (t || list_any (λ f. list_any (is_place p) (places symmetric f)) es)) [
      | true ↦ refl
      | false ↦ has_words symmetric es p
    ]

has_at_most : (o : Option ℕ) → has (at_most o) ≡ is_some o
has_at_most None = refl
has_at_most (Some x) = refl

any_same : (f g : Position → Bool) (ps : List Position) → ((p : Position) → f p ≡ g p) → list_any f ps ≡ list_any g ps
any_same f g [] h = refl
any_same f g (p ∷ ps) h = ap (λ t. t || list_any f ps) (h p) ∙ ap (λ t. g p || t) (any_same f g ps h)

-- an entry is repeated where one of its places is given
pub repeated_is : (symmetric : Bool) (es : List WrittenEntry) (e : WrittenEntry) (m : Cells) → ((p : Position) → words_at symmetric es p ≡ at_most (fin.get m p)) → is_repeated symmetric e es ≡ some_given m (places symmetric e)
repeated_is symmetric es e m h = any_same _ _ (places symmetric e) (λ p. sym (has_words symmetric es p) ∙ (ap has (h p) ∙ has_at_most (fin.get m p)))
