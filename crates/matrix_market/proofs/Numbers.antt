-- Numbers in decimal digits, held below 2 ^ 64.
use Rattle.std.proofs.Common.{◌≡◌, ◌≤◌, ◌-◌, ℕ, List, [], ◌∷◌, Bool}
use Rattle.std.proofs.Common.{true, false, cond, Option, None, Some, refl, sym, ap, ◌∙◌, arith}
use Rattle.std.proofs.Common.{not, ◌||◌, Ok, Err}
use Rattle.std.proofs.lemmas.Bool.Decides.{nat_tests}
use Rattle.matrix_market.specs.declared.rule.MarketRule.TheVariants.{IndexOutsideMatrix, ValueOutOfRange}
use Rattle.matrix_market.specs.declared.kinds.Size.{Size}
use Rattle.matrix_market.specs.declared.kinds.Found.{Found}
use Rattle.matrix_market.specs.Market.{number, value, Value, outside, is_word, word_of, entry_from, entry_words}
use Rattle.text_words.specs.Numbers.{held, held_number}
use Rattle.matrix_market.specs.inner.Answers.{held_value, entry_checked, entry_answer}

abbrev found : ℕ → ℕ → Value → Found
found i j v = record { row = i - 1; column = j - 1; word = word_of v }

not_some : {X : Type 0} (x : X) → Some x ≡ None → ⊥
not_some x e = cc

same_some : {X : Type 0} (x y : X) → Some x ≡ Some y → x ≡ y
same_some x y e = cc

outside_held : (i n : ℕ) → n ≤ 16777216 → outside (held i) n ≡ outside i n
outside_held i n h = grind (arith, nat_tests)

word_held : (v : Value) → is_word (v.0, held v.1) ≡ is_word v
word_held (true, n) = grind (arith, nat_tests)
word_held (false, n) = grind (arith, nat_tests)

held_outside : (i n : ℕ) → n ≤ 16777216 → outside i n ≡ false → held i ≡ i
held_outside i n h e = grind (arith, nat_tests)

held_word : (v : Value) → is_word v ≡ true → held v.1 ≡ v.1
held_word (true, n) e = grind (arith, nat_tests)
held_word (false, n) e = grind (arith, nat_tests)

either_false : (a b : Bool) → (a || b) ≡ false → (a ≡ false) × (b ≡ false)
either_false true b e = absurd (cc)
either_false false b e = (refl, e)

entry_held : (s : Size) (i j : ℕ) (v : Value) → s.rows ≤ 16777216 → s.columns ≤ 16777216
    → entry_checked s (held i) (held j) (v.0, held v.1) ≡ entry_checked s i j v
entry_held s i j v hr hc =
    rw (outside_held i s.rows hr, outside_held j s.columns hc, word_held v)
    (elim (outside i s.rows || outside j s.columns) as (λ t. (outside i s.rows || outside j s.columns) ≡ t → cond t (Err IndexOutsideMatrix) (cond (not (is_word v)) (Err ValueOutOfRange) (Ok (found (held i) (held j) (v.0, held v.1)))) ≡ cond t (Err IndexOutsideMatrix) (cond (not (is_word v)) (Err ValueOutOfRange) (Ok (found i j v)))) [
      | true ↦ λ t. refl
      | false ↦ λ t. elim (is_word v) as (λ u. is_word v ≡ u → cond (not u) (Err ValueOutOfRange) (Ok (found (held i) (held j) (v.0, held v.1))) ≡ cond (not u) (Err ValueOutOfRange) (Ok (found i j v))) [
        | false ↦ λ u. refl
        | true ↦ λ u. let o = either_false _ _ t in rw (held_outside i s.rows hr o.0, held_outside j s.columns hc o.1, held_word v u) refl
      ] refl
    ] refl)

entry_options : (s : Size) (o p : Option ℕ) (q : Option Value) (i j : ℕ) (v : Value) → s.rows ≤ 16777216
    → s.columns ≤ 16777216 → Some i ≡ held_number o → Some j ≡ held_number p → Some v ≡ held_value q
    → entry_checked s i j v ≡ entry_answer s (entry_from o p q)
entry_options s None p q i j v hr hc a b d = absurd (not_some i a)
entry_options s (Some x) None q i j v hr hc a b d = absurd (not_some j b)
entry_options s (Some x) (Some y) None i j v hr hc a b d = absurd (not_some v d)
entry_options s (Some x) (Some y) (Some z) i j v hr hc a b d =
    ap (λ k. entry_checked s k j v) (same_some i (held x) a) ∙ (ap (λ k. entry_checked s (held x) k v) (same_some j (held y) b) ∙ (ap (entry_checked s (held x) (held y)) (same_some v (z.0, held z.1) d) ∙ entry_held s x y z hr hc))

pub entry_three : (s : Size) (pattern : Bool) (ws : List (List ℕ)) (a b d : List ℕ) (i j : ℕ) (v : Value)
    → s.rows ≤ 16777216 → s.columns ≤ 16777216 → pattern ≡ false → ws ≡ a ∷ b ∷ d ∷ []
    → Some i ≡ held_number (number a) → Some j ≡ held_number (number b) → Some v ≡ held_value (value d) → entry_checked s i j v ≡ entry_answer s (entry_words pattern ws)
entry_three s pattern ws a b d i j v hr hc p w x y z =
    entry_options s (number a) (number b) (value d) i j v hr hc x y z ∙ sym (ap (λ t. entry_answer s (entry_words t ws)) p ∙ ap (λ t. entry_answer s (entry_words false t)) w)
