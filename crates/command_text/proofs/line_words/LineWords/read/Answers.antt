use Rattle.std.proofs.Common.{◌≡◌, ◌<◌, ◌+◌, ◌∙◌, ◌++◌, ◌∷◌, [], ℕ, List, Bor, suc, length, map, take, set, sym, ap, arith}
use Rattle.std.proofs.lemmas.List.{append_assoc, length-append, length-map, length-set, length-take-le, map-append}
use Rattle.std.proofs.Math.Seq.{take-suc-set}
use Rattle.command_text.specs.inner.Lent.{lent}
use Rattle.command_text.proofs.line_words.LineWords.read.Goals as goal

-- one more word is read
read_on : (list : List (Bor (List ℕ))) (n : ℕ) (word : Bor (List ℕ)) (all rest more : List (List ℕ)) → n < length list
    → all ≡ map lent (take n list) ++ rest → rest ≡ word.now ∷ more → all ≡ map lent (take (n + 1) (set list n word)) ++ more
read_on list n word all rest more within e f =
    let one : n + 1 ≡ suc n = omega arith in
    let taken : take (n + 1) (set list n word) ≡ take n list ++ (word ∷ []) = ap (λ k. take k (set list n word)) one ∙ take-suc-set list n word within in
    let longer : map lent (take (n + 1) (set list n word)) ≡ map lent (take n list) ++ (word.now ∷ []) = ap (map lent) taken ∙ map-append lent (take n list) (word ∷ []) in
    e
    ∙ (ap (λ ws. map lent (take n list) ++ ws) f
    ∙ (sym (append_assoc (map lent (take n list)) (word.now ∷ []) more)
    ∙ ap (λ ws. ws ++ more) (sym longer)))

-- a word stands behind seven others
one_too_many : (list : List (Bor (List ℕ))) (n : ℕ) (all rest more : List (List ℕ)) (word : List ℕ) → length list ≡ 7 → n ≡ 7
    → all ≡ map lent (take n list) ++ rest → rest ≡ word ∷ more → 7 < length all
one_too_many list n all rest more word seven e f g =
    let front : length (map lent (take n list)) ≡ n = length-map (take n list) lent ∙ length-take-le n list (omega (arith, seven, e)) in
    let back : length rest ≡ length more + 1 = ap length g ∙ omega arith in
    omega (arith, ap length f, length-append (map lent (take n list)) rest, front, back, e)

pub loop-count-preserved : goal.loop-count-preserved
loop-count-preserved c =
    let t = c.loop-count.invariant in
    record {
      capacity = length-set c.loop-count.words c.loop-count.count c.in-Some.word ∙ t.capacity;
      words = read_on c.loop-count.words c.loop-count.count c.in-Some.word _ _ _ (omega (arith, t.capacity, c.loop-count-test.true)) t.words c.in-Some.ensures;
    }

pub returns-in-Some-first_word : goal.returns-in-Some-first_word
returns-in-Some-first_word c =
    let t = c.loop-count.invariant in
    one_too_many c.loop-count.words c.loop-count.count _ _ _ c.in-Some-first_word.field-0.0.now t.capacity
    (omega (arith, c.loop-count-test.false, c.loop-count.auto.count-end)) t.words c.in-Some-first_word.ensures
