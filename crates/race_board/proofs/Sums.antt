-- Sums over lists, and sums of the first prices.
use Rattle.std.proofs.Common.{◌≡◌, ℕ, zero, suc, ◌+◌, ◌<◌, ◌≤◌, List, [], ◌∷◌, ◌++◌, length, set, take, get_or, Some, refl, sym, ap, ◌∙◌, arith, add-one, sum, fold}
use Rattle.std.specs.Prelude.{slice_index, slice_get}
use mathlib.Core.Option.{some, some-ne-none, some-injective}
use lib.ListN.{get_elem?}
use Rattle.std.proofs.Math.Seq.{take-suc}
use Rattle.race_board.specs.Race.{total_of}
use Rattle.race_board.specs.inner.Balance.{first_prices}

pub sum_append : {A : Type 0} (f : A → ℕ) (xs ys : List A) → total_of f (xs ++ ys) ≡ total_of f xs + total_of f ys
sum_append f [] ys = omega arith
sum_append f (x ∷ xs) ys = let e = sum_append f xs ys in omega arith

pub sum_le : {A : Type 0} (f g : A → ℕ) → ((a : A) → f a ≤ g a) → (xs : List A) → total_of f xs ≤ total_of g xs
sum_le f g le [] = omega arith
sum_le f g le (x ∷ xs) = let h = le x in let e = sum_le f g le xs in omega arith

pub count_of_all : {A : Type 0} (xs : List A) → total_of (λ (x : A). 1) xs ≡ length xs
count_of_all [] = refl
count_of_all {A} (x ∷ xs) = let e = count_of_all xs in omega arith

-- the first elements, and one more
pub sum_take : {A : Type 0} (f : A → ℕ) (xs : List A) (i : ℕ) (d : A) → i < length xs → total_of f (take (i + 1) xs) ≡ total_of f (take i xs) + f (get_or xs i d)
sum_take {A} f xs i d l =
    let more : i + 1 ≡ suc i = omega arith in
    let t : take (i + 1) xs ≡ take i xs ++ get_or xs i d ∷ [] = ap (λ (k : ℕ). take k xs) more ∙ take-suc xs i d l in
    let e = ap (total_of f) t in
    let a = sum_append f (take i xs) (get_or xs i d ∷ []) in
    omega arith

-- one element of a list is replaced
pub sum_set : {A : Type 0} (f : A → ℕ) (xs : List A) (i : ℕ) (v w : A) → slice_get xs i ≡ Some v → total_of f (set xs i w) + f v ≡ total_of f xs + f w
sum_set f [] i v w at = absurd (cc)
sum_set f (x ∷ xs) zero v w at = let same : x ≡ v = cc in let e = ap f same in omega arith
sum_set f (x ∷ xs) (suc i) v w at = let e = sum_set f xs i v w at in omega arith

pub sum_has : {A : Type 0} (f : A → ℕ) (xs : List A) (i : ℕ) (v : A) → slice_get xs i ≡ Some v → f v ≤ total_of f xs
sum_has f [] i v at = absurd (cc)
sum_has f (x ∷ xs) zero v at = let same : x ≡ v = cc in let e = ap f same in omega arith
sum_has f (x ∷ xs) (suc i) v at = let e = sum_has f xs i v at in omega arith

-- the same two by the other look-up of a list, in which views are kept
pub sum_set_view : {A : Type 0} (f : A → ℕ) (xs : List A) (i : ℕ) (v w : A) → get_elem? xs i ≡ some v → total_of f (set xs i w) + f v ≡ total_of f xs + f w
sum_set_view f [] i v w at = absurd (some-ne-none v (sym at))
sum_set_view f (x ∷ xs) zero v w at = let e = ap f (some-injective x v at) in omega arith
sum_set_view f (x ∷ xs) (suc i) v w at = let e = sum_set_view f xs i v w at in omega arith

pub sum_has_view : {A : Type 0} (f : A → ℕ) (xs : List A) (i : ℕ) (v : A) → get_elem? xs i ≡ some v → f v ≤ total_of f xs
sum_has_view f [] i v at = absurd (some-ne-none v (sym at))
sum_has_view f (x ∷ xs) zero v at = let e = ap f (some-injective x v at) in omega arith
sum_has_view f (x ∷ xs) (suc i) v at = let e = sum_has_view f xs i v at in omega arith

prices_more' : (prices : List ℕ) (n : ℕ) → n < length prices → first_prices prices (suc n) ≡ first_prices prices n + slice_index prices n
prices_more' [] n l = absurd (omega arith)
prices_more' (x ∷ []) zero l = omega arith
prices_more' (x ∷ y ∷ xs) zero l = omega arith
prices_more' (x ∷ xs) (suc n) l = let e = prices_more' xs n (omega arith) in omega arith

pub prices_more : (prices : List ℕ) (n : ℕ) → n < length prices → first_prices prices (n + 1) ≡ first_prices prices n + slice_index prices n
prices_more prices n l = rw add-one (prices_more' prices n l)

prices_whole' : (prices : List ℕ) (n : ℕ) → length prices ≤ n → first_prices prices (suc n) ≡ first_prices prices n
prices_whole' [] n l = refl
prices_whole' (x ∷ xs) zero l = absurd (omega arith)
prices_whole' (x ∷ xs) (suc n) l = ap (λ k. x + k) (prices_whole' xs n (omega arith))

pub prices_whole : (prices : List ℕ) (n : ℕ) → length prices ≤ n → first_prices prices (n + 1) ≡ first_prices prices n
prices_whole prices n l = rw add-one (prices_whole' prices n l)

pub prices_below : (prices : List ℕ) (n : ℕ) → first_prices prices n ≤ first_prices prices (length prices)
prices_below [] n = omega arith
prices_below (x ∷ xs) zero = omega arith
prices_below (x ∷ xs) (suc n) = let e = prices_below xs n in omega arith

pub prices_none : (prices : List ℕ) → first_prices prices 0 ≡ 0
prices_none [] = refl
prices_none (x ∷ xs) = refl

fold_from : (a : ℕ) (xs : List ℕ) → fold ◌+◌ a xs ≡ a + sum xs
fold_from a [] = omega arith
fold_from a (x ∷ xs) = let e = fold_from (a + x) xs in let d = fold_from (0 + x) xs in omega arith

pub prices_sum : (prices : List ℕ) → first_prices prices (length prices) ≡ sum prices
prices_sum [] = refl
prices_sum (x ∷ xs) = let d = fold_from (0 + x) xs in let e = prices_sum xs in omega arith
