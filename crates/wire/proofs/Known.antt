-- Bytes that a reader has left and that a writer holds.
use Rattle.std.proofs.Common.{zero, suc, Bool, ◌<◌, ◌≡◌, List, [], ◌∷◌, ◌++◌, ℕ, Option, None, Some, refl, sym, ap, ◌∙◌, append_assoc, take, drop, ◌+◌, ◌-◌, ◌≤◌, length, length-drop, take_all, arith}
use Rattle.std.proofs.lemmas.List.{drop-take, take_at, take-append-le, length-take-le}
use Rattle.std.proofs.Math.Seq.{take-add}
use Rattle.std.specs.Io.KnownBytes.{Consumes, Appends, Keeps}
use Rattle.wire.specs.inner.InputState.{ended_after}

pub append_nil : {A : Type 0} (xs : List A) → xs ++ [] ≡ xs
append_nil [] = refl
append_nil (x ∷ xs) = ap (λ ys. x ∷ ys) (append_nil xs)

pub consumes_nothing : (i : Option (List ℕ)) → Consumes i i []
consumes_nothing None = tt
consumes_nothing (Some xs) = refl

pub appends_nothing : (i : Option (List ℕ)) → Appends i i []
appends_nothing None = tt
appends_nothing (Some xs) = sym (append_nil xs)

pub appends_kept : (i j k : Option (List ℕ)) (xs : List ℕ) → Appends i j xs → Keeps j k → Appends i k xs
appends_kept None j k xs a b = tt
appends_kept (Some ks) None k xs a b = absurd a
appends_kept (Some ks) (Some bs) None xs a b = absurd b
appends_kept (Some ks) (Some bs) (Some ds) xs a b = b ∙ a

pub consumes_more : (i j k : Option (List ℕ)) (xs ys : List ℕ) → Consumes i j xs → Consumes j k ys → Consumes i k (xs ++ ys)
consumes_more None j k xs ys a b = tt
consumes_more (Some ks) None k xs ys a b = absurd a
consumes_more (Some ks) (Some bs) None xs ys a b = absurd b
consumes_more (Some ks) (Some bs) (Some ds) xs ys a b = a ∙ (ap (λ zs. xs ++ zs) b ∙ sym (append_assoc xs ys ds))

pub appends_more : (i j k : Option (List ℕ)) (xs ys : List ℕ) → Appends i j xs → Appends j k ys → Appends i k (xs ++ ys)
appends_more None j k xs ys a b = tt
appends_more (Some ks) None k xs ys a b = absurd a
appends_more (Some ks) (Some bs) None xs ys a b = absurd b
appends_more (Some ks) (Some bs) (Some ds) xs ys a b = b ∙ (ap (λ zs. zs ++ ys) a ∙ append_assoc ks xs ys)

-- all that is behind a place
pub rest_all : (text : List ℕ) (at : ℕ) → take (length text - at) (drop at text) ≡ drop at text
rest_all text at = take_all (length text - at) (drop at text) (omega (arith, length-drop at text))

pub consumes_kept : (i j k : Option (List ℕ)) (xs : List ℕ) → Consumes i j xs → Keeps j k → Consumes i k xs
consumes_kept None j k xs a b = tt
consumes_kept (Some ks) None k xs a b = absurd a
consumes_kept (Some ks) (Some bs) None xs a b = absurd b
consumes_kept (Some ks) (Some bs) (Some ds) xs a b = a ∙ ap (λ ys. xs ++ ys) (sym b)

drop-nil : (n : ℕ) → drop {A = ℕ} n [] ≡ []
drop-nil zero = refl
drop-nil (suc n) = refl

drop_drop : (n m : ℕ) (xs : List ℕ) → drop (m + n) xs ≡ drop n (drop m xs)
drop_drop n zero xs = ap (λ k. drop k xs) (let e : 0 + n ≡ n = omega arith in e)
drop_drop n (suc m) [] = ap (λ k. drop k []) (let e : suc m + n ≡ suc (m + n) = omega arith in e) ∙ sym (drop-nil n)
drop_drop n (suc m) (x ∷ xs) = ap (λ k. drop k (x ∷ xs)) (let e : suc m + n ≡ suc (m + n) = omega arith in e) ∙ drop_drop n m xs

-- a window over a list, with some of its front left out
pub drop_window : (xs : List ℕ) (from to n : ℕ) → n ≤ to - from → take (to - (from + n)) (drop (from + n) xs) ≡ drop n (take (to - from) (drop from xs))
drop_window xs from to n h = ap (λ ys. take (to - (from + n)) ys) (drop_drop n from xs) ∙ (sym (drop-take n (to - (from + n)) (drop from xs)) ∙ ap (λ m. drop n (take m (drop from xs))) (let e : n + (to - (from + n)) ≡ to - from = omega arith in e))

-- what a read puts behind the bytes that are held
pub filled : (xs buffer items : List ℕ) (from to n len : ℕ) → from ≤ to → to ≤ length xs → length buffer ≡ len → (to - from) + n ≤ len
    → take (to - from) buffer ≡ take (to - from) (drop from xs ++ take from xs)
    → take (((to - from) + n) - 0) (take len (buffer ++ drop (length buffer) items)) ≡ take (to - from) (drop from xs) ++ take n (drop (to - from) buffer)
filled xs buffer items from to n len a b l f e =
    let w = to - from in
    let whole : take len (buffer ++ drop (length buffer) items) ≡ buffer = take_at buffer (drop (length buffer) items) len l in
    let count : (w + n) - 0 ≡ w + n = omega arith in
    let front : take w buffer ≡ take w (drop from xs) = e ∙ take-append-le w (drop from xs) (take from xs) (omega (arith, length-drop from xs)) in
    rw (whole, count, take-add w n buffer, front) refl

-- a read of some bytes is no end
pub still_open : (ended : Bool) (got : List ℕ) → 0 < length got → ended_after ended got ≡ ended
still_open ended [] h = absurd (omega arith)
still_open ended (b ∷ bs) h = refl

-- a read into some of the room got as many bytes as it said
pub length_got : (buffer : List ℕ) (w n : ℕ) → w + n ≤ length buffer → length (take n (drop w buffer)) ≡ n
length_got buffer w n h = length-take-le n (drop w buffer) (omega (arith, length-drop w buffer))

pub not_end : (buffer : List ℕ) (w n : ℕ) → w + n ≤ length buffer → (n ≡ 0 → ⊥) → 0 < length (take n (drop w buffer))
not_end buffer w n h e = let l = length_got buffer w n h in omega arith

pub none_got : (xs : List ℕ) (n : ℕ) → n ≡ 0 → take n xs ≡ []
none_got xs n h = ap (λ k. take k xs) h

pub not_empty : (xs : List ℕ) → 0 < length xs → xs ≡ [] → ⊥
not_empty [] h e = omega arith
not_empty (b ∷ bs) h e = cc
