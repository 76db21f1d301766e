-- Bytes of the stack, as loads and stores touch them.
use Rattle.std.proofs.Common.{◌≡◌, ◌<◌, ◌≤◌, ◌+◌, ℕ, zero, suc, arith, Bool, true, false, not, List, []}
use Rattle.std.proofs.Common.{◌∷◌, ◌++◌, length, take, drop, map, sym, ◌∙◌, ap, refl, ◌⊎◌, inl, inr, ◌||◌}
use Rattle.std.specs.Prelude.{Option, Some, None, is_some, is_none, slice_index_or, nat_eq}
use Rattle.std.specs.List.{list_any}
use Rattle.bpf_verify.specs.Tags.{bytes_from}

or_false : (a b : Bool) → (a || b) ≡ false → (a ≡ false) × (b ≡ false)
or_false true b e = absurd (cc)
or_false false b e = (refl, e)

not_false : (b : Bool) → not b ≡ false → b ≡ true
not_false true e = refl
not_false false e = absurd (cc)

some_not_none : (o : Option ℕ) → is_some o ≡ true → is_none o ≡ false
some_not_none (Some x) e = refl
some_not_none None e = absurd (cc)

-- ---- loads

shifted : (stored : ℕ → Bool) (n first : ℕ)
    → list_any (λ b. not (stored b)) (bytes_from (suc first) n) ≡ list_any (λ b. not (stored (suc b))) (bytes_from first n)
shifted stored zero first = refl
shifted stored (suc n) first = ap (λ b. not (stored (suc first)) || b) (shifted stored n (suc first))

take_none : (n : ℕ) → list_any (is_none {T = ℕ}) (take n []) ≡ false
take_none zero = refl
take_none (suc n) = refl

drop_none : (first n : ℕ) → list_any (is_none {T = ℕ}) (take n (drop first [])) ≡ false
drop_none zero n = take_none n
drop_none (suc first) n = take_none n

-- where the bytes are stored, a load finds all of them
pub load_finds : (stack : List (Option ℕ)) (first n : ℕ) (stored : ℕ → Bool)
    → ((b : ℕ) → stored b ≡ true → is_some (slice_index_or stack b None) ≡ true)
    → list_any (λ b. not (stored b)) (bytes_from first n) ≡ false → list_any is_none (take n (drop first stack)) ≡ false
load_finds [] first n stored h e = drop_none first n
load_finds (x ∷ xs) (suc first) n stored h e =
    load_finds xs first n (λ b. stored (suc b)) (λ b s. h (suc b) s) (sym (shifted stored n first) ∙ e)
load_finds (x ∷ xs) zero zero stored h e = refl
load_finds (x ∷ xs) zero (suc n) stored h e =
    let s = or_false (not (stored 0)) (list_any (λ b. not (stored b)) (bytes_from 1 n)) e in
    let here : is_none x ≡ false = some_not_none x (h 0 (not_false (stored 0) s.0)) in
    let rest = load_finds xs zero n (λ b. stored (suc b)) (λ b t. h (suc b) t) (sym (shifted stored n zero) ∙ s.1) in
    rw here rest

-- ---- stores

-- what is stored, and what was stored before, is stored
pub store_keeps : (stack : List (Option ℕ)) (first m b : ℕ) (bs : List ℕ) → m ≡ first + length bs → m ≤ length stack
    → (is_some (slice_index_or stack b None) ≡ true) ⊎ ((first ≤ b) × (b < m))
    → is_some (slice_index_or (take first stack ++ (map Some bs ++ drop m stack)) b None) ≡ true
store_keeps stack zero zero b [] e l (inl h) = h
store_keeps stack zero zero b [] e l (inr h) = absurd (let x = h.1 in omega arith)
store_keeps stack zero (suc m) b [] e l h = absurd (omega arith)
store_keeps stack zero zero b (y ∷ ys) e l h = absurd (omega arith)
store_keeps stack zero (suc m) zero (y ∷ ys) e l h = refl
store_keeps [] zero (suc m) (suc b) (y ∷ ys) e l h = absurd (omega arith)
store_keeps (x ∷ xs) zero (suc m) (suc b) (y ∷ ys) e l (inl h) = store_keeps xs zero m b ys (omega arith) (omega arith) (inl h)
store_keeps (x ∷ xs) zero (suc m) (suc b) (y ∷ ys) e l (inr h) =
    store_keeps xs zero m b ys (omega arith) (omega arith) (inr (omega arith, let u = h.1 in omega arith))
store_keeps stack (suc first) zero b bs e l h = absurd (omega arith)
store_keeps [] (suc first) (suc m) b bs e l h = absurd (omega arith)
store_keeps (x ∷ xs) (suc first) (suc m) zero bs e l (inl h) = h
store_keeps (x ∷ xs) (suc first) (suc m) zero bs e l (inr h) = absurd (let u = h.0 in omega arith)
store_keeps (x ∷ xs) (suc first) (suc m) (suc b) bs e l (inl h) = store_keeps xs first m b bs (omega arith) (omega arith) (inl h)
store_keeps (x ∷ xs) (suc first) (suc m) (suc b) bs e l (inr h) =
    store_keeps xs first m b bs (omega arith) (omega arith) (inr (let u = h.0 in omega arith, let v = h.1 in omega arith))

pub store_length : (stack : List (Option ℕ)) (first m : ℕ) (bs : List ℕ) → m ≡ first + length bs → m ≤ length stack
    → length (take first stack ++ (map Some bs ++ drop m stack)) ≡ length stack
store_length stack zero zero [] e l = refl
store_length stack zero (suc m) [] e l = absurd (omega arith)
store_length stack zero zero (y ∷ ys) e l = absurd (omega arith)
store_length [] zero (suc m) (y ∷ ys) e l = absurd (omega arith)
store_length (x ∷ xs) zero (suc m) (y ∷ ys) e l = ap suc (store_length xs zero m ys (omega arith) (omega arith))
store_length stack (suc first) zero bs e l = absurd (omega arith)
store_length [] (suc first) (suc m) bs e l = absurd (omega arith)
store_length (x ∷ xs) (suc first) (suc m) bs e l = ap suc (store_length xs first m bs (omega arith) (omega arith))

nat_eq_means : (a b : ℕ) → nat_eq a b ≡ true → a ≡ b
nat_eq_means a b e = grind arith

-- a byte from a first one on
pub byte_within : (b first n : ℕ) → list_any (nat_eq b) (bytes_from first n) ≡ true → (first ≤ b) × (b < first + n)
byte_within b first zero e = absurd (cc)
byte_within b first (suc n) e = step (nat_eq b first) refl e (λ u. byte_within b (suc first) n u) where
  step : (t : Bool) → nat_eq b first ≡ t → (t || list_any (nat_eq b) (bytes_from (suc first) n)) ≡ true → (list_any (nat_eq b) (bytes_from (suc first) n) ≡ true → (suc first ≤ b) × (b < suc first + n)) → (first ≤ b) × (b < first + suc n)
  step true t u f = let s = nat_eq_means b first t in (omega arith, omega arith)
  step false t u f = let r = f u in (let v = r.0 in omega arith, let w = r.1 in omega arith)
