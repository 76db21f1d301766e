-- Marks, as the bits of eight words.
use Rattle.std.proofs.Common.{◌≡◌, ◌≢◌, ◌<◌, ◌≤◌, ◌+◌, ◌/◌, ◌%◌, ◌^◌, ◌-◌, ℕ, suc}
use Rattle.std.proofs.Common.{arith, Bool, true, false, not, List, ◌∷◌, length, sym, ◌∙◌, ap, refl, ◌||◌, ◌&&◌}
use Rattle.std.proofs.Common.{inl, inr, get_or-set_same, get_or-set_other}
use Rattle.std.specs.Prelude.{nat_eq, slice_set, slice_index_or, bit_or, bit_and, max, min}
use Rattle.std.specs.Int.{bit_at}
use Rattle.std.specs.List.{list_any}
use Rattle.std.proofs.lemmas.Bool.{cases_eq, cases_lt}
use Rattle.std.proofs.lemmas.List.{get_or_past}
use Rattle.std.proofs.lemmas.Nat.Bits.{bit_at_or, bit_at_and, bit_at-lt, bit_at-pow_same, bit_at-pow_other, bit_at-zero}
use Rattle.bpf_verify.specs.Tags.{bytes_from}

abbrev at_bit : List ℕ → ℕ → ℕ → Bool
at_bit words w i = nat_eq (bit_at (slice_index_or words w 0) i) 1

nat_eq_same : (a b : ℕ) → a ≡ b → nat_eq a b ≡ true
nat_eq_same a b e = grind arith

nat_eq_other : (a b : ℕ) → a ≢ b → nat_eq a b ≡ false
nat_eq_other a b n = grind arith

or_true : (b : Bool) → (b || true) ≡ true
or_true true = refl
or_true false = refl

or_none : (b : Bool) → (b || false) ≡ b
or_none true = refl
or_none false = refl

max_one : (a : ℕ) → a < 2 → max a 1 ≡ 1
max_one a h = omega arith

max_zero : (a : ℕ) → max a 0 ≡ a
max_zero a = omega arith

same_bit : (w i : ℕ) → nat_eq (bit_at (bit_or w (2 ^ i)) i) 1 ≡ true
same_bit w i =
    nat_eq_same _ 1 (bit_at_or w (2 ^ i) i ∙ ap (max (bit_at w i)) (bit_at-pow_same i) ∙ max_one (bit_at w i) (bit_at-lt w i))

other_bit : (w j i : ℕ) → i ≢ j → nat_eq (bit_at (bit_or w (2 ^ j)) i) 1 ≡ nat_eq (bit_at w i) 1
other_bit w j i n =
    ap (λ x. nat_eq x 1) (bit_at_or w (2 ^ j) i ∙ ap (max (bit_at w i)) (bit_at-pow_other j i n) ∙ max_zero (bit_at w i))

apart : (a b c d : ℕ) → a / 64 ≢ b / 64 → a ≢ b
apart a b c d n e = n (ap (λ x. x / 64) e)

together : (a b : ℕ) → a / 64 ≡ b / 64 → a % 64 ≡ b % 64 → a ≡ b
together a b d m = omega (arith, d, m)

pub marked_set : (words : List ℕ) (byte other bit : ℕ) → byte / 64 < length words → bit ≡ 2 ^ (byte % 64) → at_bit (slice_set words (byte / 64) (bit_or (slice_index_or words (byte / 64) 0) bit)) (other / 64) (other % 64) ≡ (at_bit words (other / 64) (other % 64) || nat_eq other byte)
marked_set words byte other bit within e = rw e (elim (cases_eq (other / 64) (byte / 64)) [
  | inl d ↦ elim (cases_eq (other % 64) (byte % 64)) [
    | inl m ↦ rw (nat_eq_same other byte (together other byte d m), d, m, get_or-set_same words (byte / 64) (bit_or (slice_index_or words (byte / 64) 0) (2 ^ (byte % 64))) 0 within) (same_bit (slice_index_or words (byte / 64) 0) (byte % 64) ∙ sym (or_true (at_bit words (byte / 64) (byte % 64))))
    | inr m ↦ rw (nat_eq_other other byte (λ s. m (ap (λ x. x % 64) s)), d, get_or-set_same words (byte / 64) (bit_or (slice_index_or words (byte / 64) 0) (2 ^ (byte % 64))) 0 within) (other_bit (slice_index_or words (byte / 64) 0) (byte % 64) (other % 64) m ∙ sym (or_none (at_bit words (byte / 64) (other % 64))))
  ]
  | inr d ↦ rw (nat_eq_other other byte (λ s. d (ap (λ x. x / 64) s)), get_or-set_other words (byte / 64) (other / 64) (bit_or (slice_index_or words (byte / 64) 0) (2 ^ (byte % 64))) 0 d) (sym (or_none (at_bit words (other / 64) (other % 64))))
])

-- both of two bits
pub both_bits : (a b i : ℕ) → nat_eq (bit_at (bit_and a b) i) 1 ≡ (nat_eq (bit_at a i) 1 && nat_eq (bit_at b i) 1)
both_bits a b i = ap (λ x. nat_eq x 1) (bit_at_and a b i) ∙ least (bit_at a i) (bit_at b i) (bit_at-lt a i) (bit_at-lt b i) where
  least : (x y : ℕ) → x < 2 → y < 2 → nat_eq (min x y) 1 ≡ (nat_eq x 1 && nat_eq y 1)
  least x y h k = grind arith

-- ---- bytes from a first one on

less_one : (byte end : ℕ) → byte < end → end - byte ≡ suc (end - (byte + 1))
less_one byte end h = omega arith

next_byte : (byte : ℕ) → suc byte ≡ byte + 1
next_byte byte = omega arith

-- the first of them, and the others
pub first_on : (byte end : ℕ) → byte < end
    → bytes_from byte (end - byte) ≡ byte ∷ bytes_from (byte + 1) (end - (byte + 1))
first_on byte end h =
    ap (bytes_from byte) (less_one byte end h) ∙ ap (λ b. byte ∷ bytes_from b (end - (byte + 1))) (next_byte byte)

or_assoc : (a b c : Bool) → ((a || b) || c) ≡ (a || (b || c))
or_assoc true b c = refl
or_assoc false b c = refl

-- a byte more is marked
pub more_marked : (byte end other : ℕ) (old new : Bool) → byte < end → new ≡ (old || nat_eq other byte) → (new || list_any (nat_eq other) (bytes_from (byte + 1) (end - (byte + 1)))) ≡ (old || list_any (nat_eq other) (bytes_from byte (end - byte)))
more_marked byte end other old new h e = rw (e, first_on byte end h) (or_assoc old (nat_eq other byte) (list_any (nat_eq other) (bytes_from (byte + 1) (end - (byte + 1)))))

-- a marked byte is not missed
pub not_missed : (marked : ℕ → Bool) (byte end : ℕ) → byte < end → marked byte ≡ true → list_any (λ b. not (marked b)) (bytes_from (byte + 1) (end - (byte + 1))) ≡ list_any (λ b. not (marked b)) (bytes_from byte (end - byte))
not_missed marked byte end h e = rw (first_on byte end h) (rw e refl)

pub is_missed : (marked : ℕ → Bool) (byte end : ℕ) → byte < end → marked byte ≡ false
    → list_any (λ b. not (marked b)) (bytes_from byte (end - byte)) ≡ true
is_missed marked byte end h e = rw (first_on byte end h) (rw e refl)

-- words, each the bits that two words have in common
pub and_words : (a b new : List ℕ) (byte : ℕ) → length a ≡ 8
    → ((k : ℕ) → k < 8 → slice_index_or new k 0 ≡ bit_and (slice_index_or a k 0) (slice_index_or b k 0))
    → ((k : ℕ) → 8 ≤ k → slice_index_or new k 0 ≡ 0)
    → at_bit new (byte / 64) (byte % 64) ≡ (at_bit a (byte / 64) (byte % 64) && at_bit b (byte / 64) (byte % 64))
and_words a b new byte long low high = elim (cases_lt (byte / 64) 8) [
  | inl h ↦ rw (low (byte / 64) h) (both_bits (slice_index_or a (byte / 64) 0) (slice_index_or b (byte / 64) 0) (byte % 64))
  | inr h ↦ rw (high (byte / 64) h, get_or_past a (byte / 64) 0 (omega (arith, long, h)), bit_at-zero (byte % 64)) refl
]
