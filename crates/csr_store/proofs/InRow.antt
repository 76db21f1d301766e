-- A search in a row, whose columns ascend.
use Rattle.std.proofs.Common.{zero, suc, ◌≡◌, ◌≤◌, ◌<◌, ℕ, true, List, [], ◌∷◌, length, get_or, Option, None, Some, is_some, nat_eq, refl, sym, arith}
use Rattle.std.specs.Prelude.{slice_index}
use Rattle.std.proofs.lemmas.List.{get_or-map}
use Rattle.std.proofs.lemmas.Bool.{ne_eqb, eq-eqb}
use Rattle.std.proofs.lemmas.Bool.Decides.{nat_tests}
use Rattle.std.specs.Ordering.{nat_cmp, is_lt}
use Rattle.std.specs.Map.{lookup}
use Rattle.std.specs.List.Sorted.{IsNonDecreasingBy}
use Rattle.std.specs.FinMap.{is_sorted}
use Rattle.std.specs.FinMap.Entries.{below_all}
use Rattle.csr_store.specs.Grid.{Cell}
use Rattle.csr_store.specs.Columns.{columns_of}
use Rattle.csr_store.proofs.Order.{both_true}

less : (a b : ℕ) → is_lt (nat_cmp a b) ≡ true → a < b
less a b h = grind (arith, nat_tests)

pub later_column : (x : ℕ) (row : List Cell) (k : ℕ) (d : Cell) → below_all nat_cmp x row ≡ true → k < length row → x < (get_or row k d).0
later_column x [] k d h l = absurd (omega arith)
later_column x (c ∷ row) zero d h l = less x c.0 (both_true _ _ h).0
later_column x (c ∷ row) (suc k) d h l = later_column x row k d (both_true _ _ h).1 (omega arith)

pub columns_rise : (row : List Cell) → is_sorted nat_cmp row ≡ true → IsNonDecreasingBy (λ (c : Cell). c.0) row
columns_rise [] h i j d a b = absurd (omega arith)
columns_rise (c ∷ row) h zero zero d a b = omega arith
columns_rise (c ∷ row) h zero (suc j) d a b = let l = later_column c.0 row j d (both_true _ _ h).0 (omega arith) in omega arith
columns_rise (c ∷ row) h (suc i) zero d a b = absurd (omega arith)
columns_rise (c ∷ row) h (suc i) (suc j) d a b = columns_rise row (both_true _ _ h).1 i j d (omega arith) (omega arith)

pub column_at : (row : List Cell) (k : ℕ) (d : Cell) → k < length row → slice_index (columns_of row) k ≡ (get_or row k d).0
column_at row k d l = get_or-map (λ (c : Cell). c.0) row k d 0 l

-- the column that stands at a place has the value there
pub found_at : (row : List Cell) (j at : ℕ) (d : Cell) → is_sorted nat_cmp row ≡ true → at < length row → (get_or row at d).0 ≡ j → lookup (nat_eq j) row ≡ Some (get_or row at d).1
found_at [] j at d h l e = absurd (omega arith)
found_at (c ∷ row) j zero d h l e = rw (eq-eqb j c.0 (sym e)) refl
found_at (c ∷ row) j (suc at) d h l e =
    let later = later_column c.0 row at d (both_true _ _ h).0 (omega arith) in
    rw (ne_eqb j c.0 (λ q. omega arith)) (found_at row j at d (both_true _ _ h).1 (omega arith) e)

none_above : (j x : ℕ) (row : List Cell) → j ≤ x → below_all nat_cmp x row ≡ true → lookup (nat_eq j) row ≡ None
none_above j x [] l h = refl
none_above j x (c ∷ row) l h =
    let t = both_true _ _ h in
    let later = less x c.0 t.0 in
    rw (ne_eqb j c.0 (λ q. omega arith)) (none_above j x row l t.1)

-- a column that doesn't stand between the lower and the higher ones has none
pub none_at : (row : List Cell) (j at : ℕ) → is_sorted nat_cmp row ≡ true
    → ((k : ℕ) → k < at → slice_index (columns_of row) k < j) → ((k : ℕ) → at ≤ k → k < length row → j ≤ slice_index (columns_of row) k)
    → (at < length row → slice_index (columns_of row) at ≡ j → ⊥) → at ≤ length row → lookup (nat_eq j) row ≡ None
none_at [] j at h a b n l = refl
none_at (c ∷ row) j zero h a b n l =
    let high = b 0 (omega arith) (omega arith) in
    rw (ne_eqb j c.0 (λ q. n (omega arith) (sym q))) (none_above j c.0 row high (both_true _ _ h).0)
none_at (c ∷ row) j (suc at) h a b n l =
    let low = a 0 (omega arith) in
    rw (ne_eqb j c.0 (λ q. omega arith))
    (none_at row j at (both_true _ _ h).1 (λ k s. a (suc k) (omega arith)) (λ k s t. b (suc k) (omega arith) (omega arith)) (λ s q. n (omega arith) q) (omega arith))

pub not_none : {X : Type 0} (o : Option X) → is_some o ≡ true → o ≡ None → ⊥
not_none None s e = absurd (cc)
not_none (Some x) s e = absurd (cc)
