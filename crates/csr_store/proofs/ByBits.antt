-- A column that is copied: a word a row, and a bit in words of 64 that says whether the row has one.
use Rattle.std.proofs.Common.{◌≡◌, ◌≤◌, ◌<◌, ◌+◌, ◌*◌, ◌/◌, ◌%◌, ◌^◌, ◌++◌, ◌&&◌, ℕ, Bool, true, false, nat_eq, w64, List, [], ◌∷◌, None, Some, length, map, get_or, set, if◌then◌else◌, refl, sym, ap, ◌∙◌, subst, inl, inr, arith, length-append, get_or-set_same, get_or-set_other}
use mir.Val.{bool_byte}
use Rattle.std.proofs.Math.ListN.{get_or-append}
use Rattle.std.proofs.Math.Logic.{⊎_elim}
use Rattle.std.proofs.Math.Seq.{get_or-append_seam}
use Rattle.std.proofs.lemmas.Bool.{cases_lt}
use Rattle.std.proofs.lemmas.Bool.Decides.{eqb_tells}
use Rattle.std.proofs.lemmas.List.{ext_get_or, get_or-map, length-map}
use Rattle.std.proofs.lemmas.List.FromFn.{length-map-range_with_len, get_or-map-range_with_len}
use Rattle.std.proofs.lemmas.Nat.Bits.{bit_at_or, bit_at_set_same, bit_at_set_other, bit_at-zero, shr_and_one}
use Rattle.std.specs.FinMap.{get}
use Rattle.std.specs.Int.{bit_at}
use Rattle.std.specs.Int.RustNames.{bit_or, bit_and}
use Rattle.csr_store.specs.Grid.{Grid}
use Rattle.csr_store.specs.Column.{column_of}
use Rattle.csr_store.specs.inner.Column.{bit_of, slot_at, slots, AllHave, IsCopied}

-- ---- a bit that is set, or isn't

-- a word with a bit more, if it stands
abbrev with_bit : ℕ → ℕ → ℕ → ℕ
with_bit word b s = bit_or word (b * 2 ^ s % 2 ^ 64)

pub byte_is : (stands : Bool) → bool_byte stands ≡ (if stands then 1 else 0)
byte_is true = refl
byte_is false = refl

with_none : (word s i : ℕ) → bit_at (with_bit word 0 s) i ≡ bit_at word i
with_none word s i =
    let z : 0 * 2 ^ s % 2 ^ 64 ≡ 0 = omega arith in
    ap (λ n. bit_at (bit_or word n) i) z ∙ omega (arith, bit_at_or word 0 i, bit_at-zero i)

with_same : (word b s : ℕ) (stands : Bool) → s < 64 → b ≡ (if stands then 1 else 0)
    → bit_at (with_bit word b s) s ≡ (if stands then 1 else bit_at word s)
with_same word b s true l e = ap (λ n. bit_at (with_bit word n s) s) e ∙ bit_at_set_same w64 word s l
with_same word b s false l e = ap (λ n. bit_at (with_bit word n s) s) e ∙ with_none word s s

with_other : (word b s i : ℕ) (stands : Bool) → s < 64 → b ≡ (if stands then 1 else 0) → (i ≡ s → ⊥)
    → bit_at (with_bit word b s) i ≡ bit_at word i
with_other word b s i true l e n = ap (λ m. bit_at (with_bit word m s) i) e ∙ bit_at_set_other w64 word s l i n
with_other word b s i false l e n = ap (λ m. bit_at (with_bit word m s) i) e ∙ with_none word s i

module _ (bits : List ℕ) (k word b : ℕ) (stands : Bool) (l : k < 64 * length bits) (w : word ≡ get_or bits (k / 64) 0)
    (e : b ≡ (if stands then 1 else 0)) where
  abbrev next : List ℕ
  next = set bits (k / 64) (with_bit word b (k % 64))

  pub bit_here : bit_of next k ≡ (if stands then 1 else bit_of bits k)
  bit_here =
      ap (λ u. bit_at u (k % 64)) (get_or-set_same bits (k / 64) (with_bit word b (k % 64)) 0 (omega (arith, l)))
      ∙ (with_same word b (k % 64) stands (omega arith) e
      ∙ ap (λ u. if stands then 1 else bit_at u (k % 64)) w)

  pub bit_there : (j : ℕ) → (j ≡ k → ⊥) → bit_of next j ≡ bit_of bits j
  bit_there j n = elim (eqb_tells (j / 64) (k / 64)) [
    | inl d ↦
        ap (λ p. bit_at (get_or next p 0) (j % 64)) d.1
        ∙ (ap (λ u. bit_at u (j % 64)) (get_or-set_same bits (k / 64) (with_bit word b (k % 64)) 0 (omega (arith, l)))
        ∙ (with_other word b (k % 64) (j % 64) stands (omega arith) e
        (λ m. n (let q = d.1 in let same : j ≡ k = omega (arith, q, m) in same))
        ∙ (ap (λ u. bit_at u (j % 64)) w ∙ ap (λ p. bit_at (get_or bits p 0) (j % 64)) (sym d.1))))
    | inr d ↦ ap (λ u. bit_at u (j % 64)) (get_or-set_other bits (k / 64) (j / 64) (with_bit word b (k % 64)) 0 d.1)
  ]

-- ---- rows that are copied one after another

-- the first n rows are, and no bit behind them is set
pub record Copying (g : Grid) (n : ℕ) (words bits : List ℕ) (full : Bool) : Type 0 where
  pub rows : length words ≡ n
  pub slots_are : (k : ℕ) → k < n → slot_at words bits k ≡ get g.cells (k, 0)
  pub clear : (k : ℕ) → n ≤ k → bit_of bits k ≡ 0
  pub all : full ≡ true → AllHave bits n

-- ---- what a copy has at a row

pub length_slots : (words bits : List ℕ) → length (slots words bits) ≡ length words
length_slots words bits = length-map-range_with_len (slot_at words bits) 0 (length words)

pub slot_is : (words bits : List ℕ) (k : ℕ) → k < length words → get_or (slots words bits) k None ≡ slot_at words bits k
slot_is words bits k l = get_or-map-range_with_len (slot_at words bits) 0 (length words) k k None l (omega arith)

pub slot_full : (words bits : List ℕ) (k : ℕ) → bit_of bits k ≡ 1 → slot_at words bits k ≡ Some (get_or words k 0)
slot_full words bits k e = ap (λ n. if nat_eq n 1 then Some (get_or words k 0) else None) e

pub bit_read : (bits : List ℕ) (k : ℕ) → bit_and (get_or bits (k / 64) 0 / 2 ^ (k % 64)) 1 ≡ bit_of bits k
bit_read bits k = shr_and_one (get_or bits (k / 64) 0) (k % 64)

-- what stands at a row of a column
pub column_at : (g : Grid) (k : ℕ) → k < g.rows → get_or (column_of g) k None ≡ get g.cells (k, 0)
column_at g k l = get_or-map-range_with_len (λ i. get g.cells (i, 0)) 0 g.rows k k None l (omega arith)

pub length_column : (g : Grid) → length (column_of g) ≡ g.rows
length_column g = length-map-range_with_len (λ i. get g.cells (i, 0)) 0 g.rows

-- where each row has a word
pub slots_full : (words bits : List ℕ) → AllHave bits (length words) → slots words bits ≡ map (λ (w : ℕ). Some w) words
slots_full words bits h =
    let s = length_slots words bits in
    ext_get_or None (slots words bits) (map (λ (w : ℕ). Some w) words) (s ∙ sym (length-map words (λ (w : ℕ). Some w)))
    (λ k l. let n : k < length words = omega (arith, l, s) in
    slot_is words bits k n ∙ (slot_full words bits k (h k n) ∙ sym (get_or-map (λ (w : ℕ). Some w) words k 0 None n)))

pub copied_is : (g : Grid) (words bits : List ℕ) (full : Bool) → IsCopied g words bits full → slots words bits ≡ column_of g
copied_is g words bits full h =
    let n = h.rows in
    let s = length_slots words bits in
    let c = length_column g in
    ext_get_or None (slots words bits) (column_of g) (s ∙ (n ∙ sym c))
    (λ k l. slot_is words bits k (omega (arith, l, s)) ∙ (h.slots_are k (omega (arith, l, s, n)) ∙ sym (column_at g k (omega (arith, l, s, n)))))

-- ---- one row more

and_first : (a b : Bool) → a && b ≡ true → a ≡ true
and_first true b e = refl
and_first false b e = e

and_second : (a b : Bool) → a && b ≡ true → b ≡ true
and_second true b e = e
and_second false true e = refl
and_second false false e = e

module _ (g : Grid) (n : ℕ) (words bits more : List ℕ) (word : ℕ) (stands full : Bool) (m : Copying g n words bits full)
    (s : get g.cells (n, 0) ≡ (if stands then Some word else None)) (here : bit_of more n ≡ (if stands then 1 else bit_of bits n))
    (there : (j : ℕ) → (j ≡ n → ⊥) → bit_of more j ≡ bit_of bits j) where
  last_word : get_or (words ++ word ∷ []) n 0 ≡ word
  last_word = subst (λ p. get_or (words ++ word ∷ []) p 0 ≡ word) m.rows (get_or-append_seam words word [] 0)

  last_bit : (b : Bool) → stands ≡ b → bit_of more n ≡ (if b then 1 else 0)
  last_bit true e = here ∙ ap (λ b. if b then 1 else bit_of bits n) e
  last_bit false e = here ∙ (ap (λ b. if b then 1 else bit_of bits n) e ∙ m.clear n (omega arith))

  last_slot : (b : Bool) → stands ≡ b → slot_at (words ++ word ∷ []) more n ≡ get g.cells (n, 0)
  last_slot true e =
      slot_full (words ++ word ∷ []) more n (last_bit true e)
      ∙ (ap (λ w. Some w) last_word ∙ sym (s ∙ ap (λ b. if b then Some word else None) e))
  last_slot false e =
      ap (λ b. if nat_eq b 1 then Some (get_or (words ++ word ∷ []) n 0) else None) (last_bit false e)
      ∙ sym (s ∙ ap (λ b. if b then Some word else None) e)

  slot_before : (k : ℕ) → k < n → slot_at (words ++ word ∷ []) more k ≡ slot_at words bits k
  slot_before k l =
      let w = m.rows in
      ap (λ b. if nat_eq b 1 then Some (get_or (words ++ word ∷ []) k 0) else None) (there k (λ e. omega (arith, e, l)))
      ∙ ap (λ v. if nat_eq (bit_of bits k) 1 then Some v else None) (get_or-append words (word ∷ []) 0 k (omega (arith, l, w)))

  pub copying_step : Copying g (n + 1) (words ++ word ∷ []) more (full && stands)
  copying_step = record {
    rows = let w = m.rows in let a = length-append words (word ∷ []) in omega (arith, w, a);
    slots_are = λ k l. elim (eqb_tells k n) [
      | inl d ↦ subst (λ j. slot_at (words ++ word ∷ []) more j ≡ get g.cells (j, 0)) (sym d.1) (last_slot stands refl)
      | inr d ↦ let w = d.1 in let a : k < n = below k l w in slot_before k a ∙ m.slots_are k a
    ];
    clear = λ k l. there k (λ e. omega (arith, e, l)) ∙ m.clear k (omega (arith, l));
    all = λ t k l. elim (eqb_tells k n) [
      | inl d ↦ subst (λ j. bit_of more j ≡ 1) (sym d.1) (last_bit true (and_second full stands t))
      | inr d ↦ there k d.1 ∙ m.all (and_first full stands t) k (below k l d.1)
    ];
  }
    where
      below : (k : ℕ) → k < n + 1 → (k ≡ n → ⊥) → k < n
      below k l w = ⊎_elim (λ (a : k < n). a) (λ (a : n ≤ k). absurd (w (let e : k ≡ n = omega (arith, a, l) in e))) (cases_lt k n)

pub copying_ends : (g : Grid) (n : ℕ) (words bits : List ℕ) (full : Bool) → Copying g n words bits full → n ≡ g.rows
    → IsCopied g words bits full
copying_ends g n words bits full m e = record {
  rows = m.rows ∙ e;
  slots_are = λ k l. m.slots_are k (omega (arith, l, e));
  all = λ t k l. m.all t k (omega (arith, l, e));
}
