-- Rows with the same columns: union and both make of them the values of calls on their pairs.
use Rattle.std.proofs.Common.{◌≡◌, ◌≤◌, ◌<◌, ◌+◌, ℕ, zero, suc, true, List, [], ◌∷◌, ◌++◌, length, Option, None, Some, refl, sym, ap, ◌∙◌, subst, arith, inl, inr, take, drop, get_or, append_assoc, append-nil, length-append}
use Rattle.std.proofs.lemmas.Bool.{cases_eq}
use Rattle.std.proofs.lemmas.List.{drop_more, drop_all}
use Rattle.bpf_insn.specs.declared.operands.Operands.{Operands}
use Rattle.bpf_insn.specs.declared.operands.Operands.TheVariants.{Binary}
use Rattle.bpf_insn.specs.declared.operands.Kind.TheVariants as kinds
use Rattle.bpf_verify.specs.Accepted.{Accepted}
use Rattle.csr_store.specs.Grid.{Grid, IsGrid, Cell, row_of}
use Rattle.csr_store.specs.Along.{along, cell_at}
use Rattle.csr_store.specs.Ascending.{Ascends}
use Rattle.csr_store.specs.Added.{with_values}
use Rattle.csr_store.proofs.Along.{row_of-ascends, along-none}
use Rattle.csr_store.specs.Mask.{mask_of}
use Rattle.bpf_run.specs.Calls.{Gathered, calls_on, values_on}
use Rattle.entry_ops.specs.inner.Forms.{Form, Apply, Select, Union, Both}
use Rattle.entry_ops.specs.declared.operand_rows.Sources.{Sources}
use Rattle.entry_ops.specs.inner.Paired.{columns_of, pairs_in, AreInStep, range_pairs, ArePaired}
use Rattle.job_forms.specs.declared.region.Chunk.{Chunk}
use Rattle.entry_ops.specs.inner.Walking.{kind_for, is_joint, form_at, form_calls, row_cells, row_calls, IsFormMade}
use Rattle.entry_ops.proofs.Nexts.{next_both, next_first}
use Rattle.entry_ops.proofs.Merging.{cells_here, calls_here, no_cell, no_call}
use Rattle.entry_ops.proofs.Mapped.{parts}
use Rattle.entry_ops.proofs.OpenRows.{same_take}
use Rattle.entry_ops.proofs.Whole.{AreMapped}

-- ---- pairs of two lists of cells

pub same_length : (xs ys : List Cell) → columns_of xs ≡ columns_of ys → length ys ≡ length xs
same_length [] [] e = refl
same_length [] (y ∷ ys) e = absurd (cc)
same_length (x ∷ xs) [] e = absurd (cc)
same_length (x ∷ xs) (y ∷ ys) e = ap suc (same_length xs ys (cc))

length_pairs : (xs ys : List Cell) → length ys ≡ length xs → length (pairs_in xs ys) ≡ length xs
length_pairs [] ys l = refl
length_pairs (x ∷ xs) [] l = absurd (omega (arith, l))
length_pairs (x ∷ xs) (y ∷ ys) l = ap suc (length_pairs xs ys (omega (arith, l)))

pub pairs_in-append : (xs us ys vs : List Cell) → length ys ≡ length xs → pairs_in (xs ++ us) (ys ++ vs) ≡ pairs_in xs ys ++ pairs_in us vs
pairs_in-append [] us [] vs l = refl
pairs_in-append [] us (y ∷ ys) vs l = absurd (omega (arith, l))
pairs_in-append (x ∷ xs) us [] vs l = absurd (omega (arith, l))
pairs_in-append (x ∷ xs) us (y ∷ ys) vs l = ap (λ os. Binary x.1 y.1 ∷ os) (pairs_in-append xs us ys vs (omega (arith, l)))

record AreBoth (xs us ys vs : List Cell) : Type 0 where
  front : columns_of xs ≡ columns_of ys
  back : columns_of us ≡ columns_of vs

same_parts : (xs us ys vs : List Cell) → length xs ≡ length ys → columns_of (xs ++ us) ≡ columns_of (ys ++ vs) → AreBoth xs us ys vs
same_parts [] us [] vs l e = record { front = refl; back = e }
same_parts [] us (y ∷ ys) vs l e = absurd (omega (arith, l))
same_parts (x ∷ xs) us [] vs l e = absurd (omega (arith, l))
same_parts (x ∷ xs) us (y ∷ ys) vs l e =
    let first : x.0 ≡ y.0 = cc in
    let rest : columns_of (xs ++ us) ≡ columns_of (ys ++ vs) = cc in
    let both = same_parts xs us ys vs (omega (arith, l)) rest in
    record { front = ap (λ k. k ∷ columns_of xs) first ∙ ap (λ ks. y.0 ∷ ks) both.front; back = both.back }

-- some of them at the front
pub pairs_parts : (n : ℕ) (xs ys us vs ws zs : List Cell) → length ys ≡ length xs → us ≡ take n xs → ws ≡ drop n xs → vs ≡ take n ys → zs ≡ drop n ys
    → pairs_in xs ys ≡ pairs_in us vs ++ pairs_in ws zs
pairs_parts n xs ys us vs ws zs l a b c d =
    ap (λ cs. pairs_in cs ys) (parts n xs us ws a b) ∙ (ap (pairs_in (us ++ ws)) (parts n ys vs zs c d)
    ∙ pairs_in-append us ws vs zs (ap (λ (cs : List Cell). length cs) c ∙ same_take n xs ys l ∙ sym (ap (λ (cs : List Cell). length cs) a)))

-- the columns are the same where each is
pub same_columns : (xs ys : List Cell) (d : Cell) → length ys ≡ length xs
    → ((k : ℕ) → k < length xs → (get_or xs k d).0 ≡ (get_or ys k d).0) → columns_of xs ≡ columns_of ys
same_columns [] [] d l h = refl
same_columns [] (y ∷ ys) d l h = absurd (omega (arith, l))
same_columns (x ∷ xs) [] d l h = absurd (omega (arith, l))
same_columns (x ∷ xs) (y ∷ ys) d l h =
    ap (λ k. k ∷ columns_of xs) (h 0 (omega arith))
    ∙ ap (λ ks. y.0 ∷ ks) (same_columns xs ys d (omega (arith, l)) (λ k u. h (suc k) (omega (arith, u))))

-- ---- pairs that are gathered one after the other

pub record IsGathering (left right : List Cell) (start : Gathered) (i : ℕ) (now : Gathered) : Type 0 where
  pub same : now ≡ record start { operands = now.operands }
  pub index_calls : now.operands ++ pairs_in (drop i left) (drop i right) ≡ start.operands ++ pairs_in left right
  pub many : length now.operands ≡ length start.operands + i

module _ (left right : List Cell) (start : Gathered) (l : length right ≡ length left) where
  pub gathering-start : IsGathering left right start 0 start
  gathering-start = record { same = refl; index_calls = refl; many = omega arith }

  pub gathering-step : (i : ℕ) (now next : Gathered) (d : Cell) → IsGathering left right start i now → i < length left
      → next ≡ record now { operands = now.operands ++ Binary (get_or left i d).1 (get_or right i d).1 ∷ [] }
      → IsGathering left right start (i + 1) next
  gathering-step i now next d h u e =
      let o = Binary (get_or left i d).1 (get_or right i d).1 in
      let os : next.operands ≡ now.operands ++ o ∷ [] = ap (λ (g : Gathered). g.operands) e in
      let first : pairs_in (drop i left) (drop i right) ≡ o ∷ pairs_in (drop (i + 1) left) (drop (i + 1) right) =
      ap (λ cs. pairs_in cs (drop i right)) (drop_more left i d u)
      ∙ ap (pairs_in (get_or left i d ∷ drop (i + 1) left)) (drop_more right i d (omega (arith, u, l))) in
      record {
        same = e ∙ ap (λ (g : Gathered). record g { operands = now.operands ++ o ∷ [] }) h.same ∙ ap (λ ps. record start { operands = ps }) (sym os);
        index_calls = ap (λ ps. ps ++ pairs_in (drop (i + 1) left) (drop (i + 1) right)) os
            ∙ (append_assoc now.operands (o ∷ []) (pairs_in (drop (i + 1) left) (drop (i + 1) right))
            ∙ (ap (λ ps. now.operands ++ ps) (sym first) ∙ h.index_calls));
        many = let m = h.many in let n = ap (λ (ps : List Operands). length ps) os in omega (arith, m, n, length-append now.operands (o ∷ []));
      }

  pub gathering-end : (i : ℕ) (now : Gathered) → IsGathering left right start i now → length left ≤ i
      → now ≡ record start { operands = start.operands ++ pairs_in left right }
  gathering-end i now h u =
      let none : pairs_in (drop i left) (drop i right) ≡ [] = ap (λ cs. pairs_in cs (drop i right)) (drop_all i left u) in
      h.same ∙ ap (λ ps. record start { operands = ps })
      (sym (append-nil now.operands) ∙ (ap (λ ps. now.operands ++ ps) (sym none) ∙ h.index_calls))

-- ---- rows that follow one another

abbrev pub AreAsLong : Grid → Grid → ℕ → ℕ → Type 0
AreAsLong a b first n = (i : ℕ) → first ≤ i → i < first + n → length (row_of a i) ≡ length (row_of b i)

pub in_step : (a b : Grid) (first n : ℕ) → AreAsLong a b first n
    → columns_of (along (row_of a) first n) ≡ columns_of (along (row_of b) first n) → AreInStep a b first n
in_step a b first zero h e i l u = absurd (omega (arith, l, u))
in_step a b first (suc n) h e i l u =
    let parts = same_parts (row_of a first) (along (row_of a) (suc first) n) (row_of b first) (along (row_of b) (suc first) n)
    (h first (omega arith) (omega arith)) e in
    elim (cases_eq i first) [
      | inl q ↦ subst (λ k. columns_of (row_of a k) ≡ columns_of (row_of b k)) (sym q) parts.front
      | inr ne ↦ in_step a b (suc first) n (λ k m v. h k (omega (arith, m)) (omega (arith, v))) parts.back i (omega (arith, l, ne)) (omega (arith, u))
    ]

pub all_pairs : (a b : Grid) (first n : ℕ) → AreAsLong a b first n
    → pairs_in (along (row_of a) first n) (along (row_of b) first n) ≡ range_pairs a b first n
all_pairs a b first zero h = refl
all_pairs a b first (suc n) h =
    pairs_in-append (row_of a first) (along (row_of a) (suc first) n) (row_of b first) (along (row_of b) (suc first) n)
    (sym (h first (omega arith) (omega arith)))
    ∙ ap (λ os. pairs_in (row_of a first) (row_of b first) ++ os)
    (all_pairs a b (suc first) n (λ k m v. h k (omega (arith, m)) (omega (arith, v))))

-- ---- a row

pub joint_kind : (form : Form) → is_joint form ≡ true → kind_for form ≡ kinds.Binary
joint_kind (Apply thunk) j = absurd (cc)
joint_kind (Select thunk) j = absurd (cc)
joint_kind Union j = refl
joint_kind Both j = refl

module _ (f : Accepted) (i n : ℕ) where
  first-cell : (form : Form) → is_joint form ≡ true → (x y : Cell) (xs ys : List Cell)
      → cell_at x.0 (form_at form f (i, x.0) (Some x.1) (Some y.1)) ++ with_values xs (values_on f (pairs_in xs ys))
      ≡ with_values (x ∷ xs) (values_on f (pairs_in (x ∷ xs) (y ∷ ys)))
  first-cell (Apply thunk) j x y xs ys = absurd (cc)
  first-cell (Select thunk) j x y xs ys = absurd (cc)
  first-cell Union j x y xs ys = refl
  first-cell Both j x y xs ys = refl

  first-call : (form : Form) → is_joint form ≡ true → (x y : Cell) (xs ys : List Cell)
      → form_calls form f (i, x.0) (Some x.1) (Some y.1) ++ calls_on f (pairs_in xs ys) ≡ calls_on f (pairs_in (x ∷ xs) (y ∷ ys))
  first-call (Apply thunk) j x y xs ys = absurd (cc)
  first-call (Select thunk) j x y xs ys = absurd (cc)
  first-call Union j x y xs ys = refl
  first-call Both j x y xs ys = refl

  module _ (form : Form) (j : is_joint form ≡ true) where
    both-cells : (low : ℕ) (xs ys : List Cell) → Ascends low n xs → Ascends low n ys → columns_of xs ≡ columns_of ys
        → row_cells form f i n xs ys None ≡ with_values xs (values_on f (pairs_in xs ys))
    both-cells low [] [] h k e = along-none (λ c. cells_here form f i true c None None) 0 n (λ c. no_cell form f i true c)
    both-cells low [] (y ∷ ys) h k e = absurd (cc)
    both-cells low (x ∷ xs) [] h k e = absurd (cc)
    both-cells low (x ∷ xs) (y ∷ ys) h k e =
        let same : x.0 ≡ y.0 = cc in
        let rest : columns_of xs ≡ columns_of ys = cc in
        next_first (cells_here form f i) (no_cell form f i) n low (x ∷ xs) (y ∷ ys) None None x.0 (Some x.1) (Some y.1) xs ys
        (next_both n low x y xs ys h k same) (λ c l. refl)
        ∙ (ap (λ us. cell_at x.0 (form_at form f (i, x.0) (Some x.1) (Some y.1)) ++ us)
        (both-cells (suc x.0) xs ys h.2 (subst (λ c. Ascends (suc c) n ys) (sym same) k.2) rest) ∙ first-cell form j x y xs ys)

    both-calls : (low : ℕ) (xs ys : List Cell) → Ascends low n xs → Ascends low n ys → columns_of xs ≡ columns_of ys
        → row_calls form f i n xs ys None ≡ calls_on f (pairs_in xs ys)
    both-calls low [] [] h k e = along-none (λ c. calls_here form f i true c None None) 0 n (λ c. no_call form f i true c)
    both-calls low [] (y ∷ ys) h k e = absurd (cc)
    both-calls low (x ∷ xs) [] h k e = absurd (cc)
    both-calls low (x ∷ xs) (y ∷ ys) h k e =
        let same : x.0 ≡ y.0 = cc in
        let rest : columns_of xs ≡ columns_of ys = cc in
        next_first (calls_here form f i) (no_call form f i) n low (x ∷ xs) (y ∷ ys) None None x.0 (Some x.1) (Some y.1) xs ys
        (next_both n low x y xs ys h k same) (λ c l. refl)
        ∙ (ap (λ us. form_calls form f (i, x.0) (Some x.1) (Some y.1) ++ us)
        (both-calls (suc x.0) xs ys h.2 (subst (λ c. Ascends (suc c) n ys) (sym same) k.2) rest) ∙ first-call form j x y xs ys)

-- ---- a range of rows

pub pairs_mapped : (form : Form) (f : Accepted) (a b : Grid) (first n : ℕ) → is_joint form ≡ true → IsGrid a → IsGrid b → b.columns ≡ a.columns
    → AreInStep a b first n → AreMapped form f a (Some b) (λ i. pairs_in (row_of a i) (row_of b i)) first n
pairs_mapped form f a b first n j g k c h = record {
  many = λ i l u. length_pairs (row_of a i) (row_of b i) (same_length (row_of a i) (row_of b i) (h i l u));
  rows = λ i l u. both-cells f i a.columns form j 0 (row_of a i) (row_of b i) (row_of-ascends a i g) (ascends i) (h i l u);
  calls = λ i l u. both-calls f i a.columns form j 0 (row_of a i) (row_of b i) (row_of-ascends a i g) (ascends i) (h i l u);
}
  where
    ascends : (i : ℕ) → Ascends 0 a.columns (row_of b i)
    ascends i = subst (λ m. Ascends 0 m (row_of b i)) c (row_of-ascends b i k)

pub paired_mapped : (form : Form) (f : Accepted) (s : Sources) (first n : ℕ) (pairs : List Operands) (h : ArePaired s first n pairs)
    → is_joint form ≡ true
    → AreMapped form f s.left.now (Some h.other) (λ i. pairs_in (row_of s.left.now i) (row_of h.other i)) first n
paired_mapped form f s first n pairs h j = pairs_mapped form f s.left.now h.other first n j h.grids.0 h.grids.1 h.columns h.in_step

-- what was made without a mask
pub paired_made : (form : Form) (f : Accepted) (s : Sources) (first n : ℕ) (pairs : List Operands) (h : ArePaired s first n pairs) (made : Chunk)
    → IsFormMade form f s.left.now (Some h.other) None first n made
    → IsFormMade form f s.left.now (mask_of s.right) (mask_of s.mask) first n made
paired_made form f s first n pairs h made m =
    subst (λ (b : Option Grid). IsFormMade form f s.left.now b (mask_of s.mask) first n made) (sym h.right)
    (subst (λ (k : Option Grid). IsFormMade form f s.left.now (Some h.other) k first n made) (sym h.mask) m)
