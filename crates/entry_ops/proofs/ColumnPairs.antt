-- Columns that are joined row by row.
use Rattle.std.proofs.Common.{◌≡◌, ◌≤◌, ◌<◌, ◌+◌, ◌-◌, ℕ, suc, Bool, true, false, if◌then◌else◌, List, [], ◌∷◌, ◌++◌, map, length, take, drop, set, get_or, Option, None, Some, refl, sym, ap, ◌∙◌, subst, arith, append-nil, length-drop}
use mir.Val.{bool_byte}
use Rattle.std.specs.Prelude.{nat_eq, not, ◌&&◌, ◌||◌}
use Rattle.std.specs.FinMap.{get}
use Rattle.std.proofs.lemmas.Bool.{eqb-true, eq-eqb}
use Rattle.std.proofs.lemmas.List.{drop_more, take-set, take_more_set}
use Rattle.bpf_insn.specs.declared.operands.Operands.TheVariants.{Binary}
use Rattle.bpf_run.specs.Calls.{Call, steps_of}
use Rattle.bpf_run.specs.Meaning.{value_of, cost_of}
use Rattle.bpf_run.proofs.Charging.{steps-append}
use Rattle.bpf_verify.specs.Accepted.{Accepted}
use Rattle.csr_store.specs.Added.{with_values}
use Rattle.csr_store.specs.Along.{along, cell_at, row_by}
use Rattle.csr_store.specs.Ascending.{Ascends}
use Rattle.csr_store.specs.Grid.{Grid, IsGrid, Cell, row_of, row_start}
use Rattle.csr_store.specs.Mask.{mask_of}
use Rattle.csr_store.specs.Run.{Row, Run}
use Rattle.csr_store.specs.Valued.{entries_of as entries_in_run, rows_of, all_cells, valued_from, AreAlike}
use Rattle.csr_store.proofs.Along.{along-next, along-snoc, along-split, at, at-first, row_of-ascends, row_by-row_of}
use Rattle.csr_store.proofs.ByRow.{lookup-row_of, row_start-next}
use Rattle.csr_store.proofs.InColumn.{start_full}
use Rattle.csr_store.proofs.Starting.{length-along}
use Rattle.job_forms.specs.declared.region.Chunk.{Chunk}
use Rattle.entry_ops.specs.declared.column_pairs.ColumnPair.{ColumnPair}
use Rattle.entry_ops.specs.declared.form.EntryForm.{EntryForm}
use Rattle.entry_ops.specs.declared.operand_rows.Sources.{Sources}
use Rattle.entry_ops.specs.inner.ColumnPairs.{word_in, word_if, joined_words, shape_of, HasShapeOf, IsPair, IsPairOf}
use Rattle.entry_ops.specs.inner.Forms.{Form, Apply, Select, Union, Both, form_of}
use Rattle.entry_ops.specs.inner.Walking.{is_joint, form_at, form_calls, row_cells, row_calls, form_row, form_row_calls, form_rows, form_all_calls, IsFormMade}
use Rattle.entry_ops.proofs.Whole.{AreValued, valued-rows, copied-entries}

-- ---- the next word of a column

pub record IsNextWord (g : Grid) (cells : List Cell) (read row end word : ℕ) (stands : Bool) : Type 0 where
  pub word_is : word_in g row ≡ word_if (word, stands)
  pub more : read + bool_byte stands ≤ length cells
  pub rest : drop (read + bool_byte stands) cells ≡ along (row_of g) (row + 1) (end - (row + 1))

module _ (g : Grid) (is : IsGrid g) (one : g.columns ≡ 1) (cells : List Cell) (read row end word : ℕ) (l : row < end)
    (within : read ≤ length cells) (here : drop read cells ≡ along (row_of g) row (end - row)) (d : Cell)
    (word_is : read < length cells → word ≡ (get_or cells read d).1) where
  abbrev behind : List Cell
  behind = along (row_of g) (row + 1) (end - (row + 1))

  parts : (r : List Cell) → row_of g row ≡ r → drop read cells ≡ r ++ behind
  parts r e = here ∙ along-next (row_of g) row end l ∙ ap (λ cs. cs ++ behind) e

  at_row : (r : List Cell) → row_of g row ≡ r → word_in g row ≡ at r 0
  at_row r e = sym (lookup-row_of g row 0) ∙ ap (λ cs. at cs 0) e

  by_row : (r : List Cell) → row_of g row ≡ r → Ascends 0 1 r → (stands : Bool)
      → stands ≡ not (nat_eq (row_start g (row + 1)) (row_start g row)) → IsNextWord g cells read row end word stands
  by_row [] e h true s =
      let n = row_start-next g row in
      let m = ap (λ (cs : List Cell). length cs) e in
      let same = eq-eqb (row_start g (row + 1)) (row_start g row) (omega (arith, n, m)) in
      absurd (let z : true ≡ false = s ∙ ap not same in cc)
  by_row [] e h false s = record {
    word_is = at_row [] e;
    more = omega (arith, within);
    rest = let z : read + 0 ≡ read = omega arith in ap (λ k. drop k cells) z ∙ parts [] e;
  }
  by_row (c ∷ []) e h false s =
      let n = row_start-next g row in
      let m = ap (λ (cs : List Cell). length cs) e in
      absurd (stands_not (nat_eq (row_start g (row + 1)) (row_start g row)) s (λ q.
      let u = eqb-true _ _ q in omega (arith, n, m, u)))
    where
      stands_not : (b : Bool) → false ≡ not b → (b ≡ true → ⊥) → ⊥
      stands_not true s k = k refl
      stands_not false s k = cc
  by_row (c ∷ []) e h true s =
      let p = parts (c ∷ []) e in
      let n = ap (λ (cs : List Cell). length cs) p in
      let m = length-drop read cells in
      let u : read < length cells = omega (arith, n, m) in
      let q : get_or cells read d ∷ drop (read + 1) cells ≡ c ∷ behind = sym (drop_more cells read d u) ∙ p in
      let w : get_or cells read d ≡ c = cc in
      let first : c.0 ≡ 0 = (let b = h.1 in omega (arith, b)) in
      record {
        word_is = at_row (c ∷ []) e
            ∙ (ap (λ j. at (c ∷ []) j) (sym first) ∙ (at-first c [] ∙ ap (λ v. Some v) (sym (word_is u ∙ ap (λ (x : Cell). x.1) w))));
        more = omega (arith, u);
        rest = cc;
      }
  by_row (c ∷ b ∷ r) e h stands s = absurd (let x = h.2.0 in let y = h.2.1 in omega (arith, x, y))

  pub next_word : (stands : Bool) → stands ≡ not (nat_eq (row_start g (row + 1)) (row_start g row))
      → IsNextWord g cells read row end word stands
  next_word stands s = by_row (row_of g row) refl (subst (λ n. Ascends 0 n (row_of g row)) one (row_of-ascends g row is)) stands s

-- ---- a row that is joined

module _ (f : Accepted) (at_position : ℕ × ℕ) (x y v c : ℕ) (value_is : v ≡ value_of f (Binary x y)) (cost_is : c ≡ cost_of f (Binary x y)) where
  abbrev words_at : Form → Bool → Bool → List ℕ
  words_at form p q = map (λ (k : Cell). k.1) (cell_at 0 (form_at form f at_position (word_if (x, p)) (word_if (y, q))))

  pub union_word : (p q : Bool) → (if p || q then (if p && q then v else (if p then x else y)) ∷ [] else []) ≡ words_at Union p q
  union_word true true = ap (λ w. w ∷ []) value_is
  union_word true false = refl
  union_word false true = refl
  union_word false false = refl

  pub both_word : (p q : Bool) → (if p && q then (if p && q then v else (if p then x else y)) ∷ [] else []) ≡ words_at Both p q
  both_word true true = ap (λ w. w ∷ []) value_is
  both_word true false = refl
  both_word false true = refl
  both_word false false = refl

  pub joined_steps : (form : Form) → is_joint form ≡ true → (p q : Bool) → (if p && q then c else 0)
      ≡ steps_of (form_calls form f at_position (word_if (x, p)) (word_if (y, q)))
  joined_steps (Apply t) j p q = absurd (cc)
  joined_steps (Select t) j p q = absurd (cc)
  joined_steps Union j true true = omega (arith, cost_is)
  joined_steps Union j true false = refl
  joined_steps Union j false q = refl
  joined_steps Both j true true = omega (arith, cost_is)
  joined_steps Both j true false = refl
  joined_steps Both j false q = refl

-- ---- a row of a form of two columns

module _ (form : Form) (f : Accepted) (a b : Grid) (one : a.columns ≡ 1) where
  pub form_row-column : (i : ℕ) → form_row form f a (Some b) None i ≡ cell_at 0 (form_at form f (i, 0) (word_in a i) (word_in b i))
  form_row-column i =
      ap (λ n. row_cells form f i n (row_of a i) (row_of b i) None) one
      ∙ (append-nil (cell_at 0 (form_at form f (i, 0) (at (row_of a i) 0) (at (row_of b i) 0)))
      ∙ (ap (λ p. cell_at 0 (form_at form f (i, 0) p (at (row_of b i) 0))) (lookup-row_of a i 0)
      ∙ ap (λ q. cell_at 0 (form_at form f (i, 0) (word_in a i) q)) (lookup-row_of b i 0)))

  pub form_calls-column : (i : ℕ) → form_row_calls form f a (Some b) None i ≡ form_calls form f (i, 0) (word_in a i) (word_in b i)
  form_calls-column i =
      ap (λ n. row_calls form f i n (row_of a i) (row_of b i) None) one
      ∙ (append-nil (form_calls form f (i, 0) (at (row_of a i) 0) (at (row_of b i) 0))
      ∙ (ap (λ p. form_calls form f (i, 0) p (at (row_of b i) 0)) (lookup-row_of a i 0)
      ∙ ap (λ q. form_calls form f (i, 0) (word_in a i) q) (lookup-row_of b i 0)))

-- ---- rows that are joined one after the other

-- so many rows are joined
pub record IsJoining (form : Form) (f : Accepted) (a b : Grid) (first n : ℕ) (words : List ℕ) (many steps : ℕ) : Type 0 where
  pub words_are : take many words ≡ along (joined_words form f a b) first n
  pub few : many ≤ n
  pub sum : steps ≡ steps_of (form_all_calls form f a (Some b) None first n)

module _ (form : Form) (f : Accepted) (a b : Grid) (first : ℕ) where
  pub joining-start : (words : List ℕ) → IsJoining form f a b first 0 words 0 0
  joining-start words = record { words_are = refl; few = omega arith; sum = refl }

  abbrev row_calls-at : ℕ → List Call
  row_calls-at i = form_row_calls form f a (Some b) None i

  -- the steps of one row more
  pub steps-more : (n : ℕ) → steps_of (along row_calls-at first (n + 1)) ≡ steps_of (along row_calls-at first n) + steps_of (row_calls-at (first + n))
  steps-more n = ap steps_of (along-snoc row_calls-at first n) ∙ steps-append (along row_calls-at first n) (row_calls-at (first + n))

  -- they are no more than those of all rows
  pub steps-fit : (n rows : ℕ) → n < rows → steps_of (along row_calls-at first n) + steps_of (row_calls-at (first + n)) ≤ steps_of (along row_calls-at first rows)
  steps-fit n rows l =
      let more = steps-more n in
      let z : rows ≡ (n + 1) + (rows - (n + 1)) = omega (arith, l) in
      let e = ap (λ k. steps_of (along row_calls-at first k)) z
      ∙ (ap steps_of (along-split row_calls-at first (n + 1) (rows - (n + 1)))
      ∙ steps-append (along row_calls-at first (n + 1)) (along row_calls-at (first + (n + 1)) (rows - (n + 1)))) in
      omega (arith, more, e)

  pub joining-more : (n : ℕ) (words : List ℕ) (many steps word more : ℕ) (stands : Bool) → IsJoining form f a b first n words many steps
      → many < length words → (if stands then word ∷ [] else []) ≡ joined_words form f a b (first + n)
      → more ≡ steps_of (row_calls-at (first + n))
      → IsJoining form f a b first (n + 1) (set words many word) (many + bool_byte stands) (steps + more)
  joining-more n words many steps word more true m l w s = record {
    words_are = take_more_set words many word l
        ∙ (ap (λ ws. ws ++ word ∷ []) m.words_are
        ∙ (ap (λ ws. along (joined_words form f a b) first n ++ ws) w ∙ sym (along-snoc (joined_words form f a b) first n)));
    few = let k = m.few in omega (arith, k);
    sum = let k = m.sum in let e = steps-more n in omega (arith, k, s, e);
  }
  joining-more n words many steps word more false m l w s = record {
    words_are = (let z : many + 0 ≡ many = omega arith in ap (λ k. take k (set words many word)) z)
        ∙ (take-set words many word
        ∙ (m.words_are ∙ (sym (append-nil (along (joined_words form f a b) first n))
        ∙ (ap (λ ws. along (joined_words form f a b) first n ++ ws) w ∙ sym (along-snoc (joined_words form f a b) first n)))));
    few = let k = m.few in omega (arith, k);
    sum = let k = m.sum in let e = steps-more n in omega (arith, k, s, e);
  }

pub byte_few : (b : Bool) → bool_byte b ≤ 1
byte_few true = omega arith
byte_few false = omega arith

-- what is known of a row is what the form has there
module _ (form : Form) (f : Accepted) (a b : Grid) (one : a.columns ≡ 1) (i : ℕ) (p q : Option ℕ) (left : word_in a i ≡ p) (right : word_in b i ≡ q) where
  pub row_is-joined : (ws : List ℕ) → ws ≡ map (λ (k : Cell). k.1) (cell_at 0 (form_at form f (i, 0) p q)) → ws ≡ joined_words form f a b i
  row_is-joined ws e =
      e ∙ sym (ap (λ (r : Row). map (λ (k : Cell). k.1) r) (form_row-column form f a b one i
      ∙ (ap (λ o. cell_at 0 (form_at form f (i, 0) o (word_in b i))) left ∙ ap (λ o. cell_at 0 (form_at form f (i, 0) p o)) right)))

  pub row_is-charged : (s : ℕ) → s ≡ steps_of (form_calls form f (i, 0) p q) → s ≡ steps_of (form_row_calls form f a (Some b) None i)
  row_is-charged s e =
      e ∙ sym (ap steps_of (form_calls-column form f a b one i
      ∙ (ap (λ o. form_calls form f (i, 0) o (word_in b i)) left ∙ ap (λ o. form_calls form f (i, 0) p o) right)))

-- ---- a column that has a word in each row

module _ (g : Grid) (is : IsGrid g) (one : g.columns ≡ 1) where
  -- a row by its word
  pub row_by-word : (i : ℕ) → row_of g i ≡ cell_at 0 (word_in g i)
  row_by-word i =
      sym (row_by-row_of g i is) ∙ (ap (λ n. row_by n (λ j. get g.cells (i, j))) one ∙ append-nil (cell_at 0 (word_in g i)))

  pub one_each : (first n : ℕ) → length (along (row_of g) first n) ≡ n → (i : ℕ) → first ≤ i → i < first + n → length (row_of g i) ≡ 1
  one_each first n e i l u =
      let s = length-along g first n in
      let full : row_start g first + n ≤ row_start g (first + n) = omega (arith, s, e) in
      let here = start_full g is one first n (first + n) i l (omega (arith, u)) (omega arith) full in
      let next = start_full g is one first n (first + n) (i + 1) (omega (arith, l)) (omega (arith, u)) (omega arith) full in
      let m = row_start-next g i in
      omega (arith, here, next, m, l)

left-shape : (f : Accepted) (at_position : ℕ × ℕ) (form : Form) → is_joint form ≡ true → (x y : Option ℕ) (row : Row) → length (cell_at 0 x) ≡ 1
    → (form ≡ Union → row ≡ cell_at 0 x) → (form ≡ Both → row ≡ cell_at 0 y)
    → length (cell_at 0 (form_at form f at_position x y)) ≡ length row
left-shape f p (Apply t) j x y row e u b = absurd (cc)
left-shape f p (Select t) j x y row e u b = absurd (cc)
left-shape f p Union j None y row e u b = absurd (omega (arith, e))
left-shape f p Union j (Some x) None row e u b = ap (λ (r : Row). length r) (sym (u refl))
left-shape f p Union j (Some x) (Some y) row e u b = ap (λ (r : Row). length r) (sym (u refl))
left-shape f p Both j None y row e u b = absurd (omega (arith, e))
left-shape f p Both j (Some x) None row e u b = ap (λ (r : Row). length r) (sym (b refl))
left-shape f p Both j (Some x) (Some y) row e u b = ap (λ (r : Row). length r) (sym (b refl))

right-shape : (f : Accepted) (at_position : ℕ × ℕ) (form : Form) → is_joint form ≡ true → (x y : Option ℕ) (row : Row) → length (cell_at 0 y) ≡ 1
    → (form ≡ Union → row ≡ cell_at 0 y) → (form ≡ Both → row ≡ cell_at 0 x)
    → length (cell_at 0 (form_at form f at_position x y)) ≡ length row
right-shape f p (Apply t) j x y row e u b = absurd (cc)
right-shape f p (Select t) j x y row e u b = absurd (cc)
right-shape f p Union j x None row e u b = absurd (omega (arith, e))
right-shape f p Union j None (Some y) row e u b = ap (λ (r : Row). length r) (sym (u refl))
right-shape f p Union j (Some x) (Some y) row e u b = ap (λ (r : Row). length r) (sym (u refl))
right-shape f p Both j x None row e u b = absurd (omega (arith, e))
right-shape f p Both j None (Some y) row e u b = ap (λ (r : Row). length r) (sym (b refl))
right-shape f p Both j (Some x) (Some y) row e u b = ap (λ (r : Row). length r) (sym (b refl))

module _ (form : Form) (joint : is_joint form ≡ true) (a b : Grid) (is_a : IsGrid a) (is_b : IsGrid b) (one_a : a.columns ≡ 1) (one_b : b.columns ≡ 1)
    (first n : ℕ) (rows_a : first + n ≤ a.rows) (rows_b : first + n ≤ b.rows) where
  shape-within : (form : Form) (full other : Grid) → first + n ≤ full.rows → first + n ≤ other.rows → first + n ≤ (shape_of form full other).rows
  shape-within (Apply t) full other g h = h
  shape-within (Select t) full other g h = h
  shape-within Union full other g h = g
  shape-within Both full other g h = h

  shape-grid : (form : Form) (full other : Grid) → IsGrid full → IsGrid other → IsGrid (shape_of form full other)
  shape-grid (Apply t) full other g h = h
  shape-grid (Select t) full other g h = h
  shape-grid Union full other g h = g
  shape-grid Both full other g h = h

  shape-one : (form : Form) (full other : Grid) → full.columns ≡ 1 → other.columns ≡ 1 → (shape_of form full other).columns ≡ 1
  shape-one (Apply t) full other g h = h
  shape-one (Select t) full other g h = h
  shape-one Union full other g h = g
  shape-one Both full other g h = h

  pub left_full : length (along (row_of a) first n) ≡ n → (f : Accepted) → HasShapeOf form f a b (shape_of form a b) first n
  left_full e f = record {
    is = shape-grid form a b is_a is_b;
    one = shape-one form a b one_a one_b;
    within = shape-within form a b rows_a rows_b;
    many = λ i l u.
        ap (λ (r : Row). length r) (form_row-column form f a b one_a i)
        ∙ left-shape f (i, 0) form joint (word_in a i) (word_in b i) (row_of (shape_of form a b) i)
        (ap (λ (r : Row). length r) (sym (row_by-word a is_a one_a i)) ∙ one_each a is_a one_a first n e i l u)
        (λ q. ap (λ k. row_of (shape_of k a b) i) q ∙ row_by-word a is_a one_a i)
        (λ q. ap (λ k. row_of (shape_of k a b) i) q ∙ row_by-word b is_b one_b i);
  }

  pub right_full : length (along (row_of b) first n) ≡ n → (f : Accepted) → HasShapeOf form f a b (shape_of form b a) first n
  right_full e f = record {
    is = shape-grid form b a is_b is_a;
    one = shape-one form b a one_b one_a;
    within = shape-within form b a rows_b rows_a;
    many = λ i l u.
        ap (λ (r : Row). length r) (form_row-column form f a b one_a i)
        ∙ right-shape f (i, 0) form joint (word_in a i) (word_in b i) (row_of (shape_of form b a) i)
        (ap (λ (r : Row). length r) (sym (row_by-word b is_b one_b i)) ∙ one_each b is_b one_b first n e i l u)
        (λ q. ap (λ k. row_of (shape_of k b a) i) q ∙ row_by-word b is_b one_b i)
        (λ q. ap (λ k. row_of (shape_of k b a) i) q ∙ row_by-word a is_a one_a i);
  }

-- ---- rows of that shape that have the words which are joined

valued-cell : (o p : Option ℕ) → length (cell_at 0 o) ≡ length (cell_at 0 p)
    → cell_at 0 o ≡ with_values (cell_at 0 p) (map (λ (k : Cell). k.1) (cell_at 0 o))
valued-cell None None e = refl
valued-cell None (Some y) e = absurd (omega (arith, e))
valued-cell (Some x) None e = absurd (omega (arith, e))
valued-cell (Some x) (Some y) e = refl

length_words-in : (r : Row) → length (map (λ (k : Cell). k.1) r) ≡ length r
length_words-in [] = refl
length_words-in (c ∷ r) = ap suc (length_words-in r)

pub joined_valued : (form : Form) (f : Accepted) (a b shape : Grid) (first n : ℕ) → a.columns ≡ 1 → HasShapeOf form f a b shape first n
    → AreValued (row_of shape) (form_row form f a (Some b) None) (joined_words form f a b) first n
joined_valued form f a b shape first n one h = record {
  many = λ i l u. length_words-in (form_row form f a (Some b) None i) ∙ h.many i l u;
  rows = λ i l u.
      let e = form_row-column form f a b one i in
      let r = row_by-word shape h.is h.one i in
      let v = valued-cell (form_at form f (i, 0) (word_in a i) (word_in b i)) (word_in shape i)
      (ap (λ (q : Row). length q) (sym e) ∙ (h.many i l u ∙ ap (λ (q : Row). length q) r)) in
      e ∙ (v ∙ (ap (λ (q : Row). with_values q (map (λ (k : Cell). k.1) (cell_at 0 (form_at form f (i, 0) (word_in a i) (word_in b i))))) (sym r)
      ∙ ap (λ (q : Row). with_values (row_of shape i) (map (λ (k : Cell). k.1) q)) (sym e)));
}

module _ (f : Accepted) (pair : ColumnPair) (is : IsPair pair) (shape : Grid)
    (h : HasShapeOf (form_of pair.form) f pair.left.now pair.right.now shape pair.first pair.rows) (run : Run) (copied : run ≡ rows_of shape pair.first pair.rows)
    (words : List ℕ) (words_are : words ≡ along (joined_words (form_of pair.form) f pair.left.now pair.right.now) pair.first pair.rows) where
  abbrev vs : ℕ → List ℕ
  vs i = joined_words (form_of pair.form) f pair.left.now pair.right.now i

  valued : AreValued (row_of shape) (form_row (form_of pair.form) f pair.left.now (Some pair.right.now) None) vs pair.first pair.rows
  valued = joined_valued (form_of pair.form) f pair.left.now pair.right.now shape pair.first pair.rows is.left h

  pub joined_many : length words ≡ entries_in_run run
  joined_many =
      ap (λ (ws : List ℕ). length ws) words_are
      ∙ (copied-entries shape vs pair.first pair.rows valued.many ∙ ap (λ (r : Run). entries_in_run r) (sym copied))

  pub joined_rows : (r : Run) → AreAlike run r → all_cells r ≡ valued_from 0 words (all_cells run)
      → r ≡ record {
        first = pair.first;
        columns = pair.left.now.columns;
        ended = form_rows (form_of pair.form) f pair.left.now (Some pair.right.now) None pair.first pair.rows;
        opened = [];
      }
  joined_rows r alike cells =
      valued-rows (row_of shape) (form_row (form_of pair.form) f pair.left.now (Some pair.right.now) None) vs shape.columns pair.first pair.rows valued r
      (subst (λ (q : Run). AreAlike q r) copied alike)
      (cells ∙ (ap (λ ws. valued_from 0 ws (all_cells run)) words_are
      ∙ ap (λ (q : Run). valued_from 0 (along vs pair.first pair.rows) (all_cells q)) copied))
      ∙ ap (λ n. record {
        first = pair.first;
        columns = n;
        ended = form_rows (form_of pair.form) f pair.left.now (Some pair.right.now) None pair.first pair.rows;
        opened = [];
      }) (h.one ∙ sym is.left)

-- ---- what was made

pub pair_made : (form : EntryForm) (f : Accepted) (s : Sources) (first n : ℕ) (pair : ColumnPair) (h : IsPairOf form s first n pair) (made : Chunk)
    → IsFormMade (form_of pair.form) f pair.left.now (Some pair.right.now) None pair.first pair.rows made
    → IsFormMade (form_of form) f s.left.now (mask_of s.right) (mask_of s.mask) first n made
pair_made form f s first n pair h made m =
    subst (λ (k : Option Grid). IsFormMade (form_of form) f s.left.now (mask_of s.right) k first n made) (sym h.mask_is)
    (subst (λ (k : Option Grid). IsFormMade (form_of form) f s.left.now k None first n made) (sym h.right_is)
    (subst (λ k. IsFormMade (form_of form) f s.left.now (Some pair.right.now) None first k made) h.rows_are
    (subst (λ k. IsFormMade (form_of form) f s.left.now (Some pair.right.now) None k pair.rows made) h.first_is
    (subst (λ (g : Grid). IsFormMade (form_of form) f g (Some pair.right.now) None pair.first pair.rows made) h.left_is
    (subst (λ (e : EntryForm). IsFormMade (form_of e) f pair.left.now (Some pair.right.now) None pair.first pair.rows made) h.form_is m)))))
