-- Copied rows with the values of calls are the rows of a form.
use Rattle.std.proofs.Common.{◌≡◌, ◌≤◌, ◌<◌, ◌+◌, ◌^◌, ℕ, zero, suc, true, List, [], ◌∷◌, ◌++◌, length, map, Option, None, Some, refl, sym, ap, ◌∙◌, subst, arith, length-append, append_assoc, append-nil}
use Rattle.bpf_verify.specs.Accepted.{Accepted, IsAccepted}
use Rattle.csr_store.specs.Grid.{Grid, IsGrid, Cell, row_of}
use Rattle.csr_store.specs.Along.{along, cell_at}
use Rattle.csr_store.specs.Ascending.{Ascends}
use Rattle.csr_store.specs.Run.{Row, Run}
use Rattle.csr_store.specs.Added.{with_values}
use Rattle.csr_store.specs.Valued.{entries_of as entries_in_run, rows_of, cells_in, all_cells, valued, valued_from, AreAlike}
use Rattle.csr_store.proofs.Along.{row_of-ascends, along-none}
use Rattle.csr_store.proofs.Valuing.{alike_then, alike_equal, alike_entries, entries_are}
use Rattle.bpf_run.specs.Calls.{calls_on, values_on, steps_of, words_of}
use Rattle.bpf_run.proofs.Charging.{values_on-append, calls_on-append}
use Rattle.bpf_insn.specs.declared.operands.Operands.{Operands}
use Rattle.entry_ops.specs.inner.Forms.{Form, Apply}
use Rattle.entry_ops.specs.declared.mapping.Mapping.{Mapping}
use Rattle.job_forms.specs.Forms.{apply_kind}
use Rattle.entry_ops.specs.inner.Mapped.{row_operands, range_operands, IsFurther}
use Rattle.entry_ops.specs.inner.Walking.{
  kind_for,
  form_at,
  form_calls,
  row_cells,
  row_calls,
  form_row,
  form_row_calls,
  form_rows,
  form_all_calls,
}
use Rattle.entry_ops.proofs.Bounds.{few_in_all}
use Rattle.entry_ops.proofs.Nexts.{next_left, next_first}
use Rattle.entry_ops.proofs.Merging.{cells_here, calls_here, no_cell, no_call}
use Rattle.entry_ops.proofs.Mapped.{length_values, length_words, length_entries, words_of-append}

-- ---- values given to all entries

-- an entry behind others
valued-behind : (pre : Row) (c : Cell) (cs : Row) (v : ℕ) → valued (length pre) v (pre ++ c ∷ cs) ≡ pre ++ (c.0, v) ∷ cs
valued-behind [] c cs v = refl
valued-behind (p ∷ pre) c cs v = ap (λ (r : Row). p ∷ r) (valued-behind pre c cs v)

given-behind : (pre : Row) (vs : List ℕ) (cs : Row) (k : ℕ) → k ≡ length pre → length vs ≡ length cs → valued_from k vs (pre ++ cs) ≡ pre ++ with_values cs vs
given-behind pre [] [] k e n = refl
given-behind pre [] (c ∷ cs) k e n = absurd (omega arith)
given-behind pre (v ∷ vs) [] k e n = absurd (omega arith)
given-behind pre (v ∷ vs) (c ∷ cs) k e n =
    ap (λ q. valued_from (suc k) vs (valued q v (pre ++ c ∷ cs))) e
    ∙ (ap (valued_from (suc k) vs) (valued-behind pre c cs v ∙ sym (append_assoc pre ((c.0, v) ∷ []) cs))
    ∙ (given-behind (pre ++ (c.0, v) ∷ []) vs cs (suc k) (omega (arith, e, length-append pre ((c.0, v) ∷ []))) (omega arith)
    ∙ append_assoc pre ((c.0, v) ∷ []) (with_values cs vs)))

given-all : (vs : List ℕ) (cs : Row) → length vs ≡ length cs → valued_from 0 vs cs ≡ with_values cs vs
given-all vs cs n = given-behind [] vs cs 0 refl n

with_values-append : (xs ys : Row) (vs ws : List ℕ) → length vs ≡ length xs → with_values (xs ++ ys) (vs ++ ws) ≡ with_values xs vs ++ with_values ys ws
with_values-append [] ys [] ws n = refl
with_values-append [] ys (v ∷ vs) ws n = absurd (omega arith)
with_values-append (x ∷ xs) ys [] ws n = absurd (omega arith)
with_values-append (x ∷ xs) ys (v ∷ vs) ws n = ap (λ (r : Row). (x.0, v) ∷ r) (with_values-append xs ys vs ws (omega arith))

length-with_values : (xs : Row) (vs : List ℕ) → length vs ≡ length xs → length (with_values xs vs) ≡ length xs
length-with_values [] vs n = refl
length-with_values (x ∷ xs) [] n = absurd (omega arith)
length-with_values (x ∷ xs) (v ∷ vs) n = ap suc (length-with_values xs vs (omega arith))

-- ---- a row

length-operands : (thunk : Option ℕ) (i : ℕ) (cs : List Cell) → length (row_operands thunk i cs) ≡ length cs
length-operands None i cs = length_words cs
length-operands (Some thunk) i cs = length_entries i thunk cs

-- apply makes of a row the values of calls on its words

module _ (f : Accepted) (thunk : Option ℕ) (i n : ℕ) where
  first-cell : (t : Option ℕ) (x : Cell) (xs : List Cell) → cell_at x.0 (form_at (Apply t) f (i, x.0) (Some x.1) None) ++ with_values xs (values_on f (row_operands t i xs))
      ≡ with_values (x ∷ xs) (values_on f (row_operands t i (x ∷ xs)))
  first-cell None x xs = refl
  first-cell (Some t) x xs = refl

  first-call : (t : Option ℕ) (x : Cell) (xs : List Cell) → form_calls (Apply t) f (i, x.0) (Some x.1) None ++ calls_on f (row_operands t i xs)
      ≡ calls_on f (row_operands t i (x ∷ xs))
  first-call None x xs = refl
  first-call (Some t) x xs = refl

  alone-cells : (low : ℕ) (xs : List Cell) → Ascends low n xs → row_cells (Apply thunk) f i n xs [] None ≡ with_values xs (values_on f (row_operands thunk i xs))
  alone-cells low [] h = along-none (λ j. cells_here (Apply thunk) f i true j None None) 0 n (λ j. no_cell (Apply thunk) f i true j)
  alone-cells low (x ∷ xs) h =
      next_first (cells_here (Apply thunk) f i) (no_cell (Apply thunk) f i) n low (x ∷ xs) [] None None x.0 (Some x.1) None xs [] (next_left n low x xs [] h tt) (λ j l. refl)
      ∙ (ap (λ us. cell_at x.0 (form_at (Apply thunk) f (i, x.0) (Some x.1) None) ++ us) (alone-cells (suc x.0) xs h.2) ∙ first-cell thunk x xs)

  no_calls : (t : Option ℕ) → [] ≡ calls_on f (row_operands t i [])
  no_calls None = refl
  no_calls (Some t) = refl

  alone-calls : (low : ℕ) (xs : List Cell) → Ascends low n xs → row_calls (Apply thunk) f i n xs [] None ≡ calls_on f (row_operands thunk i xs)
  alone-calls low [] h = along-none (λ j. calls_here (Apply thunk) f i true j None None) 0 n (λ j. no_call (Apply thunk) f i true j) ∙ no_calls thunk
  alone-calls low (x ∷ xs) h =
      next_first (calls_here (Apply thunk) f i) (no_call (Apply thunk) f i) n low (x ∷ xs) [] None None x.0 (Some x.1) None xs [] (next_left n low x xs [] h tt) (λ j l. refl)
      ∙ (ap (λ us. form_calls (Apply thunk) f (i, x.0) (Some x.1) None ++ us) (alone-calls (suc x.0) xs h.2) ∙ first-call thunk x xs)

-- ---- a range of rows of a form, each of which is that of the first operand with the values of calls

abbrev cells : Grid → ℕ → ℕ → Row
cells a first n = cells_in (along (λ i. row_of a i ∷ []) first n)

-- for row i these operands are called, one for each of its cells
pub record AreMapped (form : Form) (f : Accepted) (a : Grid) (b : Option Grid) (os : ℕ → List Operands) (first n : ℕ) : Type 0 where
  pub many : (i : ℕ) → first ≤ i → i < first + n → length (os i) ≡ length (row_of a i)
  pub rows : (i : ℕ) → first ≤ i → i < first + n → form_row form f a b None i ≡ with_values (row_of a i) (values_on f (os i))
  pub calls : (i : ℕ) → first ≤ i → i < first + n → form_row_calls form f a b None i ≡ calls_on f (os i)

module _ {T : Type 0} (base : ℕ → Row) (os : ℕ → List T) where
  range-count : (first n : ℕ) → ((i : ℕ) → first ≤ i → i < first + n → length (os i) ≡ length (base i))
      → length (along os first n) ≡ length (cells_in (along (λ i. base i ∷ []) first n))
  range-count first zero h = refl
  range-count first (suc n) h =
      let l = h first (omega arith) (omega arith) in
      let r = range-count (suc first) n (λ i m u. h i (omega (arith, m)) (omega (arith, u))) in
      omega (
        arith,
        l,
        r,
        length-append (os first) (along os (suc first) n),
        length-append (base first) (cells_in (along (λ i. base i ∷ []) (suc first) n)),
      )

module _ {T : Type 0} (a : Grid) (os : ℕ → List T) where
  pub copied-entries : (first n : ℕ) → ((i : ℕ) → first ≤ i → i < first + n → length (os i) ≡ length (row_of a i))
      → length (along os first n) ≡ entries_in_run (rows_of a first n)
  copied-entries first n h =
      range-count (row_of a) os first n h
      ∙ (ap (λ (cs : Row). length cs) (sym (append-nil (cells a first n))) ∙ sym (entries_are (rows_of a first n)))

-- ---- copied rows that get values are other rows

-- each of these rows is another one, with a value for each of its cells
pub record AreValued (base row : ℕ → Row) (vs : ℕ → List ℕ) (first n : ℕ) : Type 0 where
  pub many : (i : ℕ) → first ≤ i → i < first + n → length (vs i) ≡ length (base i)
  pub rows : (i : ℕ) → first ≤ i → i < first + n → row i ≡ with_values (base i) (vs i)

module _ (base row : ℕ → Row) (vs : ℕ → List ℕ) where
  valued_behind : (first n : ℕ) → AreValued base row vs first (suc n) → AreValued base row vs (suc first) n
  valued_behind first n h = record {
    many = λ i l u. h.many i (omega (arith, l)) (omega (arith, u));
    rows = λ i l u. h.rows i (omega (arith, l)) (omega (arith, u));
  }

  range-lengths : (first n : ℕ) → AreValued base row vs first n
      → map (λ (r : Row). length r) (along (λ i. base i ∷ []) first n) ≡ map (λ (r : Row). length r) (along (λ i. row i ∷ []) first n)
  range-lengths first zero h = refl
  range-lengths first (suc n) h =
      ap (λ m. m ∷ map (λ (r : Row). length r) (along (λ i. base i ∷ []) (suc first) n))
      (sym (ap (λ (r : Row). length r) (h.rows first (omega arith) (omega arith))
      ∙ length-with_values (base first) _ (h.many first (omega arith) (omega arith))))
      ∙ ap (λ ms. length (row first) ∷ ms) (range-lengths (suc first) n (valued_behind first n h))

  range-cells : (first n : ℕ) → AreValued base row vs first n
      → cells_in (along (λ i. row i ∷ []) first n) ≡ with_values (cells_in (along (λ i. base i ∷ []) first n)) (along vs first n)
  range-cells first zero h = refl
  range-cells first (suc n) h =
      ap (λ (r : Row). r ++ cells_in (along (λ i. row i ∷ []) (suc first) n)) (h.rows first (omega arith) (omega arith))
      ∙ (ap (λ (r : Row). with_values (base first) (vs first) ++ r) (range-cells (suc first) n (valued_behind first n h))
      ∙ sym (with_values-append (base first) (cells_in (along (λ i. base i ∷ []) (suc first) n)) (vs first) (along vs (suc first) n)
      (h.many first (omega arith) (omega arith))))

  -- the copied rows, when all their entries have got their values
  pub valued-rows : (columns first n : ℕ) → AreValued base row vs first n → (r : Run)
      → AreAlike (record { first = first; columns = columns; ended = along (λ i. base i ∷ []) first n; opened = [] }) r
      → all_cells r ≡ valued_from 0 (along vs first n) (cells_in (along (λ i. base i ∷ []) first n) ++ [])
      → r ≡ record { first = first; columns = columns; ended = along (λ i. row i ∷ []) first n; opened = [] }
  valued-rows columns first n m r h c =
      let base_run : Run = record { first = first; columns = columns; ended = along (λ i. base i ∷ []) first n; opened = [] } in
      let cells = cells_in (along (λ i. base i ∷ []) first n) in
      alike_equal r _
      (alike_then r base_run _ (record { first = sym h.first; columns = sym h.columns; ended = sym h.ended; opened = sym h.opened })
      (record { first = refl; columns = refl; ended = range-lengths first n m; opened = refl }))
      (c ∙ (ap (valued_from 0 (along vs first n)) (append-nil cells)
      ∙ (given-all (along vs first n) cells (range-count base vs first n m.many)
      ∙ (sym (range-cells first n m) ∙ sym (append-nil (cells_in (along (λ i. row i ∷ []) first n)))))))

module _ (form : Form) (f : Accepted) (a : Grid) (b : Option Grid) (os : ℕ → List Operands) where
  mapped_behind : (first n : ℕ) → AreMapped form f a b os first (suc n) → AreMapped form f a b os (suc first) n
  mapped_behind first n h = record {
    many = λ i l u. h.many i (omega (arith, l)) (omega (arith, u));
    rows = λ i l u. h.rows i (omega (arith, l)) (omega (arith, u));
    calls = λ i l u. h.calls i (omega (arith, l)) (omega (arith, u));
  }

  pub range-calls : (first n : ℕ) → AreMapped form f a b os first n → form_all_calls form f a b None first n ≡ calls_on f (along os first n)
  range-calls first zero h = refl
  range-calls first (suc n) h =
      ap (λ cs. cs ++ form_all_calls form f a b None (suc first) n) (h.calls first (omega arith) (omega arith))
      ∙ (ap (λ cs. calls_on f (os first) ++ cs) (range-calls (suc first) n (mapped_behind first n h))
      ∙ sym (calls_on-append f (os first) (along os (suc first) n)))

  values-along : (first n : ℕ) → values_on f (along os first n) ≡ along (λ i. values_on f (os i)) first n
  values-along first zero = refl
  values-along first (suc n) =
      values_on-append f (os first) (along os (suc first) n) ∙ ap (λ vs. values_on f (os first) ++ vs) (values-along (suc first) n)

  -- the copied rows, when all their entries have got their values
  pub whole-rows : (first n : ℕ) → AreMapped form f a b os first n → (r : Run) → AreAlike (rows_of a first n) r
      → all_cells r ≡ valued_from 0 (values_on f (along os first n)) (all_cells (rows_of a first n))
      → r ≡ record { first = first; columns = a.columns; ended = form_rows form f a b None first n; opened = [] }
  whole-rows first n m r h c =
      valued-rows (row_of a) (form_row form f a b None) (λ i. values_on f (os i)) a.columns first n
      (record { many = λ i l u. length_values f (os i) ∙ m.many i l u; rows = m.rows }) r h
      (c ∙ ap (λ vs. valued_from 0 vs (all_cells (rows_of a first n))) (values-along first n))

-- ---- apply

pub applied-entries : (a : Grid) (thunk : Option ℕ) (first n : ℕ) → length (range_operands thunk a first n) ≡ entries_in_run (rows_of a first n)
applied-entries a thunk first n = copied-entries a (λ i. row_operands thunk i (row_of a i)) first n (λ i l u. length-operands thunk i (row_of a i))

pub apply_mapped : (f : Accepted) (a : Grid) → IsGrid a → (thunk : Option ℕ) (first n : ℕ)
    → AreMapped (Apply thunk) f a None (λ i. row_operands thunk i (row_of a i)) first n
apply_mapped f a g thunk first n = record {
  many = λ i l u. length-operands thunk i (row_of a i);
  rows = λ i l u. alone-cells f thunk i a.columns 0 (row_of a i) (row_of-ascends a i g);
  calls = λ i l u. alone-calls f thunk i a.columns 0 (row_of a i) (row_of-ascends a i g);
}

pub apply_kind_is : (t : Option ℕ) → kind_for (Apply t) ≡ apply_kind t
apply_kind_is None = refl
apply_kind_is (Some t) = refl

pub copied-words : (a : Grid) (first n : ℕ) → words_of (all_cells (rows_of a first n)) ≡ range_operands None a first n
copied-words a first n = ap words_of (append-nil (cells a first n)) ∙ joined first n
  where
    joined : (first n : ℕ) → words_of (cells a first n) ≡ range_operands None a first n
    joined first zero = refl
    joined first (suc n) = words_of-append (row_of a first) (cells a (suc first) n)
        ∙ ap (λ os. words_of (row_of a first) ++ os) (joined (suc first) n)

-- ---- a range of rows, from its copy to its values

module _ (form : Form) (f : Accepted) (a : Grid) (b : Option Grid) (os : ℕ → List Operands) (first n : ℕ)
    (mapped : AreMapped form f a b os first n) (g : IsGrid a) (kind : f.kind ≡ kind_for form) (is : IsAccepted f)
    (l : n ≤ a.rows) where
  pub whole-room : 0 + steps_of (calls_on f (along os first n)) < 2 ^ 64
  whole-room =
      let few = few_in_all f is form a b None first n kind g l in
      let e = ap steps_of (range-calls form f a b os first n mapped) in
      omega (arith, few, e)

  module _ (m o : Mapping) (begun : m.rows.run ≡ rows_of a first n) (none_done : m.rows.written ≡ 0) (none_made : m.steps ≡ 0)
      (added : IsFurther f (along os first n) m o) where
    -- all entries were written
    pub made-all : o.rows.written ≡ entries_in_run o.rows.run
    made-all =
        let e = copied-entries a os first n mapped.many in
        let r = ap (λ (q : Run). entries_in_run q) begun in
        let k = alike_entries m.rows.run o.rows.run added.alike in
        let p = added.number in
        omega (arith, e, r, k, p, none_done)

    pub made-rows : o.rows.run ≡ record { first = first; columns = a.columns; ended = form_rows form f a b None first n; opened = [] }
    made-rows =
        whole-rows form f a b os first n mapped o.rows.run (subst (λ (q : Run). AreAlike q o.rows.run) begun added.alike)
        (added.cells
        ∙ (ap (λ k. valued_from k (values_on f (along os first n)) (all_cells m.rows.run)) none_done
        ∙ ap (λ (q : Run). valued_from 0 (values_on f (along os first n)) (all_cells q)) begun))

    pub made-steps : o.steps ≡ steps_of (form_all_calls form f a b None first n)
    made-steps =
        let s = added.steps in
        let e = ap steps_of (range-calls form f a b os first n mapped) in
        omega (arith, s, none_made, e)
