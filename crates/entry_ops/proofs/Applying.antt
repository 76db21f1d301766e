-- Apply of the rows of a matrix as far as a mask shows them: what they have becomes the rows of the form.
use Rattle.std.proofs.Common.{◌≡◌, ◌≤◌, ◌<◌, ◌^◌, ℕ, zero, suc, Bool, true, false, if◌then◌else◌, List, [], ◌∷◌, ◌++◌, Option, None, Some, refl, sym, ap, ◌∙◌, arith, append-nil}
use Rattle.bpf_verify.specs.Accepted.{Accepted, IsAccepted}
use Rattle.bpf_insn.specs.declared.operands.Kind.TheVariants as kinds
use Rattle.bpf_run.specs.Calls.{Call, calls_on, values_on, steps_of, words_of}
use Rattle.bpf_run.proofs.Charging.{values_on-append, calls_on-append}
use Rattle.csr_store.specs.Added.{with_values}
use Rattle.csr_store.specs.Along.{along, cell_at}
use Rattle.csr_store.specs.Ascending.{Ascends, shows}
use Rattle.csr_store.specs.Grid.{Grid, IsGrid, Cell, row_of}
use Rattle.csr_store.specs.Run.{Row, Run}
use Rattle.csr_store.specs.Shown.{cells_shown}
use Rattle.csr_store.specs.Valued.{AreAlike, all_cells, cells_in, valued_from}
use Rattle.csr_store.proofs.Along.{each, along-each, row_of-ascends}
use Rattle.job_forms.specs.Forms.{applied, apply_calls}
use Rattle.entry_ops.specs.declared.mapping.Mapping.{Mapping}
use Rattle.entry_ops.specs.inner.Forms.{Apply}
use Rattle.entry_ops.specs.inner.Shown.{row_shown, rows_shown}
use Rattle.entry_ops.specs.inner.Walking.{row_cells, row_calls, form_row, form_rows, form_all_calls}
use Rattle.entry_ops.proofs.Bounds.{few_in_all}
use Rattle.entry_ops.proofs.Mapped.{length_values, length_words, words_of-append}
use Rattle.entry_ops.proofs.Whole.{valued-rows}

-- rows some of whose entries were called
abbrev pub calling : Run → ℕ → ℕ → Mapping
calling run written steps = record { rows = record { run = run; written = written }; steps = steps }

-- ---- a row

module _ (f : Accepted) (i n : ℕ) (mask : List Cell) where
  abbrev cell : ℕ → Option ℕ → Row
  cell j x = cell_at j (if shows (Some mask) j then applied f None (i, j) x else None)

  abbrev call : ℕ → Option ℕ → List Call
  call j x = if shows (Some mask) j then apply_calls f None (i, j) x else []

  no_cell : (b : Bool) (j : ℕ) → cell_at j (if b then None else None) ≡ []
  no_cell true j = refl
  no_cell false j = refl

  no_call : (b : Bool) (j : ℕ) → (if b then apply_calls f None (i, j) None else []) ≡ []
  no_call true j = refl
  no_call false j = refl

  each-cells : (cs : List Cell) → each cell cs ≡ with_values (cells_shown mask cs) (values_on f (words_of (cells_shown mask cs)))
  each-cells [] = refl
  each-cells (c ∷ cs) = by_test (shows (Some mask) c.0) (each-cells cs)
    where
      by_test : (b : Bool) → each cell cs ≡ with_values (cells_shown mask cs) (values_on f (words_of (cells_shown mask cs)))
          → cell_at c.0 (if b then applied f None (i, c.0) (Some c.1) else None) ++ each cell cs
          ≡ with_values (if b then c ∷ cells_shown mask cs else cells_shown mask cs)
          (values_on f (words_of (if b then c ∷ cells_shown mask cs else cells_shown mask cs)))
      by_test true rest = ap (λ ds. cell_at c.0 (applied f None (i, c.0) (Some c.1)) ++ ds) rest
      by_test false rest = rest

  each-calls : (cs : List Cell) → each call cs ≡ calls_on f (words_of (cells_shown mask cs))
  each-calls [] = refl
  each-calls (c ∷ cs) = by_test (shows (Some mask) c.0) (each-calls cs)
    where
      by_test : (b : Bool) → each call cs ≡ calls_on f (words_of (cells_shown mask cs))
          → (if b then apply_calls f None (i, c.0) (Some c.1) else []) ++ each call cs
          ≡ calls_on f (words_of (if b then c ∷ cells_shown mask cs else cells_shown mask cs))
      by_test true rest = ap (λ ds. apply_calls f None (i, c.0) (Some c.1) ++ ds) rest
      by_test false rest = rest

  shown-cells : (left : List Cell) → Ascends 0 n left
      → row_cells (Apply None) f i n left [] (Some mask) ≡ with_values (cells_shown mask left) (values_on f (words_of (cells_shown mask left)))
  shown-cells left rises = along-each cell (λ j. no_cell (shows (Some mask) j) j) n 0 left rises ∙ each-cells left

  shown-calls : (left : List Cell) → Ascends 0 n left
      → row_calls (Apply None) f i n left [] (Some mask) ≡ calls_on f (words_of (cells_shown mask left))
  shown-calls left rises = along-each call (λ j. no_call (shows (Some mask) j) j) n 0 left rises ∙ each-calls left

-- ---- rows

module _ (f : Accepted) (a mask : Grid) (g : IsGrid a) where
  abbrev shown : ℕ → ℕ → Row
  shown first n = cells_in (along (λ i. row_shown a mask i ∷ []) first n)

  range-values : (first n : ℕ) → values_on f (words_of (shown first n)) ≡ along (λ i. values_on f (words_of (row_shown a mask i))) first n
  range-values first zero = refl
  range-values first (suc n) =
      ap (values_on f) (words_of-append (row_shown a mask first) (shown (suc first) n))
      ∙ (values_on-append f (words_of (row_shown a mask first)) (words_of (shown (suc first) n))
      ∙ ap (λ vs. values_on f (words_of (row_shown a mask first)) ++ vs) (range-values (suc first) n))

  range-calls : (first n : ℕ) → form_all_calls (Apply None) f a None (Some mask) first n ≡ calls_on f (words_of (shown first n))
  range-calls first zero = refl
  range-calls first (suc n) =
      ap (λ cs. cs ++ form_all_calls (Apply None) f a None (Some mask) (suc first) n)
      (shown-calls f first a.columns (row_of mask first) (row_of a first) (row_of-ascends a first g))
      ∙ (ap (λ cs. calls_on f (words_of (row_shown a mask first)) ++ cs) (range-calls (suc first) n)
      ∙ (sym (calls_on-append f (words_of (row_shown a mask first)) (words_of (shown (suc first) n)))
      ∙ ap (calls_on f) (sym (words_of-append (row_shown a mask first) (shown (suc first) n)))))

  -- the calls are those on the words that are shown
  pub applied-calls : (first n : ℕ) → form_all_calls (Apply None) f a None (Some mask) first n
      ≡ calls_on f (words_of (all_cells (rows_shown a mask first n)))
  applied-calls first n = range-calls first n ∙ ap (λ cs. calls_on f (words_of cs)) (sym (append-nil (shown first n)))

  pub applied-few : f.kind ≡ kinds.Unary → IsAccepted f → (first n : ℕ) → n ≤ a.rows
      → steps_of (calls_on f (words_of (all_cells (rows_shown a mask first n)))) < 2 ^ 64
  applied-few kind is first n l =
      let few = few_in_all f is (Apply None) a None (Some mask) first n kind g l in
      let e = ap steps_of (applied-calls first n) in
      omega (arith, few, e)

  -- and the rows, when all their entries have got their values
  pub applied-rows : (first n : ℕ) (r : Run) → AreAlike (rows_shown a mask first n) r
      → all_cells r ≡ valued_from 0 (values_on f (words_of (all_cells (rows_shown a mask first n)))) (all_cells (rows_shown a mask first n))
      → r ≡ record { first = first; columns = a.columns; ended = form_rows (Apply None) f a None (Some mask) first n; opened = [] }
  applied-rows first n r h c =
      valued-rows (row_shown a mask) (form_row (Apply None) f a None (Some mask)) (λ i. values_on f (words_of (row_shown a mask i)))
      a.columns first n (record {
        many = λ i l u. length_values f (words_of (row_shown a mask i)) ∙ length_words (row_shown a mask i);
        rows = λ i l u. shown-cells f i a.columns (row_of mask i) (row_of a i) (row_of-ascends a i g);
      }) r h
      (c ∙ ap (λ vs. valued_from 0 vs (all_cells (rows_shown a mask first n)))
      (ap (λ cs. values_on f (words_of cs)) (append-nil (shown first n)) ∙ range-values first n))
