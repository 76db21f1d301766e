-- The rows of a range, row by row: what is still to come completes the range.
use Rattle.std.proofs.Common.{◌≡◌, ◌≤◌, ◌<◌, ◌+◌, ◌-◌, ◌^◌, ℕ, List, [], ◌++◌, Option, refl, sym, ap, ◌∙◌, subst, arith, append_assoc}
use Rattle.bpf_verify.specs.Accepted.{Accepted}
use Rattle.csr_store.specs.Grid.{Grid, IsGrid, Cell, row_of}
use Rattle.csr_store.specs.Run.{Row, Run}
use Rattle.csr_store.specs.Ascending.{Ascends, AscendsIn}
use Rattle.csr_store.proofs.Along.{along-next, along-over, row_of-ascends, Fills, fills-start, fills-step, fills-end, row_ended}
use Rattle.bpf_run.specs.Calls.{Call, steps_of, Charges}
use Rattle.bpf_run.proofs.Charging.{Spends, spends-start, spends-further, spends-stop, steps-append}
use Rattle.entry_ops.specs.inner.Forms.{Form}
use Rattle.entry_ops.specs.inner.Standing.{Standing, Adds, with_end, with_cells, IsOpen}
use Rattle.entry_ops.specs.declared.operand_rows.OperandRows.{OperandRows}
use Rattle.entry_ops.specs.inner.Walking.{
  AreOperandRows,
  cells_of,
  form_row,
  form_row_calls,
  form_rows,
  form_all_calls,
  with_rows,
  row_cells,
  row_calls,
  mask_row,
  row_or_none,
}

-- ---- the rows of matrices ascend

pub row_ascends : (g : Grid) (i columns : ℕ) (row : List Cell) → IsGrid g → g.columns ≡ columns → row ≡ row_of g i
    → Ascends 0 columns row
row_ascends g i columns row h e r = subst (λ n. Ascends 0 n row) e (subst (Ascends 0 g.columns) (sym r) (row_of-ascends g i h))

pub line_is : (sides : OperandRows) (n : ℕ) → sides.columns ≡ n → Ascends 0 n sides.left.now → Ascends 0 n sides.right.now → AscendsIn n
    (cells_of sides.mask)
    → AreOperandRows sides
line_is sides n e l r m = record {
  left = subst (λ k. Ascends 0 k sides.left.now) (sym e) l;
  right = subst (λ k. Ascends 0 k sides.right.now) (sym e) r;
  mask = subst (λ k. AscendsIn k (cells_of sides.mask)) (sym e) m;
}

-- ---- a range under way

module _ (form : Form) (f : Accepted) (a : Grid) (b mask : Option Grid) (from to : ℕ) (old : Standing) where
  pub record IsFilling (i : ℕ) (now : Standing) : Type 0 where
    pub fills : Fills (form_row form f a b mask) from to old.rows i now.rows
    pub spends : (rest : List Call)
        → Spends (old.waiting ++ (form_all_calls form f a b mask from (to - from) ++ rest)) old.steps
        (now.waiting ++ (form_all_calls form f a b mask i (to - i) ++ rest)) now.steps

  pub filling-start : old.rows.opened ≡ [] → IsFilling from old
  filling-start o = record {
    fills = fills-start (form_row form f a b mask) from to old.rows o;
    spends = λ rest. spends-start _ old.steps;
  }

  module _ (i : ℕ) (now : Standing) (m : IsFilling i now) where
    pub filling-open : IsOpen a.columns old.rows → IsOpen a.columns now.rows
    filling-open o = record { columns_are = ap (λ (r : Run). r.columns) m.fills.run ∙ o.columns_are; none = m.fills.closed }

    module _ (l : i < to) where
      calls_next : form_all_calls form f a b mask i (to - i)
          ≡ form_row_calls form f a b mask i ++ form_all_calls form f a b mask (i + 1) (to - (i + 1))
      calls_next = along-next (form_row_calls form f a b mask) i to l

      -- the calls of a row more fit in
      pub filling-room : old.steps + (steps_of old.waiting + steps_of (form_all_calls form f a b mask from (to - from))) < 2 ^ 64
          → now.steps + (steps_of now.waiting + steps_of (form_row_calls form f a b mask i)) < 2 ^ 64
      filling-room h =
          let s = (m.spends []).counted in
          let x = steps-append old.waiting (form_all_calls form f a b mask from (to - from) ++ []) in
          let y = steps-append (form_all_calls form f a b mask from (to - from)) [] in
          let z = steps-append now.waiting (form_all_calls form f a b mask i (to - i) ++ []) in
          let w = steps-append (form_all_calls form f a b mask i (to - i)) [] in
          let n = ap steps_of calls_next in
          let v = steps-append (form_row_calls form f a b mask i) (form_all_calls form f a b mask (i + 1) (to - (i + 1))) in
          omega arith

      -- no memory within the row
      pub filling-stop : (steps : ℕ) (made : List Call) → made ≡ form_row_calls form f a b mask i
          → ((rest : List Call) → Charges (now.waiting ++ (made ++ rest)) now.steps steps) → (rest : List Call)
          → Charges (old.waiting ++ (form_all_calls form f a b mask from (to - from) ++ rest)) old.steps steps
      filling-stop steps made is h rest =
          let later = form_all_calls form f a b mask (i + 1) (to - (i + 1)) in
          let whole = ap (λ cs. cs ++ rest) (calls_next ∙ ap (λ cs. cs ++ later) (sym is)) ∙ append_assoc made later rest in
          (m.spends rest).charged steps (subst (λ cs. Charges (now.waiting ++ cs) now.steps steps) (sym whole) (h (later ++ rest)))

      -- a row more
      pub filling-step : (mid new : Standing) (made : List Call) (cells : Row) → made ≡ form_row_calls form f a b mask i
          → cells ≡ form_row form f a b mask i → Adds made (with_cells cells) now mid → Adds [] with_end mid new → IsFilling
          (i + 1) new
      filling-step mid new made cells is row d ended =
          let later = form_all_calls form f a b mask (i + 1) (to - (i + 1)) in
          record {
            fills = fills-step (form_row form f a b mask) from to old.rows i now.rows new.rows m.fills l
                (row_ended now.rows mid.rows new.rows cells (form_row form f a b mask i) m.fills.closed d.rows row ended.rows);
            spends = λ rest.
                let whole = ap (λ cs. cs ++ rest) (calls_next ∙ ap (λ cs. cs ++ later) (sym is)) ∙ append_assoc made later rest in
                spends-further _ old.steps _ now.steps _ new.steps (m.spends rest)
                (subst (λ cs. Spends (now.waiting ++ cs) now.steps (new.waiting ++ (later ++ rest)) new.steps) (sym whole)
                (spends-further _ now.steps _ mid.steps _ new.steps (d.spends (later ++ rest)) (ended.spends (later ++ rest))));
          }

      -- no memory for the row's end
      pub filling-stop_end : (mid : Standing) (made : List Call) (cells : Row) (steps : ℕ) → made ≡ form_row_calls form f a b mask i
          → Adds made (with_cells cells) now mid → Charges mid.waiting mid.steps steps → (rest : List Call)
          → Charges (old.waiting ++ (form_all_calls form f a b mask from (to - from) ++ rest)) old.steps steps
      filling-stop_end mid made cells steps is d h rest =
          filling-stop steps made is (λ more. spends-stop _ now.steps _ mid.steps mid.waiting _ steps (d.spends more) refl h) rest

    -- no row is left
    pub filling-end : to ≤ i → Adds (form_all_calls form f a b mask from (to - from)) (with_rows (form_rows form f a b mask
        from (to - from))) old now
    filling-end l =
        record {
          rows = fills-end (form_row form f a b mask) from to old.rows i now.rows m.fills l;
          spends = λ rest. subst (λ cs. Spends (old.waiting ++ (form_all_calls form f a b mask from (to - from) ++ rest)) old.steps
              (now.waiting ++ (cs ++ rest)) now.steps) (along-over (form_row_calls form f a b mask) i to l) (m.spends rest);
        }

-- the cells and the calls of a row by the rows that were read
pub same_cells : (form : Form) (f : Accepted) (a : Grid) (b mask : Option Grid) (i row n : ℕ) (left right : List Cell) (ms :
    Option (List Cell)) → row ≡ i
    → n ≡ a.columns → left ≡ row_of a i → right ≡ row_or_none b i → ms ≡ mask_row mask i
    → row_cells form f row n left right ms ≡ form_row form f a b mask i
same_cells form f a b mask i row n left right ms e c l r m =
    ap (λ k. row_cells form f k n left right ms) e ∙ ap (λ k. row_cells form f i k left right ms) c
    ∙ ap (λ xs. row_cells form f i a.columns xs right ms) l ∙ ap (λ ys. row_cells form f i a.columns (row_of a i) ys ms) r
    ∙ ap (row_cells form f i a.columns (row_of a i) (row_or_none b i)) m

pub same_calls : (form : Form) (f : Accepted) (a : Grid) (b mask : Option Grid) (i row n : ℕ) (left right : List Cell) (ms :
    Option (List Cell)) → row ≡ i
    → n ≡ a.columns → left ≡ row_of a i → right ≡ row_or_none b i → ms ≡ mask_row mask i
    → row_calls form f row n left right ms ≡ form_row_calls form f a b mask i
same_calls form f a b mask i row n left right ms e c l r m =
    ap (λ k. row_calls form f k n left right ms) e ∙ ap (λ k. row_calls form f i k left right ms) c
    ∙ ap (λ xs. row_calls form f i a.columns xs right ms) l ∙ ap (λ ys. row_calls form f i a.columns (row_of a i) ys ms) r
    ∙ ap (row_calls form f i a.columns (row_of a i) (row_or_none b i)) m
