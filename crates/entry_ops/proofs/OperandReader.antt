-- The words of a row that an operator keeps.
use Rattle.std.proofs.Common.{◌≡◌, ℕ, suc, Bool, true, false, nat_eq, if◌then◌else◌, List, [], ◌∷◌, ◌++◌, Option, None, Some, refl, sym, ap, ◌∙◌, append-nil}
use Rattle.bpf_insn.specs.declared.operands.Operands.TheVariants.{Index}
use Rattle.bpf_verify.specs.Accepted.{Accepted}
use Rattle.csr_store.specs.Grid.{Cell}
use Rattle.csr_store.specs.Run.{Row}
use Rattle.csr_store.specs.Added.{kept_where}
use Rattle.csr_store.specs.Along.{cell_at}
use Rattle.csr_store.specs.Ascending.{Ascends}
use Rattle.csr_store.proofs.Along.{along-none}
use Rattle.bpf_run.specs.Meaning.{value_of}
use Rattle.bpf_run.specs.Calls.{Call, call_of, calls_on, values_on, entries_of}
use Rattle.entry_ops.specs.inner.Forms.{Select}
use Rattle.entry_ops.specs.inner.Standing.{Standing, Adds, with_cell, with_cells}
use Rattle.entry_ops.specs.inner.SelectBuffer.{with_kept}
use Rattle.entry_ops.specs.inner.Walking.{row_cells, row_calls}
use Rattle.entry_ops.proofs.Nexts.{next_left, next_first}
use Rattle.entry_ops.proofs.Merging.{cells_here, calls_here, no_cell, no_call}

module _ (f : Accepted) (i thunk : ℕ) where
  -- the cells that are kept, and the calls that are made for them
  abbrev pub kept : Row → Row
  kept cs = kept_where cs (values_on f (entries_of i thunk cs))

  abbrev pub asked : Row → List Call
  asked cs = calls_on f (entries_of i thunk cs)

  here : Cell → Option ℕ
  here c = if nat_eq (value_of f (Index c.1 i c.0 thunk)) 0 then None else Some c.1

  kept-or-not : (c : Cell) (more : Row) (b : Bool) → (if b then more else c ∷ more) ≡ cell_at c.0 (if b then None else Some c.1) ++ more
  kept-or-not c more true = refl
  kept-or-not c more false = refl

  kept-first : (c : Cell) (cs : Row) → kept (c ∷ cs) ≡ cell_at c.0 (here c) ++ kept cs
  unfolding here
  kept-first c cs = kept-or-not c (kept cs) (nat_eq (value_of f (Index c.1 i c.0 thunk)) 0)

  -- ---- the row of the form is what is kept of the operand's cells

  pub alone-cells : (n low : ℕ) (xs : List Cell) → Ascends low n xs → row_cells (Select thunk) f i n xs [] None ≡ kept xs
  unfolding here
  alone-cells n low [] h = along-none (λ j. cells_here (Select thunk) f i true j None None) 0 n (λ j. no_cell (Select thunk) f i true j)
  alone-cells n low (x ∷ xs) h =
      next_first (cells_here (Select thunk) f i) (no_cell (Select thunk) f i) n low (x ∷ xs) [] None None x.0 (Some x.1) None xs [] (next_left n low x xs [] h tt) (λ j l. refl)
      ∙ (ap (λ us. cell_at x.0 (here x) ++ us) (alone-cells n (suc x.0) xs h.2) ∙ sym (kept-first x xs))

  pub alone-calls : (n low : ℕ) (xs : List Cell) → Ascends low n xs → row_calls (Select thunk) f i n xs [] None ≡ asked xs
  alone-calls n low [] h = along-none (λ j. calls_here (Select thunk) f i true j None None) 0 n (λ j. no_call (Select thunk) f i true j)
  alone-calls n low (x ∷ xs) h =
      next_first (calls_here (Select thunk) f i) (no_call (Select thunk) f i) n low (x ∷ xs) [] None None x.0 (Some x.1) None xs [] (next_left n low x xs [] h tt) (λ j l. refl)
      ∙ ap (λ us. call_of f (Index x.1 i x.0 thunk) ∷ us) (alone-calls n (suc x.0) xs h.2)

-- a cell that is kept or not, as the form has it
pub adds-kept : (cs : List Call) (c w v : ℕ) (s t : Standing) → Adds cs (with_kept c w v) s t
    → Adds cs (with_cells (cell_at c (if nat_eq v 0 then None else Some w))) s t
adds-kept cs c w v s t d = record { rows = d.rows ∙ same (nat_eq v 0); spends = d.spends }
  where
    same : (b : Bool) → (if b then s.rows else with_cell c w s.rows) ≡ with_cells (cell_at c (if b then None else Some w)) s.rows
    same true = ap (λ os. record s.rows { opened = os }) (sym (append-nil s.rows.opened))
    same false = refl
