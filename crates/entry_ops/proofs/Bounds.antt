-- The steps of all calls of a form fit a word: there are at most 2^24 rows of 2^24 columns, and a call takes at most 2^12 steps.
use Rattle.std.proofs.Common.{◌≡◌, ◌≤◌, ◌<◌, ◌*◌, ◌^◌, ℕ, zero, suc, Bool, true, false, if◌then◌else◌, List, [], Option, None, Some, sym, arith}
use Rattle.bpf_insn.specs.declared.operands.Operands.TheVariants.{Unary, Binary, Index}
use Rattle.bpf_verify.specs.Accepted.{Accepted, IsAccepted}
use Rattle.csr_store.specs.Grid.{Grid, IsGrid, row_of}
use Rattle.csr_store.specs.Along.{along}
use Rattle.csr_store.specs.Ascending.{at, shows}
use Rattle.bpf_run.specs.Calls.{Call, steps_of}
use Rattle.bpf_run.proofs.Charging.{steps-append, cost-few}
use Rattle.entry_ops.specs.inner.Forms.{Form, Apply, Select, Union, Both}
use Rattle.entry_ops.specs.inner.Walking.{kind_for, form_calls, form_row_calls, form_all_calls, row_or_none, mask_row}

-- lists of so many steps each, joined
pub steps-along : (g : ℕ → List Call) (from n most : ℕ) → ((j : ℕ) → steps_of (g j) ≤ most) → steps_of (along g from n) ≤ n * most
steps-along g from zero most h = omega arith
steps-along g from (suc n) most h =
    let a = steps-append (g from) (along g (suc from) n) in
    let b = h from in
    let r = steps-along g (suc from) n most h in
    omega arith

module _ (f : Accepted) (is : IsAccepted f) where
  few_steps : (form : Form) (p : ℕ × ℕ) (x y : Option ℕ) → f.kind ≡ kind_for form → steps_of (form_calls form f p x y) ≤ 4096
  few_steps (Apply thunk) p None y k = omega arith
  few_steps (Apply None) p (Some x) y k = let c = cost-few f (Unary x) is (sym k) in omega arith
  few_steps (Apply (Some t)) p (Some x) y k = let c = cost-few f (Index x p.0 p.1 t) is (sym k) in omega arith
  few_steps (Select t) p None y k = omega arith
  few_steps (Select t) p (Some x) y k = let c = cost-few f (Index x p.0 p.1 t) is (sym k) in omega arith
  few_steps Union p (Some x) (Some y) k = let c = cost-few f (Binary x y) is (sym k) in omega arith
  few_steps Union p (Some x) None k = omega arith
  few_steps Union p None y k = omega arith
  few_steps Both p (Some x) (Some y) k = let c = cost-few f (Binary x y) is (sym k) in omega arith
  few_steps Both p (Some x) None k = omega arith
  few_steps Both p None y k = omega arith

  few_here : (form : Form) (p : ℕ × ℕ) (x y : Option ℕ) (b : Bool) → f.kind ≡ kind_for form
      → steps_of (if b then form_calls form f p x y else []) ≤ 4096
  few_here form p x y false k = omega arith
  few_here form p x y true k = few_steps form p x y k

  few_in_row : (form : Form) (a : Grid) (b mask : Option Grid) (i : ℕ) → f.kind ≡ kind_for form → IsGrid a
      → steps_of (form_row_calls form f a b mask i) ≤ 68719476736
  few_in_row form a b mask i k g =
      let row = row_of a i in
      let h = steps-along (λ j. if shows (mask_row mask i) j then form_calls form f (i, j) (at row j) (at (row_or_none b i) j)
      else []) 0 a.columns 4096
      (λ j. few_here form (i, j) (at row j) (at (row_or_none b i) j) (shows (mask_row mask i) j) k) in
      let c = g.columns_small in
      omega arith

  pub few_in_all : (form : Form) (a : Grid) (b mask : Option Grid) (first n : ℕ) → f.kind ≡ kind_for form → IsGrid a → n ≤ a.rows
      → steps_of (form_all_calls form f a b mask first n) < 2 ^ 64
  few_in_all form a b mask first n k g l =
      let h = steps-along (form_row_calls form f a b mask) first n 68719476736 (λ i. few_in_row form a b mask i k g) in
      let r = g.rows_small in
      omega arith
