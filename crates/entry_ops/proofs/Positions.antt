-- The rows of a form are those that have at each position what the form has there.
use Rattle.std.proofs.Common.{◌≡◌, ◌-◌, ℕ, if◌then◌else◌, List, [], ◌∷◌, Option, None, Some, refl, ap, subst, ◌∙◌, is_some}
use Rattle.std.specs.FinMap.{get}
use Rattle.bpf_verify.specs.Accepted.{Accepted}
use Rattle.csr_store.specs.Grid.{Grid, Position, row_of}
use Rattle.csr_store.specs.Along.{cell_at}
use Rattle.csr_store.specs.Run.{Row}
use Rattle.csr_store.specs.Ascending.{at, shows}
use Rattle.csr_store.specs.Mask.{passes, cut, cut_list, row_under, rows_under, listed_under, all_listed_under, mask_of}
use Rattle.csr_store.proofs.ByRow.{lookup-row_of}
use Rattle.csr_store.proofs.Along.{along-same}
use Rattle.bpf_run.specs.Calls.{Call}
use Rattle.job_forms.specs.Forms.{
  applied,
  apply_calls,
  apply_at,
  apply_calls_at,
  selected,
  select_at,
  select_calls_at,
  united,
  joint,
  joint_calls,
  union_at,
  both_at,
  joint_calls_at,
}
use Rattle.job_forms.specs.Region.{IsMade, IsPartOf}
use Rattle.job_forms.specs.declared.region.Region.{Region}
use Rattle.job_forms.specs.declared.region.Chunk.{Chunk}
use Rattle.entry_ops.specs.inner.Forms.{Form, Apply, Select, Union, Both}
use Rattle.entry_ops.specs.inner.Walking.{
  form_at,
  form_calls,
  form_row,
  form_row_calls,
  form_rows,
  form_all_calls,
  row_or_none,
  mask_row,
  IsFormMade,
}

shows-passes : (mask : Option Grid) (i j : ℕ) → shows (mask_row mask i) j ≡ passes mask (i, j)
shows-passes None i j = refl
shows-passes (Some m) i j = ap is_some (lookup-row_of m i j)

module _ (form : Form) (f : Accepted) (a : Grid) (b mask : Option Grid) where
  module _ (values : Position → Option ℕ)
      (same : (i j : ℕ) → form_at form f (i, j) (at (row_of a i) j) (at (row_or_none b i) j) ≡ values (i, j)) where
    row_is : (i : ℕ) → form_row form f a b mask i ≡ row_under mask a.columns values i
    row_is i = along-same (λ j. cell_at j (if shows (mask_row mask i) j then form_at form f (i, j) (at (row_of a i) j) (at
        (row_or_none b i) j) else None))
        (λ j. cell_at j (cut mask values (i, j))) 0 a.columns
        (λ j l u. ap (λ t. cell_at j (if t then form_at form f (i, j) (at (row_of a i) j) (at (row_or_none b i) j) else None))
        (shows-passes mask i j)
        ∙ ap (λ o. cell_at j (if passes mask (i, j) then o else None)) (same i j))

    rows_are : (first n : ℕ) → form_rows form f a b mask first n ≡ rows_under mask a.columns values first n
    rows_are first n = along-same (λ i. form_row form f a b mask i ∷ []) (λ i. row_under mask a.columns values i ∷ []) first n
        (λ i l u. ap (λ r. r ∷ []) (row_is i))

  module _ (lists : Position → List Call)
      (same : (i j : ℕ) → form_calls form f (i, j) (at (row_of a i) j) (at (row_or_none b i) j) ≡ lists (i, j)) where
    row_calls_are : (i : ℕ) → form_row_calls form f a b mask i ≡ listed_under mask a.columns lists i
    row_calls_are i = along-same (λ j. if shows (mask_row mask i) j then form_calls form f (i, j) (at (row_of a i) j) (at
        (row_or_none b i) j) else [])
        (λ j. cut_list mask lists (i, j)) 0 a.columns
        (λ j l u. ap (λ t. if t then form_calls form f (i, j) (at (row_of a i) j) (at (row_or_none b i) j) else []) (shows-passes
        mask i j)
        ∙ ap (λ cs. if passes mask (i, j) then cs else []) (same i j))

    calls_are : (first n : ℕ) → form_all_calls form f a b mask first n ≡ all_listed_under mask a.columns lists first n
    calls_are first n = along-same (form_row_calls form f a b mask) (λ i. listed_under mask a.columns lists i) first n (λ i l u.
        row_calls_are i)

-- what is made of a form is made of what stands at each position
module _ (form : Form) (f : Accepted) (a : Grid) (b : Option Grid) (values : Position → Option ℕ) (lists : Position → List Call)
    (same : (i j : ℕ) → form_at form f (i, j) (at (row_of a i) j) (at (row_or_none b i) j) ≡ values (i, j))
    (same_lists : (i j : ℕ) → form_calls form f (i, j) (at (row_of a i) j) (at (row_or_none b i) j) ≡ lists (i, j))
    (region : Region) (made : Chunk) where
  part_is : IsFormMade form f a b (mask_of region.mask) region.range.start (region.range.end - region.range.start) made
      → IsPartOf a.columns values lists region made
  part_is h =
      let mask = mask_of region.mask in
      let first = region.range.start in
      let n = region.range.end - region.range.start in
      subst (λ (rows : List Row). IsMade (record { first = first; columns = a.columns; ended = rows; opened = [] })
      (all_listed_under mask a.columns lists first n) made) (rows_are form f a b mask values same first n)
      (subst (λ (cs : List Call). IsMade (record
      { first = first; columns = a.columns; ended = form_rows form f a b mask first n; opened = [] })
      cs made) (calls_are form f a b mask lists same_lists first n) h)

module _ (f : Accepted) (a : Grid) (region : Region) (made : Chunk) where
  pub apply_is : (thunk : Option ℕ)
      → IsFormMade (Apply thunk) f a None (mask_of region.mask) region.range.start (region.range.end - region.range.start) made
      → IsPartOf a.columns (apply_at f thunk a) (apply_calls_at f thunk a) region made
  apply_is thunk = part_is (Apply thunk) f a None (apply_at f thunk a) (apply_calls_at f thunk a)
      (λ i j. ap (applied f thunk (i, j)) (lookup-row_of a i j)) (λ i j. ap (apply_calls f thunk (i, j)) (lookup-row_of a i j))
      region made

  pub select_is : (thunk : ℕ)
      → IsFormMade (Select thunk) f a None (mask_of region.mask) region.range.start (region.range.end - region.range.start) made
      → IsPartOf a.columns (select_at f thunk a) (select_calls_at f thunk a) region made
  select_is thunk = part_is (Select thunk) f a None (select_at f thunk a) (select_calls_at f thunk a)
      (λ i j. ap (selected f thunk (i, j)) (lookup-row_of a i j))
      (λ i j. ap (apply_calls f (Some thunk) (i, j)) (lookup-row_of a i j)) region made

  module _ (b : Grid) where
    joint_calls_are : (i j : ℕ) → joint_calls f (at (row_of a i) j) (at (row_of b i) j) ≡ joint_calls_at f a b (i, j)
    joint_calls_are i j = ap (λ x. joint_calls f x (at (row_of b i) j)) (lookup-row_of a i j)
        ∙ ap (joint_calls f (get a.cells (i, j))) (lookup-row_of b i j)

    pub union_is : IsFormMade Union f a (Some b) (mask_of region.mask) region.range.start (region.range.end - region.range.start)
        made
        → IsPartOf a.columns (union_at f a b) (joint_calls_at f a b) region made
    union_is = part_is Union f a (Some b) (union_at f a b) (joint_calls_at f a b)
        (λ i j. ap (λ x. united f x (at (row_of b i) j)) (lookup-row_of a i j)
        ∙ ap (united f (get a.cells (i, j))) (lookup-row_of b i j)) joint_calls_are region made

    pub both_is : IsFormMade Both f a (Some b) (mask_of region.mask) region.range.start (region.range.end - region.range.start) made
        → IsPartOf a.columns (both_at f a b) (joint_calls_at f a b) region made
    both_is = part_is Both f a (Some b) (both_at f a b) (joint_calls_at f a b)
        (λ i j. ap (λ x. joint f x (at (row_of b i) j)) (lookup-row_of a i j)
        ∙ ap (joint f (get a.cells (i, j))) (lookup-row_of b i j)) joint_calls_are region made
