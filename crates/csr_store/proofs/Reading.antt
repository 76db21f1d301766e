-- Rows that are read one after the other.
use Rattle.std.proofs.Common.{◌≡◌, ◌≤◌, ◌<◌, ◌+◌, ◌-◌, ℕ, List, ◌++◌, length, take, drop, slice_index_or, ap, ◌∙◌, arith, length-append}
use Rattle.std.proofs.Math.Seq.{take-append_seam, drop-append_seam}
use Rattle.csr_store.specs.Along.{along}
use Rattle.csr_store.specs.Grid.{Grid, row_of, row_start}
use Rattle.csr_store.specs.Run.{Row}
use Rattle.csr_store.proofs.Along.{along-next}
use Rattle.csr_store.specs.inner.Starts.{starts_of}
use Rattle.csr_store.proofs.ByRow.{row_start-next}
use Rattle.csr_store.proofs.Starting.{start_at, start_rises}

-- where a row and the next start
module _ (g : Grid) (starts : List ℕ) (i : ℕ) (is : starts ≡ starts_of g) (l : i + 1 ≤ g.rows) where
  pub step_up : slice_index_or starts i 0 ≤ slice_index_or starts (i + 1) 0
  step_up =
      let a = start_at g starts i is (omega (arith, l)) in let b = start_at g starts (i + 1) is l in let r = start_rises g i (i + 1) (omega arith) in
      omega (arith, a, b, r)

  pub step_size : slice_index_or starts (i + 1) 0 - slice_index_or starts i 0 + row_start g i ≡ row_start g (i + 1)
  step_size =
      let a = start_at g starts i is (omega (arith, l)) in let b = start_at g starts (i + 1) is l in let r = start_rises g i (i + 1) (omega arith) in
      omega (arith, a, b, r)

module _ (g : Grid) (i end many : ℕ) (cells : Row) (is : cells ≡ along (row_of g) i (end - i)) (l : i < end) (m : many + row_start g i ≡ row_start g (i + 1)) where
  parts : cells ≡ row_of g i ++ along (row_of g) (i + 1) (end - (i + 1))
  parts = is ∙ along-next (row_of g) i end l

  size : many ≡ length (row_of g i)
  size = let s = row_start-next g i in omega (arith, s, m)

  -- the row is there
  pub row_there : many ≤ length cells
  row_there = let p = ap length parts in let a = length-append (row_of g i) (along (row_of g) (i + 1) (end - (i + 1))) in let s = size in omega (arith, p, a, s)

  pub row_read : (row : Row) → row ≡ take many cells → row ≡ row_of g i
  row_read row e =
      e ∙ (ap (λ n. take n cells) size ∙ (ap (take (length (row_of g i))) parts ∙ take-append_seam (row_of g i) (along (row_of g) (i + 1) (end - (i + 1)))))

  pub rows_left : (later : Row) → later ≡ drop many cells → later ≡ along (row_of g) (i + 1) (end - (i + 1))
  rows_left later e =
      e ∙ (ap (λ n. drop n cells) size ∙ (ap (drop (length (row_of g i))) parts ∙ drop-append_seam (row_of g i) (along (row_of g) (i + 1) (end - (i + 1)))))
