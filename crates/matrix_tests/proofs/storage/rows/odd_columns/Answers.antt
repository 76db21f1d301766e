use Rattle.std.proofs.Common.{ℕ, ◌≡◌, ◌≤◌, ◌+◌, ◌-◌, ◌∙◌, length, ap, arith, length-append}
use Rattle.csr_store.specs.Grid.{Grid, row_of}
use Rattle.csr_store.specs.Along.{along}
use Rattle.csr_store.proofs.Along.{along-snoc}
use Rattle.matrix_tests.proofs.storage.rows.odd_columns.Goals as goal

-- as many cells as before row i, and those of row i
one_row_more : (g : Grid) (from i : ℕ) → from ≤ i
    → length (along (row_of g) from (i + 1 - from)) ≡ length (along (row_of g) from (i - from)) + length (row_of g i)
one_row_more g from i l =
    let m : i + 1 - from ≡ i - from + 1 = omega (arith, l) in
    let k : from + (i - from) ≡ i = omega (arith, l) in
    ap (λ n. length (along (row_of g) from n)) m
    ∙ ap length (along-snoc (row_of g) from (i - from))
    ∙ length-append (along (row_of g) from (i - from)) (row_of g (from + (i - from)))
    ∙ ap (λ j. length (along (row_of g) from (i - from)) + length (row_of g j)) k

pub loop-row-preserved : goal.loop-row-preserved
loop-row-preserved c =
    let a = c.in_ok-push_answers.ensures.many in
    let r = ap length c.row.ensures in
    let h = c.loop-row.invariant in
    let n = one_row_more c.args.matrix.now c.args.from c.loop-row.row c.loop-row.auto.row in
    omega (arith, a, r, h, n)
