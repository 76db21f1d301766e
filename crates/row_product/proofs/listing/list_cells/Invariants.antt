use Rattle.std.proofs.Common.{ℕ, ◌≡◌, ◌≤◌, ◌+◌, ◌*◌, ◌++◌, length, drop, vec_capacity}
use Rattle.bpf_run.specs.Calls.{steps_of, calls_on, pairs_with}
use Rattle.csr_store.specs.Mask.{mask_of, passes}
use Rattle.row_product.specs.inner.Adding.{taking}
use Rattle.row_product.specs.inner.Single.{multiplied}
use Rattle.row_product.proofs.listing.list_cells.Given as goal

abbrev pub invariant-loop-cell : goal.invariant-loop-cell
invariant-loop-cell g l =
    let t = λ (j : ℕ). passes (mask_of l.mask) (l.i, j) in
    let rest = taking t (drop l.cell-index l.cells) in
    let all = taking t l.cells in
    record {
      made : l.listed.items ++ multiplied l.mul l.x rest ≡ l.fn.listed.items ++ multiplied l.mul l.x all;
      counted : l.steps + steps_of (calls_on l.mul (pairs_with l.x rest)) ≡ steps_of (calls_on l.mul (pairs_with l.x all));
      few : l.steps ≤ 4096 * l.cell-index;
      long : length l.listed.items ≤ length l.fn.listed.items + l.cell-index;
      capacity : vec_capacity l.listed ≡ vec_capacity l.fn.listed;
    }
