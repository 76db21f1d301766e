use Rattle.std.proofs.Common.{◌≡◌, ◌≤◌, ◌+◌, ◌*◌, ◌++◌, length, drop, vec_capacity}
use Rattle.bpf_run.specs.Calls.{steps_of}
use Rattle.job_forms.specs.Product.{mults_of}
use Rattle.row_product.specs.inner.SortedAccumulator.{listed_terms, listed_calls, passing}
use Rattle.row_product.proofs.listing.list_rows.Given as goal

abbrev pub invariant-loop-nth : goal.invariant-loop-nth
invariant-loop-nth g l =
    let b = l.naming.b.now in
    let t = passing l.naming in
    let rest = drop l.nth l.naming.row.now in
    let all = l.naming.row.now in
    record {
      made : l.listed.items ++ listed_terms l.mul b t rest ≡ l.fn.listed.items ++ listed_terms l.mul b t all;
      counted : l.steps + steps_of (listed_calls l.mul b t rest) ≡ steps_of (listed_calls l.mul b t all);
      little : l.steps + 4096 * mults_of b rest ≤ 4096 * mults_of b all;
      long : length l.listed.items + mults_of b rest ≤ length l.fn.listed.items + mults_of b all;
      capacity : vec_capacity l.listed ≡ vec_capacity l.fn.listed;
    }
