use Rattle.std.proofs.Common.{◌≡◌, ◌≤◌, ◌+◌, ◌*◌, ◌++◌, length, drop, vec_capacity}
use Rattle.bpf_run.specs.Calls.{steps_of}
use Rattle.row_product.specs.inner.SortedAccumulator.{picked, folded_on, folded_calls_on}
use Rattle.row_product.proofs.folding.fold_behind.Given as goal

abbrev pub invariant-loop-key : goal.invariant-loop-key
invariant-loop-key g l =
    let rest = picked l.further.listed.now (drop l.key-index l.further.keys.now) in
    let all = picked l.further.listed.now l.further.keys.now in
    record {
      made : l.sums.items ++ folded_on l.add l.so_far rest ≡ l.fn.sums.items ++ folded_on l.add l.fn.first all;
      counted : l.steps + steps_of (folded_calls_on l.add l.so_far rest) ≡ steps_of (folded_calls_on l.add l.fn.first all);
      few : l.steps ≤ 4096 * l.key-index;
      long : length l.sums.items ≤ length l.fn.sums.items + l.key-index;
      capacity : vec_capacity l.sums ≡ vec_capacity l.fn.sums;
    }
