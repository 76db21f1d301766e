use Rattle.std.proofs.Common.{◌≡◌, ◌≤◌, ◌+◌, drop}
use Rattle.csr_store.specs.inner.Selected.{kept_count}
use Rattle.csr_store.proofs.selected.count_selected.Given as goal

abbrev pub invariant-loop-answer : goal.invariant-loop-answer
invariant-loop-answer l = record {
  counted : l.selected + kept_count (drop l.answer-index l.answers) ≡ kept_count l.answers;
  few : l.selected ≤ l.answer-index;
}
