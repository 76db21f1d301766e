use Rattle.std.proofs.Common.{◌≡◌, ◌≤◌, ◌-◌, drop}
use Rattle.csr_store.specs.Valued.{all_cells, entries_of}
use Rattle.bpf_run.specs.Calls.{words_of}
use Rattle.entry_ops.proofs.Mapped.{IsMapping}
use Rattle.entry_ops.proofs.Applying.{calling}
use Rattle.entry_ops.proofs.shown.call_words.Given as goal

abbrev pub invariant-loop-written : goal.invariant-loop-written
invariant-loop-written l = record {
  mapping : IsMapping l.operator (words_of (all_cells l.fn.rows)) (calling l.fn.rows 0 0) (words_of (drop l.written (all_cells l.rows)))
      (calling l.rows l.written l.steps);
  many : entries_of l.rows ≡ entries_of l.fn.rows;
  within : l.written ≤ l.entries;
}

abbrev pub decreases-loop-written : goal.decreases-loop-written
decreases-loop-written l = l.entries - l.written
