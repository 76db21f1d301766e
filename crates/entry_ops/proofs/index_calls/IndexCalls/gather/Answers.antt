use Rattle.std.proofs.Common.{◌-◌, ◌++◌, ◌∙◌, ap, sym, rules, arith}
use Rattle.bpf_run.specs.Calls.{Gathered, entries_of}
use Rattle.entry_ops.proofs.Mapped.{parts}
use Rattle.entry_ops.specs.inner.IndexCalls.{entries_up_to}
use Rattle.entry_ops.proofs.IndexCalls.{index_calls-parts, gathered-more, read-next}
use Rattle.entry_ops.proofs.index_calls.IndexCalls.gather.Goals as goal

pub loop-left-preserved : goal.loop-left-preserved
loop-left-preserved c =
    let i = c.loop-left.invariant in let s = c.loop-left.self-inside in let at = c.row-row.ensures in let below = c.if-row-self.false in
    let here = entries_of c.loop-left.row s.thunk c.loop-left.left.now in let cells = c.next_row-left.result.now in
    record {
      kind = search rules;
      parts = gathered-more _ _ _ here _ _ i.parts (ap (λ (g : Gathered). g.operands) c.gather_entries.ensures)
          (ap (λ os. here ++ os)
          (read-next s.end s.thunk s.reader c.next_row-left.new.self cells (omega (arith, below, at)) c.next_row-left.ensures.row c.next_row-left.ensures.next
          ∙ ap (λ k. entries_of k s.thunk cells ++ entries_up_to s.end s.thunk c.next_row-left.new.self) (sym at)));
      rows = search rules;
    }

pub returns-clause-gathers : goal.returns-clause-gathers
returns-clause-gathers c =
    let i = c.loop-left.invariant in let s = c.loop-left.self-inside in
    record {
      kind = search rules;
      parts = gathered-more _ _ _ (entries_of c.loop-left.row s.thunk c.split_at.result.0.now) _ _ i.parts
          (ap (λ (g : Gathered). g.operands) c.gather_entries-2.ensures)
          (index_calls-parts s.reader.grid s.thunk s.end c.loop-left.row s.reader.row c.loop-left.left.now c.split_at.result.0.now c.split_at.result.1.now
          (parts (64 - c.len-2.result) c.loop-left.left.now c.split_at.result.0.now c.split_at.result.1.now
          c.split_at.ensures.front c.split_at.ensures.back));
      over = search rules;
    }
