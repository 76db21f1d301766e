use Rattle.std.proofs.Common.{arith, ◌∙◌}
use Rattle.csr_store.proofs.OneEach.{each_more}
use Rattle.csr_store.proofs.rows.Rows.selected_each.Goals as goal

pub loop-column-preserved : goal.loop-column-preserved
loop-column-preserved c =
    each_more c.args.a.now c.args.range.start c.args.range.end c.args.cells.now c.requires.each c.args.answers.now c.requires.answers
    c.loop-column.column-index c.loop-column.next c.loop-column.ends.items c.loop-column.selected.items _ _ c.loop-column.invariant
    c.loop-column-test.true c.recall.ensures (0, 0) c.push_if.new.selected.items c.push_if.ensures.added c.push_if.ensures.word
    c.len.result (c.len.ensures ∙ c.push_if.new.selected.ok.0) c.push_reserved.new.self.items c.push_reserved.ensures.items
    _ _ c.push_if.ensures.capacity (let p = c.push_reserved.ensures.capacity in omega (arith, p))
