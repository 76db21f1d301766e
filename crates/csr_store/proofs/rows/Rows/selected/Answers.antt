use Rattle.std.proofs.Common.{[], ap, sym, subst, ◌∙◌, arith, length, vec_capacity}
use Rattle.csr_store.specs.Grid.{Grid, row_of}
use Rattle.csr_store.specs.Reading.{Reading}
use Rattle.csr_store.proofs.Keeping.{AreRowsKept, row_there, row_fits, rows_kept_more}
use Rattle.csr_store.proofs.rows.Rows.selected.Goals as goal

pub next_row-here-requires : goal.next_row-here-requires
next_row-here-requires c =
    let t = c.loop-reader-test.true in let r = c.row.ensures in let w = c.requires.within in
    let g = ap (λ (g : Grid). g.rows) c.loop-reader.invariant.of in
    omega (arith, t, r, w, g)

pub split_at-requires : goal.split_at-requires
split_at-requires c =
    let l = c.loop-reader-test.true in let r = c.row.ensures in
    let t = row_there c.args.a.now c.loop-reader.reader.row c.args.range.end c.loop-reader.left.now (omega (arith, l, r)) c.loop-reader.invariant.selected.many in
    let e = ap length (c.next_row-here.ensures.row ∙ ap (λ (g : Grid). row_of g c.loop-reader.reader.row) c.loop-reader.invariant.of) in
    omega (arith, t, e)

pub add_where-requires : goal.add_where-requires
add_where-requires c =
    let l = c.loop-reader-test.true in let r = c.row.ensures in
    row_fits c.args.a.now c.args.range.start c.args.range.end c.args.answers.now _ c.loop-reader.reader.row c.loop-reader.left.now _ _ _ _
    c.loop-reader.invariant.selected (omega (arith, l, r)) c.recall.ensures c.next_row-here.result.now
    (c.next_row-here.ensures.row ∙ ap (λ (g : Grid). row_of g c.loop-reader.reader.row) c.loop-reader.invariant.of)
    c.split_at.result.0.now c.split_at.result.1.now c.split_at.ensures.front c.split_at.ensures.back

pub loop-reader-preserved : goal.loop-reader-preserved
loop-reader-preserved c =
    let l = c.loop-reader-test.true in let r = c.row.ensures in
    record {
      of = ap (λ (q : Reading). q.grid) c.next_row-here.ensures.next ∙ c.loop-reader.invariant.of;
      selected = subst (λ (q : Reading). AreRowsKept c.args.a.now c.args.range.start c.args.range.end c.args.answers.now
          [] q.row c.split_at.result.1.now c.push_reserved.new.self.items
          c.add_where.new.selected.items (vec_capacity c.add_where.new.selected) (vec_capacity c.push_reserved.new.self)) (sym c.next_row-here.ensures.next)
          (rows_kept_more c.args.a.now c.args.range.start c.args.range.end c.args.answers.now _ c.loop-reader.reader.row c.loop-reader.left.now _ _ _ _
          c.loop-reader.invariant.selected (omega (arith, l, r)) c.recall.ensures c.next_row-here.result.now
          (c.next_row-here.ensures.row ∙ ap (λ (g : Grid). row_of g c.loop-reader.reader.row) c.loop-reader.invariant.of)
          c.split_at.result.0.now c.split_at.result.1.now c.split_at.ensures.front c.split_at.ensures.back
          c.add_where.new.selected.items c.add_where.ensures.added c.add_where.ensures.words c.len.result (c.len.ensures ∙ c.add_where.new.selected.ok.0) c.push_reserved.new.self.items c.push_reserved.ensures.items
          _ _ c.add_where.ensures.capacity (let p = c.push_reserved.ensures.capacity in omega (arith, p)));
    }
