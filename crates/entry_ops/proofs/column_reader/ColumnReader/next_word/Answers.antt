use Rattle.std.proofs.Common.{◌<◌, ◌+◌, ◌∙◌, ap, arith, refl, sym, slice_index_or, not, nat_eq}
use Rattle.csr_store.proofs.Starting.{start_at, start_inside}
use Rattle.entry_ops.specs.inner.ColumnPairs.{ColumnReading, word_in}
use Rattle.entry_ops.proofs.ColumnPairs.{IsNextWord, next_word}
use Rattle.entry_ops.proofs.column_reader.ColumnReader.next_word.Goals as goal

ends : (c : goal.After-way_told-1) → c.self.inside.row < c.self.inside.end
ends c =
    let l = c.requires in
    let r = ap (λ (q : ColumnReading). q.row) c.self.view_is in
    let e = ap (λ (q : ColumnReading). q.end) c.self.view_is in
    omega (arith, l, r, e)

pub bounds-self-inside-nth : goal.bounds-self-inside-nth
bounds-self-inside-nth c =
    let i = c.self.invariant in
    let w = i.4 in
    let l = ends c in
    start_inside c.self.inside.matrix.now c.self.inside.starts.now (c.self.inside.row + 1) i.2 (omega (arith, l, w))

pub bounds-self-inside-nth-2 : goal.bounds-self-inside-nth-2
bounds-self-inside-nth-2 c =
    let i = c.self.invariant in
    let w = i.4 in
    let l = c.requires in
    let r = ap (λ (q : ColumnReading). q.row) c.self.view_is in
    let e = ap (λ (q : ColumnReading). q.end) c.self.view_is in
    start_inside c.self.inside.matrix.now c.self.inside.starts.now c.self.inside.row i.2 (omega (arith, l, r, e, w))

next : (c : goal.After-self-2-1) → IsNextWord c.self.inside.matrix.now c.self.inside.cells.now c.self.inside.read c.self.inside.row
    c.self.inside.end c.word_at-word.result
    (not (nat_eq (slice_index_or c.self.inside.starts.now (c.self.inside.row + 1) 0) (slice_index_or c.self.inside.starts.now c.self.inside.row 0)))
next c =
    let s = c.self.inside in
    let g = s.matrix.now in
    let i = c.self.invariant in
    let w = i.4 in
    let l = c.requires in
    let r = ap (λ (q : ColumnReading). q.row) c.self.view_is in
    let e = ap (λ (q : ColumnReading). q.end) c.self.view_is in
    let from = start_at g s.starts.now s.row i.2 (omega (arith, l, r, e, w)) in
    let to = start_at g s.starts.now (s.row + 1) i.2 (omega (arith, l, r, e, w)) in
    next_word g i.0 i.1 s.cells.now s.read s.row s.end c.word_at-word.result (omega (arith, l, r, e)) i.5 i.6 (0, 0)
    c.word_at-word.ensures _ (rw (from, to) refl)

pub invariant_of-self : goal.invariant_of-self
invariant_of-self c =
    let s = c.self.inside in
    let i = c.self.invariant in
    let n = next c in
    let l = c.requires in
    let r = ap (λ (q : ColumnReading). q.row) c.self.view_is in
    let e = ap (λ (q : ColumnReading). q.end) c.self.view_is in
    rw c.from.ensures (i.0, i.1, i.2, omega (arith, l, r, e), i.4, n.more, n.rest)

pub returns-clause-word : goal.returns-clause-word
returns-clause-word c = ap (λ (q : ColumnReading). word_in q.grid q.row) (sym c.self.view_is) ∙ (next c).word_is
