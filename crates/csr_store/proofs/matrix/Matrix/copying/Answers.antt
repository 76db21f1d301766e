use Rattle.std.proofs.Common.{◌≡◌, ◌≤◌, ◌<◌, ◌+◌, ◌-◌, ◌^◌, ◌++◌, ℕ, List, length, map, take, drop, get_or, sym, ap, ◌∙◌, arith}
use Rattle.csr_store.specs.Grid.{Grid, Cell, row_of}
use Rattle.csr_store.specs.Along.{along}
use Rattle.csr_store.specs.Run.{Run}
use Rattle.csr_store.specs.Copied.{Copied}
use Rattle.csr_store.specs.Valued.{rows_of}
use Rattle.csr_store.specs.inner.Cells.{joined_cells}
use Rattle.csr_store.specs.inner.Moved.{moved}
use Rattle.csr_store.specs.ByRows.{ends_of}
use Rattle.csr_store.proofs.Filling.{sorted_entries}
use Rattle.csr_store.proofs.Copies.{copied_are, copied_run, ends_are, ends_at, cells_at, cells_along, start}
use Rattle.csr_store.proofs.matrix.Matrix.copying.Goals as goal
use Rattle.csr_store.proofs.matrix.Matrix.copying.Goals.{In_ok-written}

-- what was read of the matrix
module _ (c : In_ok-written) where
  abbrev rows : ℕ
  rows = c.self.inside.rows

  abbrev columns : ℕ
  columns = c.self.inside.columns

  abbrev starts : List ℕ
  starts = c.self.inside.starts

  abbrev cells : List Cell
  cells = joined_cells c.self.inside.cells

  abbrev first : ℕ
  first = c.args.range.start

  abbrev count : ℕ
  count = c.args.range.end - c.args.range.start

  inside : first + count ≤ rows
  inside =
      let r = ap (λ (g : Grid). g.rows) c.self.view_is in let a = c.requires.range in let w = c.requires.within in
      omega (arith, r, a, w)

  source_is : c.cells_of-source.result.now ≡ cells_at rows columns starts cells c.self.invariant.1 first count
  source_is =
      c.cells_of-source.ensures
      ∙ sym (cells_along rows columns starts cells c.self.invariant.1 first count inside
      ∙ ap (λ (g : Grid). along (row_of g) first count) c.self.view_is)

  few : length cells < 2 ^ 64
  few =
      let h = c.self.invariant.1 in let g = c.self.invariant.0.entries_small in
      let n = sorted_entries (ends_of starts) cells h.within h.ascending in
      omega (arith, g, n)

  ends_moved : c.push_moved.new.list.items
      ≡ ends_at rows columns starts cells c.self.invariant.1 (start rows columns starts cells c.self.invariant.1 first) first count
  ends_moved =
      let base : get_or c.list-starts.result.now first 0 ≡ get_or starts first 0 = ap (λ ss. get_or ss first 0) c.list-starts.ensures in
      let a = c.requires.range in let l = inside in
      let read = take (c.args.range.end + 1 - (first + 1)) (drop (first + 1) c.list-starts.result.now) in
      c.in_ok-push_moved.ensures
      ∙ (ap (λ (es : List ℕ). es ++ map (moved c.wrapping_neg.result) read) c.in_ok-ends.ensures.items
      ∙ ends_are rows columns starts cells c.self.invariant.1 c.wrapping_neg.result _ first c.args.range.end c.list-starts.result.now
      c.wrapping_neg.ensures base c.list-starts.ensures a (omega (arith, a, l)) few)

pub of_ends-requires-clause-rows : goal.of_ends-requires-clause-rows
of_ends-requires-clause-rows c =
    copied_are (rows c) (columns c) (starts c) (cells c) c.self.invariant.1 c.self.invariant.0 (first c) (count c)
    c.push_moved.new.list.items c.cells_of-source.result.now (inside c) (ends_moved c) (source_is c)

pub returns : goal.returns
returns c =
    c.of_ends.ensures
    ∙ ap (λ (q : Run). let d : Copied = record { run = q; written = 0 } in d)
    (copied_run (rows c.before) (columns c.before) (starts c.before) (cells c.before) c.self.invariant.1 (first c.before) (count c.before)
    c.push_moved.new.list.items c.cells_of-source.result.now (inside c.before) (ends_moved c.before) (source_is c.before)
    ∙ ap (λ (g : Grid). rows_of g (first c.before) (count c.before)) c.self.view_is)
