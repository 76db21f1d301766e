use Rattle.std.proofs.Common.{◌≡◌, ◌+◌, ◌-◌, sym, ap, ◌∙◌, subst, arith}
use Rattle.csr_store.specs.Along.{along}
use Rattle.csr_store.specs.Grid.{row_of}
use Rattle.csr_store.specs.Reading.{Reading}
use Rattle.csr_store.proofs.Starting.{start_inside}
use Rattle.csr_store.proofs.Reading.{step_up, step_size, row_there, row_read, rows_left}
use Rattle.csr_store.proofs.reader.RowReader.next_row.Goals as goal

pub bounds-starts-nth : goal.bounds-starts-nth
bounds-starts-nth c =
    let r = ap (λ (q : Reading). q.grid.rows) c.self.view_is in let i = ap (λ (q : Reading). q.row) c.self.view_is in let l = c.requires in
    start_inside c.self.inside.matrix.now c.self.inside.starts.now (c.self.inside.row + 1) c.self.invariant.0 (omega (arith, r, i, l))

pub bounds-starts-nth-2 : goal.bounds-starts-nth-2
bounds-starts-nth-2 c =
    let r = ap (λ (q : Reading). q.grid.rows) c.self.view_is in let i = ap (λ (q : Reading). q.row) c.self.view_is in let l = c.requires in
    start_inside c.self.inside.matrix.now c.self.inside.starts.now c.self.inside.row c.self.invariant.0 (omega (arith, r, i, l))

pub offset_bounds-starts-nth : goal.offset_bounds-starts-nth
offset_bounds-starts-nth c =
    let r = ap (λ (q : Reading). q.grid.rows) c.self.view_is in let i = ap (λ (q : Reading). q.row) c.self.view_is in let l = c.requires in
    let few = c.self.invariant.1 in
    omega (arith, r, i, l, few)

pub offset_bounds-starts-nth-2 : goal.offset_bounds-starts-nth-2
offset_bounds-starts-nth-2 c =
    let r = ap (λ (q : Reading). q.grid.rows) c.self.view_is in let i = ap (λ (q : Reading). q.row) c.self.view_is in let l = c.requires in
    let few = c.self.invariant.1 in
    omega (arith, r, i, l, few)

pub overflow_sub-many : goal.overflow_sub-many
overflow_sub-many c =
    let r = ap (λ (q : Reading). q.grid.rows) c.self.view_is in let i = ap (λ (q : Reading). q.row) c.self.view_is in let l = c.requires in
    step_up c.self.inside.matrix.now c.self.inside.starts.now c.self.inside.row c.self.invariant.0 (omega (arith, r, i, l))

pub split_at-requires : goal.split_at-requires
split_at-requires c =
    let r = ap (λ (q : Reading). q.grid.rows) c.self.view_is in let i = ap (λ (q : Reading). q.row) c.self.view_is in let l = c.requires in
    let e = c.list-end.ensures.end.0 in
    row_there c.self.inside.matrix.now c.self.inside.row c.list-end.result.1 _ c.list-end.result.0.now
    (subst (λ (q : Reading). c.list-end.result.0.now ≡ along (row_of q.grid) q.row (c.list-end.result.1 - q.row)) (sym c.self.view_is) c.list-end.ensures.cells)
    (omega (arith, i, e))
    (step_size c.self.inside.matrix.now c.self.inside.starts.now c.self.inside.row c.self.invariant.0 (omega (arith, r, i, l)))

pub invariant_of-self : goal.invariant_of-self
invariant_of-self c =
    let r = ap (λ (q : Reading). q.grid.rows) c.self.view_is in let i = ap (λ (q : Reading). q.row) c.self.view_is in let l = c.requires in
    let e = c.list-end.ensures.end.0 in let w = c.list-end.ensures.end.1 in (
      c.self.invariant.0,
      c.self.invariant.1,
      omega (arith, i, e),
      omega (arith, r, w),
      rows_left c.self.inside.matrix.now c.self.inside.row c.list-end.result.1 _ c.list-end.result.0.now
          (subst (λ (q : Reading). c.list-end.result.0.now ≡ along (row_of q.grid) q.row (c.list-end.result.1 - q.row)) (sym c.self.view_is) c.list-end.ensures.cells)
          (omega (arith, i, e))
          (step_size c.self.inside.matrix.now c.self.inside.starts.now c.self.inside.row c.self.invariant.0 (omega (arith, r, i, l)))
          c.split_at.result.1.now c.split_at.ensures.back,
    )

pub returns-clause-row : goal.returns-clause-row
returns-clause-row c =
    let r = ap (λ (q : Reading). q.grid.rows) c.self.view_is in let i = ap (λ (q : Reading). q.row) c.self.view_is in let l = c.requires in
    let e = c.list-end.ensures.end.0 in
    row_read c.self.inside.matrix.now c.self.inside.row c.list-end.result.1 _ c.list-end.result.0.now
    (subst (λ (q : Reading). c.list-end.result.0.now ≡ along (row_of q.grid) q.row (c.list-end.result.1 - q.row)) (sym c.self.view_is) c.list-end.ensures.cells)
    (omega (arith, i, e))
    (step_size c.self.inside.matrix.now c.self.inside.starts.now c.self.inside.row c.self.invariant.0 (omega (arith, r, i, l)))
    c.split_at.result.0.now c.split_at.ensures.front
    ∙ ap (λ (q : Reading). row_of q.grid q.row) c.self.view_is
