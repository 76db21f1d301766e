use Rattle.std.proofs.Common.{◌≡◌, ◌≤◌, ◌+◌, ℕ, if◌then◌else◌, ◌∷◌, [], Option, ap, ◌∙◌, refl, arith, rules}
use Rattle.csr_store.specs.Grid.{Grid, row_of}
use Rattle.csr_store.specs.Reading.{Reading}
use Rattle.csr_store.specs.Run.{Row}
use Rattle.csr_store.specs.Mask.{mask_of, passes}
use Rattle.bpf_run.proofs.Charging.{charges-none}
use Rattle.entry_ops.proofs.Standing.{on_err}
use Rattle.entry_ops.proofs.InOrder.{one-steps, one-result}
use Rattle.entry_ops.proofs.Reducing.{reducing-start, reducing-room, reducing-step, reducing-stop, reducing-end}
use Rattle.entry_ops.proofs.in_order.fill_in_order.Goals as goal

-- a row that was read is folded, if it shows
seen : (a : Grid) (mask : Option Grid) (i : ℕ) (reader : Reading) (cells shown : Row) → reader ≡ record { grid = a; row = i }
    → cells ≡ row_of reader.grid reader.row → shown ≡ (if passes mask (i, 0) then cells else [])
    → shown ≡ (if passes mask (i, 0) then row_of a i else [])
seen a mask i reader cells shown reads row is =
    is ∙ ap (λ (cs : Row). if passes mask (i, 0) then cs else []) (row ∙ ap (λ (r : Reading). row_of r.grid r.row) reads)

pub rows_from-reader-requires : goal.rows_from-reader-requires
rows_from-reader-requires c =
    let r = c.requires.region_is.range in
    let w = c.requires.region_is.within in omega (arith, r, w)

pub next_row-cells-requires : goal.next_row-cells-requires
next_row-cells-requires c =
    let i = ap (λ (r : Reading). r.row) c.loop-row.invariant.reads in
    let g = ap (λ (r : Reading). r.grid.rows) c.loop-row.invariant.reads in
    let t = c.loop-row-test.true in
    let w = c.requires.region_is.within in omega (arith, i, g, t, w)

pub returns-in_err-reserve_rows : goal.returns-in_err-reserve_rows
returns-in_err-reserve_rows c = record {
  rows = search rules;
  steps = search rules;
  spent = on_err c.from_residual.result (charges-none _ _);
}

pub returns-in_err-reserve : goal.returns-in_err-reserve
returns-in_err-reserve c = record {
  rows = search rules;
  steps = search rules;
  spent = on_err c.from_residual-in_err-reserve.result (charges-none _ _);
}

pub loop-row-init : goal.loop-row-init
loop-row-init c = record {
  reads = c.rows_from-reader.ensures;
  reducing = reducing-start c.args.operator.now c.args.a.now (mask_of c.args.region.mask) c.args.region.range.start c.args.region.range.end
      c.args.making.now _ c.requires.region_is.range c.requires.begun (c.reserve.ensures ∙ c.reserve_rows.ensures) refl;
}

pub fold_row-folded-requires-clause-capacity : goal.fold_row-folded-requires-clause-capacity
fold_row-folded-requires-clause-capacity c =
    let within : c.loop-row.row + 1 ≤ c.args.region.range.end = let t = c.loop-row-test.true in omega (arith, t) in
    let capacity = reducing-room _ _ _ _ _ _ _ _ c.loop-row.invariant.reducing 1 within c.requires.begun c.requires.capacity in
    let one = one-steps c.args.operator.now c.args.a.now (mask_of c.args.region.mask) c.loop-row.row c.shown.result.now
    (seen c.args.a.now (mask_of c.args.region.mask) c.loop-row.row c.loop-row.reader _ _ c.loop-row.invariant.reads c.next_row-cells.ensures.row c.shown.ensures) in
    omega (arith, capacity, one)

pub overflow_add-making : goal.overflow_add-making
overflow_add-making c =
    let within : c.loop-row.row + 1 ≤ c.args.region.range.end = let t = c.loop-row-test.true in omega (arith, t) in
    let capacity = reducing-room _ _ _ _ _ _ _ _ c.loop-row.invariant.reducing 1 within c.requires.begun c.requires.capacity in
    let one = one-steps c.args.operator.now c.args.a.now (mask_of c.args.region.mask) c.loop-row.row c.shown.result.now
    (seen c.args.a.now (mask_of c.args.region.mask) c.loop-row.row c.loop-row.reader _ _ c.loop-row.invariant.reads c.next_row-cells.ensures.row c.shown.ensures) in
    let made = c.fold_row-folded.ensures.steps in
    omega (arith, capacity, one, made)

pub returns-in_err-add_row : goal.returns-in_err-add_row
returns-in_err-add_row c =
    let within : c.loop-row.row + 1 ≤ c.args.region.range.end = let t = c.loop-row-test.true in omega (arith, t) in
    let one = one-steps c.args.operator.now c.args.a.now (mask_of c.args.region.mask) c.loop-row.row c.shown.result.now
    (seen c.args.a.now (mask_of c.args.region.mask) c.loop-row.row c.loop-row.reader _ _ c.loop-row.invariant.reads c.next_row-cells.ensures.row c.shown.ensures) in
    let made = c.fold_row-folded.ensures.steps in
    record {
      rows = search rules;
      steps = search rules;
      spent = on_err c.from_residual-in_err-add_row.result
          (reducing-stop _ _ _ _ _ _ _ _
          c.loop-row.invariant.reducing 1 within
          (c.loop-row.making.steps + c.fold_row-folded.result.steps) (omega (arith, one, made)));
    }

pub loop-row-preserved : goal.loop-row-preserved
loop-row-preserved c =
    let within : c.loop-row.row + 1 ≤ c.args.region.range.end = let t = c.loop-row-test.true in omega (arith, t) in
    let one = one-steps c.args.operator.now c.args.a.now (mask_of c.args.region.mask) c.loop-row.row c.shown.result.now
    (seen c.args.a.now (mask_of c.args.region.mask) c.loop-row.row c.loop-row.reader _ _ c.loop-row.invariant.reads c.next_row-cells.ensures.row c.shown.ensures) in
    let made = c.fold_row-folded.ensures.steps in
    record {
      reads = c.next_row-cells.ensures.next ∙ ap (λ (r : Reading). record r { row = r.row + 1 }) c.loop-row.invariant.reads;
      reducing = reducing-step _ _ _ _ _ _ _ _ c.loop-row.invariant.reducing 1 within
          (c.loop-row.making.steps + c.fold_row-folded.result.steps) (omega (arith, one, made)) (c.fold_row-folded.result.value ∷ [])
          (one-result c.args.operator.now c.args.a.now (mask_of c.args.region.mask) c.loop-row.row c.shown.result.now
          (seen c.args.a.now (mask_of c.args.region.mask) c.loop-row.row c.loop-row.reader _ _ c.loop-row.invariant.reads c.next_row-cells.ensures.row c.shown.ensures)
          c.fold_row-folded.result.value c.fold_row-folded.ensures.value)
          c.add_row.new.rows c.in_ok-add_row.ensures;
    }

pub returns : goal.returns
returns c = reducing-end _ _ _ _ _ _ _ _ c.loop-row.invariant.reducing (let t = c.loop-row-test.false in omega (arith, t)) _
