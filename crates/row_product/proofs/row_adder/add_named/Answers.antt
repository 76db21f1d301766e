use Rattle.std.proofs.Common.{◌<◌, ◌+◌, List, length, drop, get_or, ap, ◌∙◌, refl, arith}
use Rattle.std.proofs.lemmas.List.{drop_more, drop_all}
use Rattle.bpf_run.specs.Calls.{steps_of}
use Rattle.csr_store.specs.Along.{along}
use Rattle.csr_store.specs.Grid.{Cell, row_of}
use Rattle.csr_store.proofs.ByRow.{cell_inside}
use Rattle.job_forms.proofs.Counting.{row_few}
use Rattle.row_product.specs.inner.Progress.{stands}
use Rattle.row_product.specs.inner.Sums.{slot, takes, seen, after, extra}
use Rattle.row_product.proofs.Gathering.{gathering_start, gathering_step, gathering_end}
use Rattle.row_product.proofs.row_adder.add_named.Goals as goal
use Rattle.std.specs.FinMap as fin

pub loop-k-init : goal.loop-k-init
loop-k-init g c = record {
  gathering = gathering_start c.args.factors.now.add.now c.args.factors.now.mul.now c.args.factors.now.b.now
      c.args.factors.now.b.now.columns (takes c.args.masked c.args.progress.now.allowed.items) (stands c.args.progress.now)
      c.row-row.result.now;
  few = omega arith;
  ready = c.requires.ready;
  allowed = refl;
}

pub add_row-steps-requires-clause-row : goal.add_row-steps-requires-clause-row
add_row-steps-requires-clause-row g c =
    let row = c.row-row.result.now in
    let k = c.loop-k.k in
    let e = c.row-row.ensures in
    let l : k < length (row_of c.args.factors.now.a.now c.args.i) = let t = c.loop-k-test.true in let n = ap length e in omega (
      arith,
      t,
      n,
    ) in
    let h = (cell_inside c.args.factors.now.a.now c.args.i k (0, 0) c.requires.row.factors.a_grid l).1 in
    let s = ap (λ (r : List Cell). (get_or r k (0, 0)).0) e in
    let w = c.requires.row.factors.shapes in
    record { factors = c.requires.row.factors; row = omega (arith, h, s, w) }

pub overflow_add-steps : goal.overflow_add-steps
overflow_add-steps g c =
    let i = c.loop-k.invariant.few in
    let f = c.add_row-steps.ensures.added.little in
    let e = ap length c.row-row.ensures in
    let r = row_few c.args.factors.now.a.now c.args.i c.requires.row.factors.a_grid in
    let t = c.loop-k-test.true in
    omega (arith, i, f, e, r, t)

pub loop-k-preserved : goal.loop-k-preserved
loop-k-preserved g c =
    let add = c.args.factors.now.add.now in
    let mul = c.args.factors.now.mul.now in
    let b = c.args.factors.now.b.now in
    let n = b.columns in
    let t = takes c.args.masked c.args.progress.now.allowed.items in
    let row = c.row-row.result.now in
    let k = c.loop-k.k in
    let cell = get_or row k (0, 0) in
    let was = stands c.loop-k.progress in
    let then_ = stands c.add_row-steps.new.progress in
    let i = c.loop-k.invariant in
    let f = i.few in
    let e = c.add_row-steps.ensures in
    let g = e.added.little in
    let same = ap (λ v. v.items) i.allowed in
    record {
      gathering = gathering_step add mul b n t (stands c.args.progress.now) row was (drop k row) c.loop-k.steps cell (drop (k + 1) row)
          then_ _ i.gathering (drop_more row k (0, 0) c.loop-k-test.true) e.ready.2
          (λ j. e.added.sums j ∙ ap (λ fs. after add mul cell.1 (slot was j) (seen (takes c.args.masked fs j) (fin.get b.cells
          (cell.0, j))))
          same)
          (e.added.steps ∙ ap (λ fs. steps_of (along (λ j. extra add mul cell.1 (slot was j) (seen (takes c.args.masked fs j)
          (fin.get b.cells (cell.0, j)))) 0 n)) same);
      few = omega (arith, f, g);
      ready = e.ready.0;
      allowed = e.ready.1 ∙ i.allowed;
    }

pub returns-clause-added : goal.returns-clause-added
returns-clause-added g c =
    let f = c.args.factors.now in
    let row = c.row-row.result.now in
    let few = c.loop-k.invariant.few in
    let n = c.loop-k.auto.k-end in
    let e = ap length c.row-row.ensures in
    let all = gathering_end f.add.now f.mul.now f.b.now f.b.now.columns (takes c.args.masked c.args.progress.now.allowed.items)
    (stands c.args.progress.now) row (row_of f.a.now c.args.i) (stands c.loop-k.progress) (drop c.loop-k.k row) c.loop-k.steps
    c.loop-k.invariant.gathering (drop_all c.loop-k.k row c.loop-k-test.false) c.row-row.ensures in
    record { sums = all.0; steps = all.1; little = omega (arith, few, n, e) }
