use Rattle.std.proofs.Common.{◌≡◌, ◌+◌, ◌++◌, length, not, take, subst, sym, ap, ◌∙◌, refl, arith, rules}
use Rattle.std.proofs.lemmas.List.{take-append-drop, length-append}
use Rattle.bpf_run.specs.Calls.{steps_of}
use Rattle.csr_store.specs.Grid.{row_of}
use Rattle.csr_store.proofs.Along.{Ascends, row_of-ascends}
use Rattle.job_forms.proofs.Counting.{row_few}
use Rattle.row_product.specs.inner.Adding.{taking, sums_after, calls_after}
use Rattle.row_product.specs.inner.Progress.{stands}
use Rattle.row_product.specs.inner.Sums.{takes}
use Rattle.row_product.proofs.Adding.{Adding, adding_start, adding_end}
use Rattle.row_product.proofs.Filling.{no_length}
use Rattle.row_product.proofs.Parts.{adding_cells, ascends_first, taking_few}
use Rattle.row_product.proofs.progress.Progress.add_row.Goals as goal

pub loop-cells-init : goal.loop-cells-init
loop-cells-init c =
    let add = c.args.factors.now.add.now in
    let mul = c.args.factors.now.mul.now in
    let b = c.args.factors.now.b.now in
    let t = takes c.args.masked c.args.self.now.allowed.items in
    let first = stands c.args.self.now in
    let l = ap length c.row-cells.ensures in
    record {
      adding = subst (λ us. Adding add mul c.args.x b.columns t first (row_of b c.args.k) first us 0) (sym c.row-cells.ensures)
          (adding_start add mul c.args.x b.columns t first (row_of b c.args.k)
          (row_of-ascends b c.args.k c.requires.row.factors.b_grid));
      few = omega (arith, l);
      ready = c.requires.ready;
      allowed = refl;
    }

pub add_part-steps-requires-clause-part : goal.add_part-steps-requires-clause-part
add_part-steps-requires-clause-part c =
    let n = c.args.factors.now.b.now.columns in
    let cs = c.split_at.result.0.now in
    let ds = c.split_at.result.1.now in
    let parts : c.loop-cells.cells.now ≡ cs ++ ds =
    sym (ap (λ us. us ++ ds) c.split_at.ensures.front
    ∙ (ap (λ us. take c.min.result c.loop-cells.cells.now ++ us) c.split_at.ensures.back
    ∙ take-append-drop c.min.result c.loop-cells.cells.now)) in
    record {
      factors = c.requires.row.factors;
      few = search rules;
      apart = ascends_first 0 n n cs ds (omega arith) (subst (Ascends 0 n) parts c.loop-cells.invariant.adding.ascends);
    }

pub overflow_add-steps : goal.overflow_add-steps
overflow_add-steps c =
    let cs = c.split_at.result.0.now in
    let ds = c.split_at.result.1.now in
    let parts : c.loop-cells.cells.now ≡ cs ++ ds =
    sym (ap (λ us. us ++ ds) c.split_at.ensures.front
    ∙ (ap (λ us. take c.min.result c.loop-cells.cells.now ++ us) c.split_at.ensures.back
    ∙ take-append-drop c.min.result c.loop-cells.cells.now)) in
    let p = ap length parts in
    let a = length-append cs ds in
    let f = c.loop-cells.invariant.few in
    let l = c.add_part-steps.ensures.added.little in
    let t = taking_few (takes c.args.masked c.loop-cells.self.allowed.items) cs in
    let r = row_few c.args.factors.now.b.now c.args.k c.requires.row.factors.b_grid in
    omega (arith, p, a, f, l, t, r)

pub loop-cells-preserved : goal.loop-cells-preserved
loop-cells-preserved c =
    let add = c.args.factors.now.add.now in
    let mul = c.args.factors.now.mul.now in
    let b = c.args.factors.now.b.now in
    let x = c.args.x in
    let t = takes c.args.masked c.args.self.now.allowed.items in
    let first = stands c.args.self.now in
    let was = stands c.loop-cells.self in
    let cs = c.split_at.result.0.now in
    let ds = c.split_at.result.1.now in
    let parts : c.loop-cells.cells.now ≡ cs ++ ds =
    sym (ap (λ us. us ++ ds) c.split_at.ensures.front
    ∙ (ap (λ us. take c.min.result c.loop-cells.cells.now ++ us) c.split_at.ensures.back
    ∙ take-append-drop c.min.result c.loop-cells.cells.now)) in
    let p = ap length parts in
    let a = length-append cs ds in
    let i = c.loop-cells.invariant in
    let f = i.few in
    let e = c.add_part-steps.ensures in
    let l = e.added.little in
    let u = taking_few (takes c.args.masked c.loop-cells.self.allowed.items) cs in
    let same = ap (λ v. taking (takes c.args.masked v.items) cs) i.allowed in
    let made = e.added.sums ∙ ap (sums_after add mul x was) same in
    let cost = e.added.steps ∙ ap (λ us. steps_of (calls_after add mul x was us)) same in
    record {
      adding = subst (λ us. Adding add mul x b.columns t first (row_of b c.args.k) us ds (c.loop-cells.steps
          + c.add_part-steps.result)) (sym made)
          (subst (λ k. Adding add mul x b.columns t first (row_of b c.args.k) (sums_after add mul x was (taking t cs)) ds
          (c.loop-cells.steps + k)) (sym cost)
          (adding_cells add mul x b.columns t first (row_of b c.args.k) was cs ds c.loop-cells.steps
          (subst (λ us. Adding add mul x b.columns t first (row_of b c.args.k) was us c.loop-cells.steps) parts i.adding)
          i.ready.sums));
      few = omega (arith, p, a, f, l, u);
      ready = e.ready.0;
      allowed = e.ready.1 ∙ i.allowed;
    }

pub returns-clause-added : goal.returns-clause-added
returns-clause-added c =
    let f = c.args.factors.now in
    let row = row_of f.b.now c.args.k in
    let few = c.loop-cells.invariant.few in
    let r = row_few f.b.now c.args.k c.requires.row.factors.b_grid in
    let all = adding_end f.add.now f.mul.now c.args.x f.b.now.columns (takes c.args.masked c.args.self.now.allowed.items)
    (stands c.args.self.now) f.b.now c.args.k row (stands c.loop-cells.self) c.loop-cells.cells.now c.loop-cells.steps
    c.loop-cells.invariant.adding
    (no_length c.loop-cells.cells.now (sym (ap not c.is_empty.ensures) ∙ ap not c.loop-cells-test.false)) refl in
    record { sums = all.0; steps = all.1; little = omega (arith, few, r) }

pub returns-clause-ready : goal.returns-clause-ready
returns-clause-ready c =
    let i = c.loop-cells.invariant in (i.ready, i.allowed, i.adding.len)
