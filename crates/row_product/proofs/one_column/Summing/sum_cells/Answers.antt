use Rattle.std.proofs.Common.{◌≡◌, ◌<◌, ◌≤◌, ◌++◌, length, not, take, ap, sym, subst, ◌∙◌, arith, rules}
use Rattle.std.specs.List.{AllByRecursion}
use Rattle.std.proofs.lemmas.List.{take-append-drop}
use Rattle.bpf_run.specs.Calls.{steps_of}
use Rattle.bpf_run.specs.Fold.{terms_of}
use Rattle.csr_store.specs.Grid.{Cell}
use Rattle.job_forms.specs.Product.{terms}
use Rattle.row_product.specs.inner.Sums.{fold_on_calls}
use Rattle.row_product.proofs.Filling.{no_length}
use Rattle.row_product.proofs.Column.{sums_up_starts, sums_up_part, sums_up_ends, all_parts, mul_few, fold_few, length_terms}
use Rattle.row_product.proofs.one_column.Summing.sum_cells.Goals as goal

pub loop-cells-init : goal.loop-cells-init
loop-cells-init c = record {
  sums = sums_up_starts c.args.factors.now.add.now c.args.factors.now.mul.now c.args.factors.now.b.now c.args.row.now;
  named = c.requires.row.named.rows;
  capacity = c.requires.capacity;
}

pub multiply-multiplied-requires-clause-may : goal.multiply-multiplied-requires-clause-may
multiply-multiplied-requires-clause-may c =
    let f = c.args.factors.now in
    let cs = c.split_at.result.0.now in
    let ds = c.split_at.result.1.now in
    let parts : c.loop-cells.cells.now ≡ cs ++ ds =
    sym (ap (λ us. us ++ ds) c.split_at.ensures.front
    ∙ (ap (λ us. take c.min.result c.loop-cells.cells.now ++ us) c.split_at.ensures.back
    ∙ take-append-drop c.min.result c.loop-cells.cells.now)) in
    let few : length cs ≤ 64 = search rules in
    let m = mul_few f.mul.now f.b.now cs 0 c.requires.row.factors.mul_accepted c.requires.row.factors.mul in
    record {
      lent = record {
        named = record {
          column = c.requires.row.named.column;
          rows = (all_parts f.b.now.rows cs ds (subst (λ us. AllByRecursion (λ (d : Cell). d.0 < f.b.now.rows) us) parts
              c.loop-cells.invariant.named)).0;
        };
        few = few;
        copy = c.requires.row.factors.column;
      };
      capacity = omega (arith, m, few);
    }

pub add_terms-requires-clause-capacity : goal.add_terms-requires-clause-capacity
add_terms-requires-clause-capacity c =
    let f = c.args.factors.now in
    let cs = c.split_at.result.0.now in
    let few : length cs ≤ 64 = search rules in
    let made = c.multiply-multiplied.ensures.values in
    let ts = ap terms_of c.deref.ensures.value ∙ made in
    let e = ap (λ us. steps_of (fold_on_calls f.add.now c.loop-cells.sum us)) ts in
    let g = fold_few f.add.now c.loop-cells.sum (terms f.mul.now f.b.now cs 0)
    c.requires.row.factors.add_accepted c.requires.row.factors.add in
    let n = length_terms f.mul.now f.b.now cs 0 in
    omega (arith, e, g, n, few)

pub overflow_add-steps : goal.overflow_add-steps
overflow_add-steps c =
    let f = c.args.factors.now in
    let cs = c.split_at.result.0.now in
    let ds = c.split_at.result.1.now in
    let parts : c.loop-cells.cells.now ≡ cs ++ ds =
    sym (ap (λ us. us ++ ds) c.split_at.ensures.front
    ∙ (ap (λ us. take c.min.result c.loop-cells.cells.now ++ us) c.split_at.ensures.back
    ∙ take-append-drop c.min.result c.loop-cells.cells.now)) in
    let i = c.loop-cells.invariant in
    let m = c.multiply-multiplied.ensures in
    let ts = ap terms_of c.deref.ensures.value ∙ m.values in
    let next = (sums_up_part f.add.now f.mul.now f.b.now c.args.row.now c.loop-cells.cells.now cs ds c.loop-cells.sum c.add_terms.new.sum
    c.loop-cells.steps c.multiply-multiplied.result c.add_terms.result (terms_of c.deref.result.now) i.sums parts
    c.requires.row.factors.add_accepted
    c.requires.row.factors.mul_accepted c.requires.row.factors.add c.requires.row.factors.mul
    ts m.steps_are c.add_terms.ensures.sum c.add_terms.ensures.steps_are).few in
    let l = c.requires.row.few in
    omega (arith, next, l)

pub overflow_add-steps-in-loop-cells : goal.overflow_add-steps-in-loop-cells
overflow_add-steps-in-loop-cells c =
    let f = c.args.factors.now in
    let cs = c.split_at.result.0.now in
    let ds = c.split_at.result.1.now in
    let parts : c.loop-cells.cells.now ≡ cs ++ ds =
    sym (ap (λ us. us ++ ds) c.split_at.ensures.front
    ∙ (ap (λ us. take c.min.result c.loop-cells.cells.now ++ us) c.split_at.ensures.back
    ∙ take-append-drop c.min.result c.loop-cells.cells.now)) in
    let i = c.loop-cells.invariant in
    let m = c.multiply-multiplied.ensures in
    let ts = ap terms_of c.deref.ensures.value ∙ m.values in
    let next = (sums_up_part f.add.now f.mul.now f.b.now c.args.row.now c.loop-cells.cells.now cs ds c.loop-cells.sum c.add_terms.new.sum
    c.loop-cells.steps c.multiply-multiplied.result c.add_terms.result (terms_of c.deref.result.now) i.sums parts
    c.requires.row.factors.add_accepted
    c.requires.row.factors.mul_accepted c.requires.row.factors.add c.requires.row.factors.mul
    ts m.steps_are c.add_terms.ensures.sum c.add_terms.ensures.steps_are).few in
    let l = c.requires.row.few in
    omega (arith, next, l)

pub loop-cells-preserved : goal.loop-cells-preserved
loop-cells-preserved c =
    let f = c.args.factors.now in
    let cs = c.split_at.result.0.now in
    let ds = c.split_at.result.1.now in
    let parts : c.loop-cells.cells.now ≡ cs ++ ds =
    sym (ap (λ us. us ++ ds) c.split_at.ensures.front
    ∙ (ap (λ us. take c.min.result c.loop-cells.cells.now ++ us) c.split_at.ensures.back
    ∙ take-append-drop c.min.result c.loop-cells.cells.now)) in
    let i = c.loop-cells.invariant in
    let m = c.multiply-multiplied.ensures in
    let ts = ap terms_of c.deref.ensures.value ∙ m.values in
    record {
      sums = sums_up_part f.add.now f.mul.now f.b.now c.args.row.now c.loop-cells.cells.now cs ds c.loop-cells.sum c.add_terms.new.sum
          c.loop-cells.steps c.multiply-multiplied.result c.add_terms.result (terms_of c.deref.result.now) i.sums parts
          c.requires.row.factors.add_accepted
          c.requires.row.factors.mul_accepted c.requires.row.factors.add c.requires.row.factors.mul
          ts m.steps_are c.add_terms.ensures.sum c.add_terms.ensures.steps_are;
      named = (all_parts f.b.now.rows cs ds (subst (λ us. AllByRecursion (λ (d : Cell). d.0 < f.b.now.rows) us) parts i.named)).1;
      capacity = c.multiply-multiplied.ensures.capacity;
    }

pub returns-clause-summed : goal.returns-clause-summed
returns-clause-summed c =
    let f = c.args.factors.now in
    let i = c.loop-cells.invariant in
    let none = no_length c.loop-cells.cells.now (sym (ap not c.is_empty.ensures) ∙ ap not c.loop-cells-test.false) in
    let all = sums_up_ends f.add.now f.mul.now f.b.now c.args.row.now c.loop-cells.cells.now c.loop-cells.sum c.loop-cells.steps i.sums none in
    let few = i.sums.few in
    record { value = all.0; steps_are = all.1; little = omega (arith, few) }
