use Rattle.std.proofs.Common.{◌≡◌, ◌<◌, ◌%◌, ◌++◌, ℕ, List, length, subst, sym, ap, ◌∙◌, arith}
use Rattle.bpf_run.specs.Calls.{steps_of}
use Rattle.std.specs.List.{AllByRecursion}
use Rattle.csr_store.specs.Grid.{Cell, limit, row_of}
use Rattle.csr_store.specs.Mask.{mask_of, passes}
use Rattle.job_forms.specs.Product.{mults_of}
use Rattle.job_forms.proofs.Counting.{row_within}
use Rattle.row_product.specs.inner.SortedAccumulator.{listed_terms, listed_calls, picked, words_at, Climbs}
use Rattle.row_product.proofs.Folded.{row_is, steps_are}
use Rattle.row_product.proofs.Listed.{length_listed, listed_below, mults_few}
use Rattle.row_product.proofs.Putting.{cells_below}
use Rattle.row_product.proofs.sorted_accumulator.SortedAccumulator.sum_row.Goals as goal

pub list_terms-multiplied-requires : goal.list_terms-multiplied-requires
list_terms-multiplied-requires c =
    let f = c.args.factors.now in
    let none = ap length c.requires.capacity.none in
    let m = ap (mults_of f.b.now) c.row.ensures in
    let few = c.requires.few in
    let capacity = c.requires.capacity.listed in
    record {
      may = record {
        kind = c.requires.row.factors.mul;
        accepted = c.requires.row.factors.mul_accepted;
        rows = subst (λ (row : List Cell). AllByRecursion (λ (d : Cell). d.0 < f.b.now.rows) row) (sym c.row.ensures)
            (row_within f.a.now c.args.i f.b.now.rows c.requires.row.factors.a_grid c.requires.row.factors.shapes);
        few = omega (arith, m, few);
        capacity = omega (arith, none, m, capacity);
      };
    }

pub put_in_order-requires : goal.put_in_order-requires
put_in_order-requires c =
    let f = c.args.factors.now in
    let t = λ (j : ℕ). passes (mask_of f.mask) (c.args.i, j) in
    let row = row_of f.a.now c.args.i in
    let all = listed_terms f.mul.now f.b.now t row in
    let is : c.deref.result.now ≡ all =
    c.deref.ensures.value ∙ (c.list_terms-multiplied.ensures.terms
    ∙ (ap (λ (us : List Cell). us ++ listed_terms f.mul.now f.b.now t c.row.result.now) c.requires.capacity.none
    ∙ ap (listed_terms f.mul.now f.b.now t) c.row.ensures)) in
    let l = ap length is in
    let m = length_listed f.mul.now f.b.now t row in
    let few = c.requires.few in
    let capacity = c.requires.capacity.keys in
    record {
      columns = subst (AllByRecursion (λ (d : Cell). d.0 < limit)) (sym is)
          (cells_below f.b.now.columns limit all c.requires.row.factors.b_grid.columns_small
          (listed_below f.mul.now f.b.now c.requires.row.factors.b_grid t row));
      few = omega (arith, l, m, few);
      capacity = omega (arith, l, m, capacity);
    }

pub fold_terms-requires : goal.fold_terms-requires
fold_terms-requires c =
    let f = c.args.factors.now in
    let t = λ (j : ℕ). passes (mask_of f.mask) (c.args.i, j) in
    let row = row_of f.a.now c.args.i in
    let all = listed_terms f.mul.now f.b.now t row in
    let is : c.deref.result.now ≡ all =
    c.deref.ensures.value ∙ (c.list_terms-multiplied.ensures.terms
    ∙ (ap (λ (us : List Cell). us ++ listed_terms f.mul.now f.b.now t c.row.result.now) c.requires.capacity.none
    ∙ ap (listed_terms f.mul.now f.b.now t) c.row.ensures)) in
    let same : c.deref-2.result.now ≡ c.deref.result.now = c.deref-2.ensures.value ∙ sym c.deref.ensures.value in
    let l = ap length is in
    let m = length_listed f.mul.now f.b.now t row in
    let few = c.requires.few in
    let capacity = c.requires.capacity.sums in
    let long = c.put_in_order.ensures.long in
    let k = ap length c.deref-3.ensures.value in
    record {
      may = record {
        may = record {
          kind = c.requires.row.factors.add;
          accepted = c.requires.row.factors.add_accepted;
          within = subst (λ (us : List Cell). AllByRecursion (λ k. k % limit < length us) c.deref-3.result.now) (sym same)
              (subst (AllByRecursion (λ k. k % limit < length c.deref.result.now)) (sym c.deref-3.ensures.value) c.put_in_order.ensures.within);
          few = omega (arith, l, m, few, long, k);
        };
        capacity = omega (arith, l, m, capacity, long, k);
      };
    }

pub overflow_add-result : goal.overflow_add-result
overflow_add-result c =
    let f = c.args.factors.now in
    let t = λ (j : ℕ). passes (mask_of f.mask) (c.args.i, j) in
    let row = row_of f.a.now c.args.i in
    let all = listed_terms f.mul.now f.b.now t row in
    let is : c.deref.result.now ≡ all =
    c.deref.ensures.value ∙ (c.list_terms-multiplied.ensures.terms
    ∙ (ap (λ (us : List Cell). us ++ listed_terms f.mul.now f.b.now t c.row.result.now) c.requires.capacity.none
    ∙ ap (listed_terms f.mul.now f.b.now t) c.row.ensures)) in
    let l = ap length is in
    let m = length_listed f.mul.now f.b.now t row in
    let few = c.requires.few in
    let long = c.put_in_order.ensures.long in
    let k = ap length c.deref-3.ensures.value in
    let one = c.list_terms-multiplied.ensures.little in
    let e = ap (mults_of f.b.now) c.row.ensures in
    let two = c.fold_terms.ensures.little in
    omega (arith, l, m, few, long, k, one, e, two)

pub returns : goal.returns
returns c =
    let f = c.args.factors.now in
    let t = λ (j : ℕ). passes (mask_of f.mask) (c.args.i, j) in
    let row = row_of f.a.now c.args.i in
    let all = listed_terms f.mul.now f.b.now t row in
    let is : c.deref.result.now ≡ all =
    c.deref.ensures.value ∙ (c.list_terms-multiplied.ensures.terms
    ∙ (ap (λ (us : List Cell). us ++ listed_terms f.mul.now f.b.now t c.row.result.now) c.requires.capacity.none
    ∙ ap (listed_terms f.mul.now f.b.now t) c.row.ensures)) in
    let cells = picked c.deref-2.result.now c.deref-3.result.now in
    let finished : picked c.deref.result.now c.put_in_order.new.keys.items ≡ cells =
    ap (λ (us : List Cell). picked us c.put_in_order.new.keys.items) (c.deref.ensures.value ∙ sym c.deref-2.ensures.value)
    ∙ ap (picked c.deref-2.result.now) (sym c.deref-3.ensures.value) in
    let climbs : Climbs 0 f.b.now.columns cells =
    subst (Climbs 0 f.b.now.columns) finished (c.put_in_order.ensures.climbs f.b.now.columns
    (subst (AllByRecursion (λ (d : Cell). d.0 < f.b.now.columns)) (sym is)
    (listed_below f.mul.now f.b.now c.requires.row.factors.b_grid t row))) in
    let words : (j : ℕ) → words_at cells j ≡ words_at all j =
    λ j. ap (λ (us : List Cell). words_at us j) (sym finished)
    ∙ (c.put_in_order.ensures.words j ∙ ap (λ (us : List Cell). words_at us j) is) in
    let l = ap length is in
    let m = length_listed f.mul.now f.b.now t row in
    let long = c.put_in_order.ensures.long in
    let k = ap length c.deref-3.ensures.value in
    let one = c.list_terms-multiplied.ensures.little in
    let e = ap (mults_of f.b.now) c.row.ensures in
    let two = c.fold_terms.ensures.little in
    let few = mults_few f.b.now row c.requires.row.factors.b_grid in
    let all_steps = steps_are f c.args.i c.requires.row.factors.b_grid cells climbs words in
    let first = c.list_terms-multiplied.ensures.steps_are
    ∙ ap (λ (us : List Cell). steps_of (listed_calls f.mul.now f.b.now t us)) c.row.ensures in
    let second = c.fold_terms.ensures.steps_are in
    record {
      row = c.fold_terms.ensures.sums_are ∙ row_is f c.args.i c.requires.row.factors.b_grid cells climbs words;
      steps_are = omega (arith, all_steps, first, second);
      little = omega (arith, l, m, long, k, one, e, two, few);
    }
