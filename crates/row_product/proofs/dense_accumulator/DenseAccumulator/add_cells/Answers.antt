use Rattle.std.proofs.Common.{length, ap, ◌∙◌, arith, rules}
use Rattle.bpf_run.specs.Calls.{Gathered, steps_of, pairs_with}
use Rattle.row_product.specs.inner.Adding.{sums_after, calls_after}
use Rattle.row_product.proofs.Meeting.{length_values, length_pairs, added_by_terms}
use Rattle.row_product.proofs.Parts.{after_few}
use Rattle.row_product.proofs.dense_accumulator.DenseAccumulator.add_cells.Goals as goal

pub add_terms-requires-clause-add : goal.add_terms-requires-clause-add
add_terms-requires-clause-add c =
    let add = c.args.factors.now.add.now in
    let mul = c.args.factors.now.mul.now in
    let cells = c.args.cells.now in
    let vs = c.values-terms.ensures ∙ ap (λ (g : Gathered). g.values) c.make_with-multiplied.ensures.values in
    let t = (added_by_terms add mul c.args.x c.self.inside.sums cells c.values-terms.result.now vs).1 in
    let f = after_few add mul c.args.x c.self.inside.sums cells c.requires.factors.add_accepted
    c.requires.factors.mul_accepted c.requires.factors.add c.requires.factors.mul in
    let w = c.requires.few in
    let v = ap length vs in
    let l = length_values mul (pairs_with c.args.x cells) in
    let p = length_pairs c.args.x cells in
    record {
      terms = record { few = w; paired = omega (arith, v, l, p); apart = search rules };
      kind = c.requires.factors.add;
      capacity = omega (arith, t, f, w);
    }

pub overflow_add-result : goal.overflow_add-result
overflow_add-result c =
    let add = c.args.factors.now.add.now in
    let mul = c.args.factors.now.mul.now in
    let cells = c.args.cells.now in
    let vs = c.values-terms.ensures ∙ ap (λ (g : Gathered). g.values) c.make_with-multiplied.ensures.values in
    let t = (added_by_terms add mul c.args.x c.self.inside.sums cells c.values-terms.result.now vs).1 in
    let f = after_few add mul c.args.x c.self.inside.sums cells c.requires.factors.add_accepted
    c.requires.factors.mul_accepted c.requires.factors.add c.requires.factors.mul in
    let w = c.requires.few in
    let m = c.make_with-multiplied.ensures.steps in
    let a = c.add_terms.ensures.put.steps in
    omega (arith, t, m, a, f, w)

pub returns : goal.returns
returns c =
    let add = c.args.factors.now.add.now in
    let mul = c.args.factors.now.mul.now in
    let cells = c.args.cells.now in
    let vs = c.values-terms.ensures ∙ ap (λ (g : Gathered). g.values) c.make_with-multiplied.ensures.values in
    let made = added_by_terms add mul c.args.x c.self.inside.sums cells c.values-terms.result.now vs in
    let t = made.1 in
    let f = after_few add mul c.args.x c.self.inside.sums cells c.requires.factors.add_accepted
    c.requires.factors.mul_accepted c.requires.factors.add c.requires.factors.mul in
    let m = c.make_with-multiplied.ensures.steps in
    let a = c.add_terms.ensures.put.steps in
    let s = ap (λ us. steps_of (calls_after add mul c.args.x us cells)) c.self.view_is in
    record {
      sums = c.add_terms.ensures.put.sums ∙ (made.0 ∙ ap (λ us. sums_after add mul c.args.x us cells) c.self.view_is);
      steps = omega (arith, t, m, a, s);
      little = omega (arith, t, m, a, f);
    }
