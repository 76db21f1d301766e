use Rattle.std.proofs.Common.{◌+◌, ◌++◌, length, ap, ◌∙◌, arith}
use Rattle.std.proofs.lemmas.Result.{on_ok_weaker}
use Rattle.bpf_run.specs.Calls.{Gathered, pairs_with}
use Rattle.bpf_run.proofs.Charging.{with_few}
use Rattle.row_product.specs.inner.Single.{with_words}
use Rattle.row_product.proofs.Meeting.{length_values, length_pairs}
use Rattle.row_product.proofs.Multiplying.{words_by_terms}
use Rattle.row_product.proofs.dense_accumulator.DenseAccumulator.push_products.Goals as goal

pub push_words-requires-clause-words : goal.push_words-requires-clause-words
push_words-requires-clause-words c =
    let cells = c.args.cells.now in
    let mul = c.args.factors.now.mul.now in
    let vs = c.values.ensures ∙ ap (λ (g : Gathered). g.values) c.make_with.ensures.values in
    let v = ap length vs in
    let l = length_values mul (pairs_with c.args.x cells) in
    let p = length_pairs c.args.x cells in
    omega (arith, v, l, p)

pub overflow_add-making : goal.overflow_add-making
overflow_add-making c =
    let cells = c.args.cells.now in
    let mul = c.args.factors.now.mul.now in
    let s = c.make_with.ensures.steps in
    let r = c.requires.capacity in
    let f = with_few mul c.args.x cells c.requires.factors.mul_accepted c.requires.factors.mul
    in
    omega (arith, s, f, r)

pub returns-clause-pushed : goal.returns-clause-pushed
returns-clause-pushed c =
    let cells = c.args.cells.now in
    let mul = c.args.factors.now.mul.now in
    let from = c.args.making.now.rows in
    let vs = c.values.ensures ∙ ap (λ (g : Gathered). g.values) c.make_with.ensures.values in
    on_ok_weaker c.push_words.result (λ e. e ∙ ap (λ us. record from { opened = from.opened ++ us })
    (ap (with_words cells) vs ∙ words_by_terms mul c.args.x cells)) c.push_words.ensures

pub returns-clause-charged : goal.returns-clause-charged
returns-clause-charged c =
    let cells = c.args.cells.now in
    let mul = c.args.factors.now.mul.now in
    let s = c.make_with.ensures.steps in
    let f = with_few mul c.args.x cells c.requires.factors.mul_accepted c.requires.factors.mul
    in
    record {
      steps = ap (λ n. c.args.making.now.steps + n) s;
      little = omega (arith, s, f);
    }
