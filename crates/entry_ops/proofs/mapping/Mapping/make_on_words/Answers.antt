use Rattle.std.proofs.Common.{◌∙◌, ◌+◌, ap, length, arith, List, ℕ}
use Rattle.csr_store.specs.Valued.{all_cells, valued_from}
use Rattle.bpf_run.specs.Calls.{Gathered, calls_on, steps_of, values_on, words_of}
use Rattle.entry_ops.specs.inner.Mapped.{next_words}
use Rattle.entry_ops.proofs.Mapped.{length_values}
use Rattle.entry_ops.proofs.mapping.Mapping.make_on_words.Goals as goal

pub write_values-requires : goal.write_values-requires
write_values-requires c =
    let words = ap words_of c.next_cells.ensures in
    let v = ap (λ (vs : List ℕ). length vs) (c.values.ensures ∙ (ap (λ (g : Gathered). g.values) c.make_on_words.ensures.values
    ∙ ap (values_on c.args.operator.now) words)) in
    let n = length_values c.args.operator.now (next_words c.args.self.now c.args.many) in
    let e = c.requires.capacity.entries in
    omega (arith, v, n, e)

pub returns-clause-further : goal.returns-clause-further
returns-clause-further c =
    let words = ap words_of c.next_cells.ensures in
    let v = c.values.ensures ∙ (ap (λ (g : Gathered). g.values) c.make_on_words.ensures.values
    ∙ ap (values_on c.args.operator.now) words) in
    record {
      alike = c.write_values.ensures.alike;
      number = let k = ap (λ (vs : List ℕ). length vs) v in
          let n = length_values c.args.operator.now (next_words c.args.self.now c.args.many) in
          let w = c.write_values.ensures.written in omega (arith, k, n, w);
      cells = c.write_values.ensures.values ∙ ap
          (λ vs. valued_from c.args.self.now.rows.written vs (all_cells c.args.self.now.rows.run)) v;
      steps = ap (λ n. c.args.self.now.steps + n)
          (c.make_on_words.ensures.steps ∙ ap (λ os. steps_of (calls_on c.args.operator.now os)) words);
    }
