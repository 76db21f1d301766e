use Rattle.std.proofs.Common.{◌∙◌, ◌+◌, ap, length, arith, ℕ, List}
use Rattle.bpf_run.specs.Calls.{Gathered}
use Rattle.csr_store.specs.Valued.{all_cells, valued_from}
use Rattle.entry_ops.proofs.Mapped.{length_values}
use Rattle.entry_ops.proofs.mapping.Mapping.make.Goals as goal

pub write_values-requires : goal.write_values-requires
write_values-requires c =
    let v = ap (λ (vs : List ℕ). length vs) (c.values.ensures ∙ (ap (λ (g : Gathered). g.values) c.make.ensures.values)) in
    let n = length_values c.args.operator.now c.args.calls.now.operands in
    let e = c.requires.capacity.entries in
    omega (arith, v, n, e)

pub returns-clause-further : goal.returns-clause-further
returns-clause-further c =
    let v = c.values.ensures ∙ (ap (λ (g : Gathered). g.values) c.make.ensures.values) in
    record {
      alike = c.write_values.ensures.alike;
      number = let k = ap (λ (vs : List ℕ). length vs) v in let n = length_values c.args.operator.now c.args.calls.now.operands in
          let w = c.write_values.ensures.written in omega (arith, k, n, w);
      cells = c.write_values.ensures.values ∙ ap
          (λ vs. valued_from c.args.self.now.rows.written vs (all_cells c.args.self.now.rows.run)) v;
      steps = ap (λ n. c.args.self.now.steps + n) c.make.ensures.steps;
    }
