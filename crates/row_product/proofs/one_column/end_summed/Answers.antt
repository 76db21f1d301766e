use Rattle.std.proofs.Common.{sym, ap, ◌+◌, ◌∙◌, arith, rules}
use Rattle.bpf_run.specs.Calls.{steps_of}
use Rattle.bpf_run.proofs.Charging.{charges-all}
use Rattle.csr_store.specs.Along.{cell_at}
use Rattle.csr_store.specs.Run.{Row}
use Rattle.csr_store.proofs.Filling.{on_err}
use Rattle.row_product.specs.inner.Masked.{row_of_product, calls_of_row}
use Rattle.row_product.proofs.Column.{row_passing, calls_passing}
use Rattle.row_product.proofs.Ending.{adds_ended}
use Rattle.row_product.proofs.one_column.end_summed.Goals as goal

pub overflow_add-making : goal.overflow_add-making
overflow_add-making c =
    let l = c.requires.summed.little in
    let m = c.requires.next.next.capacity in
    omega (arith, l, m)

pub returns-in_err-put_sum : goal.returns-in_err-put_sum
returns-in_err-put_sum c =
    let f = c.args.factors.now in
    let old = c.args.making.now.steps in
    let steps = c.args.summed.now.steps in
    let charged = ap (λ n. old + n) (c.requires.summed.steps_are
    ∙ ap steps_of (sym (calls_passing f c.args.i c.requires.next.column c.requires.next.allowed))) in
    let l = c.requires.summed.little in
    record {
      row = record {
        adds = record {
          rows = search rules;
          steps = search rules;
          spent = on_err c.from_residual.result (charges-all _ old (old + steps) charged);
        };
        little = omega (arith, l);
      };
      charged = charged;
    }

pub returns : goal.returns
returns c =
    let f = c.args.factors.now in
    let from = c.args.making.now in
    let charged = ap (λ n. from.steps + n) (c.requires.summed.steps_are
    ∙ ap steps_of (sym (calls_passing f c.args.i c.requires.next.column c.requires.next.allowed))) in
    let row = ap (cell_at 0) c.requires.summed.value
    ∙ sym (row_passing f c.args.i c.requires.next.column c.requires.next.allowed) in
    let l = c.requires.summed.little in
    record {
      row = record {
        adds = adds_ended (row_of_product f c.args.i) (calls_of_row f c.args.i) from c.put_sum.new.rows _ c.end_row.result
            c.requires.next.next.none_open (c.in_ok-put_sum.ensures ∙ ap (λ (os : Row). record from.rows { opened = os }) row)
            charged c.end_row.ensures.ended;
        little = omega (arith, l);
      };
      charged = charged;
    }
