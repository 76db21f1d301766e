use Rattle.std.proofs.Common.{sym, ap, ◌∙◌, arith}
use Rattle.bpf_run.specs.Calls.{steps_of}
use Rattle.csr_store.specs.Run.{Row}
use Rattle.row_product.specs.inner.Masked.{row_of_product, calls_of_row}
use Rattle.row_product.proofs.Column.{row_masked, calls_masked}
use Rattle.row_product.proofs.Ending.{adds_ended}
use Rattle.row_product.proofs.one_column.SummingRowAccumulator.fill_row.Goals as goal

pub returns-then-not-lets_pass-clause-row : goal.returns-then-not-lets_pass-clause-row
returns-then-not-lets_pass-clause-row c =
    let f = c.args.factors.now in
    let i = c.args.i in
    let old = c.args.making.now in
    let closed = sym c.lets_pass.ensures ∙ c.if-not-lets_pass.true in
    let none = row_masked f i c.requires.ready.0 closed in
    let free = ap steps_of (calls_masked f i c.requires.ready.0 closed) in
    record {
      adds = adds_ended (row_of_product f i) (calls_of_row f i) old old.rows _ c.end_row.result c.requires.next.none_open
          (ap (λ (os : Row). record old.rows { opened = os }) (c.requires.next.none_open ∙ sym none)) (omega (arith, free))
          c.end_row.ensures.ended;
      little = omega arith;
    }
