use Rattle.std.proofs.Common.{◌+◌, ap, ◌∙◌, arith, rules}
use Rattle.bpf_run.proofs.Charging.{charges-all}
use Rattle.csr_store.specs.Along.{row_by}
use Rattle.csr_store.specs.Mask.{mask_of}
use Rattle.csr_store.specs.Run.{Row}
use Rattle.csr_store.proofs.Filling.{on_err}
use Rattle.job_forms.specs.Product.{product_at}
use Rattle.row_product.specs.inner.Masked.{row_of_product, calls_of_row}
use Rattle.row_product.specs.inner.Progress.{stands}
use Rattle.row_product.specs.inner.Sums.{slot}
use Rattle.row_product.proofs.Ending.{adds_ended}
use Rattle.row_product.proofs.Filling.{row_of_sums}
use Rattle.row_product.proofs.row.fill_summed.Goals as goal

pub returns-in_err-emit-clause-added : goal.returns-in_err-emit-clause-added
returns-in_err-emit-clause-added c =
    let old = c.args.making.now.steps in
    let charged = ap (λ n. old + n) c.sum_under.ensures.summed.steps in
    record {
      row = record {
        adds = record {
          rows = search rules;
          steps = search rules;
          spent = on_err c.from_residual.result (charges-all _ old (old + c.sum_under.result) charged);
        };
        little = omega arith;
      };
      charged = charged;
    }

pub returns-clause-added : goal.returns-clause-added
returns-clause-added c =
    let f = c.args.factors.now in
    let old = c.args.making.now in
    let sums = stands c.sum_under.new.progress in
    let row = ap (λ n. row_by n (slot sums)) c.requires.next.columns ∙ row_of_sums f.b.now.columns sums (mask_of f.mask)
    (product_at f.add.now f.mul.now f.a.now f.b.now) c.args.i c.sum_under.ensures.summed.values in
    let charged = ap (λ n. old.steps + n) c.sum_under.ensures.summed.steps in
    record {
      row = record {
        adds = adds_ended (row_of_product f c.args.i) (calls_of_row f c.args.i) old c.emit.new.rows _ c.end_row.result
            c.requires.next.none_open (c.in_ok-emit.ensures.rows ∙ ap (λ (os : Row). record old.rows { opened = os }) row)
            charged c.end_row.ensures.ended;
        little = omega arith;
      };
      charged = charged;
    }
