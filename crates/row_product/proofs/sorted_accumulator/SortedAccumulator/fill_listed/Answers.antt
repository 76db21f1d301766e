use Rattle.std.proofs.Common.{◌+◌, ℕ, sym, subst, ap, ◌∙◌, arith, rules}
use Rattle.bpf_run.proofs.Charging.{charges-all}
use Rattle.csr_store.specs.Ascending.{Ascends}
use Rattle.csr_store.specs.Run.{Row}
use Rattle.csr_store.proofs.Filling.{on_err}
use Rattle.row_product.specs.inner.Masked.{row_of_product, calls_of_row}
use Rattle.row_product.proofs.Ending.{adds_ended}
use Rattle.row_product.proofs.Folded.{product_ascends}
use Rattle.row_product.proofs.sorted_accumulator.SortedAccumulator.fill_listed.Goals as goal

pub push_cells-requires : goal.push_cells-requires
push_cells-requires c =
    let f = c.args.factors.now in
    record {
      ascends = subst (λ (n : ℕ). Ascends 0 n c.deref.result.now) (sym c.requires.next.columns)
          (subst (Ascends 0 f.b.now.columns) (sym (c.deref.ensures.value ∙ c.sum_row.ensures.row)) (product_ascends f c.args.i));
      none_open = c.requires.next.none_open;
    }

pub returns-in_err-push_cells : goal.returns-in_err-push_cells
returns-in_err-push_cells c =
    let old = c.args.making.now.steps in
    let charged = ap (λ n. old + n) c.sum_row.ensures.steps_are in
    let little = c.sum_row.ensures.little in
    record {
      row = record {
        adds = record {
          rows = search rules;
          steps = search rules;
          spent = on_err c.from_residual.result (charges-all _ old (old + c.sum_row.result) charged);
        };
        little = omega (arith, little);
      };
      charged = charged;
    }

pub returns : goal.returns
returns c =
    let f = c.args.factors.now in
    let old = c.args.making.now in
    let charged = ap (λ n. old.steps + n) c.sum_row.ensures.steps_are in
    let little = c.sum_row.ensures.little in
    record {
      row = record {
        adds = adds_ended (row_of_product f c.args.i) (calls_of_row f c.args.i) old c.push_cells.new.rows _ c.end_row.result
            c.requires.next.none_open
            (c.in_ok-push_cells.ensures ∙ ap (λ (os : Row). record old.rows { opened = os })
            (c.deref.ensures.value ∙ c.sum_row.ensures.row))
            charged c.end_row.ensures.ended;
        little = omega (arith, little);
      };
      charged = charged;
    }
