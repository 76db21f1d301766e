use Rattle.std.proofs.Common.{ℕ, List, length, sym, ap, ◌∙◌, subst}
use Rattle.csr_store.specs.Grid.{row_of}
use Rattle.csr_store.proofs.Along.{Ascends, row_of-ascends}
use Rattle.row_product.specs.inner.Adding.{taking}
use Rattle.row_product.specs.inner.Progress.{stands}
use Rattle.row_product.specs.inner.StandIn.{cells_with}
use Rattle.row_product.specs.inner.Sums.{takes}
use Rattle.row_product.proofs.Parts.{length_after}
use Rattle.row_product.proofs.StandIn.{adds_listed, ascends_with}
use Rattle.row_product.proofs.row_adder.ByColumnsRowAdder.add_row.Goals as goal

pub add_columns-requires-clause-apart : goal.add_columns-requires-clause-apart
add_columns-requires-clause-apart g c =
    let b = c.args.factors.now.b.now in
    let w = c.term_of-term.result.word in
    subst (λ (js : List ℕ). Ascends 0 b.columns (cells_with w js)) (sym c.in-Some.ensures)
    (ascends_with w 0 b.columns (row_of b c.args.k) (row_of-ascends b c.args.k c.requires.row.factors.b_grid))

pub returns-clause-added : goal.returns-clause-added
returns-clause-added g c =
    let words = c.term_of-term.ensures.words in
    adds_listed c.args.factors.now c.args.self.now.word c.args.x c.args.k (takes c.args.masked c.args.progress.now.allowed.items)
    c.term_of-term.result c.in-Some.columns.now (stands c.args.progress.now) (stands c.add_columns.new.self) c.add_columns.result
    c.requires.row.factors c.requires.serves.1 c.requires.ready.sums c.in-Some.ensures words.0 words.1 c.add_columns.ensures.added

pub returns-clause-ready : goal.returns-clause-ready
returns-clause-ready g c =
    let f = c.args.factors.now in
    let t = c.term_of-term.result in
    let r = c.add_columns.ensures.ready in (
      r.0,
      r.1,
      ap length c.add_columns.ensures.added.sums
          ∙ length_after f.add.now f.mul.now t.x (stands c.args.progress.now)
          (taking (takes c.args.masked c.args.progress.now.allowed.items) (cells_with t.word c.in-Some.columns.now)),
    )
