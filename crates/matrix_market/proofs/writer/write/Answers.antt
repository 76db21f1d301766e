use Rattle.std.proofs.Common.{◌≡◌, ◌<◌, ◌++◌, ℕ, List, length, get_or, ap, sym, ◌∙◌, subst, arith}
use Rattle.std.specs.FinMap.{len}
use Rattle.csr_store.specs.Grid.{Grid, IsGrid, Cell, limit, row_of, at_row}
use Rattle.csr_store.proofs.ByRow.{cell_inside}
use Rattle.matrix_market.specs.CanonicalText.{banner, size_line, entry_lines, canonical_text}
use Rattle.matrix_market.specs.Market.{IsTextOf}
use Rattle.matrix_market.specs.Refusal.{IsOnlyMatrix}
use Rattle.matrix_market.proofs.Unique.{same_matrix}
use Rattle.matrix_market.proofs.WrittenText.{text_of_grid}
use Rattle.matrix_market.proofs.Writing.{written_none, written_more, written_all}
use Rattle.matrix_market.proofs.writer.write.Goals as goal

-- the columns of a row are small enough to count from 1
columns_small : (g : Grid) (i : ℕ) (row : List Cell) → IsGrid g → row ≡ row_of g i → (k : ℕ) (d : Cell) → k < length row → (get_or row k d).0 < limit
columns_small g i row h e =
    let P : List Cell → Type 0 = λ (cs : List Cell). (k : ℕ) (d : Cell) → k < length cs → (get_or cs k d).0 < limit in
    subst P (sym e) (λ k d l. let inside = cell_inside g i k d h l in let column = inside.1 in let most = h.columns_small in omega arith)

pub push_row-requires-clause-columns : goal.push_row-requires-clause-columns
push_row-requires-clause-columns c = columns_small c.args.matrix.now c.loop-row.row c.row.result.now c.rows.ensures.is_grid c.row.ensures

pub loop-row-init : goal.loop-row-init
loop-row-init c =
    let g = c.args.matrix.now in
    let head : c.push_sizes.new.out.items ≡ banner ++ size_line g.rows g.columns (len g.cells) =
    c.in_ok-push_sizes.ensures ∙ (λ i. c.in_ok-out.ensures.items i ++ size_line (c.rows.ensures.rows i) (c.columns.ensures.columns i) (c.entries.ensures.entries i)) in
    head ∙ written_none (banner ++ size_line g.rows g.columns (len g.cells)) g

pub loop-row-preserved : goal.loop-row-preserved
loop-row-preserved c =
    let g = c.args.matrix.now in
    let pushed = c.in_ok-push_row.ensures ∙ ap (λ cells. c.loop-row.out.items ++ entry_lines (at_row c.loop-row.row cells)) c.row.ensures in
    written_more (banner ++ size_line g.rows g.columns (len g.cells)) c.loop-row.out.items c.push_row.new.out.items g c.loop-row.row c.loop-row.invariant pushed

pub returns-clause-text : goal.returns-clause-text
unfolding canonical_text
returns-clause-text c =
    let g = c.args.matrix.now in
    let last : c.loop-row.row ≡ c.args.matrix.now.rows = omega arith in
    written_all (banner ++ size_line g.rows g.columns (len g.cells)) c.loop-row.out.items g c.loop-row.row c.rows.ensures.is_grid last c.loop-row.invariant

pub returns-clause-read_back : goal.returns-clause-read_back
returns-clause-read_back c =
    subst (λ (text : List ℕ). IsTextOf text c.args.matrix.now) (sym (returns-clause-text c)) (text_of_grid c.args.matrix.now c.rows.ensures.is_grid)

pub returns-clause-only : goal.returns-clause-only
returns-clause-only c =
    subst (λ (text : List ℕ). IsOnlyMatrix text c.args.matrix.now) (sym (returns-clause-text c))
    (λ g h. same_matrix (canonical_text c.args.matrix.now) g c.args.matrix.now h (text_of_grid c.args.matrix.now c.rows.ensures.is_grid))
