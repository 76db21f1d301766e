use Rattle.std.proofs.Common.{◌∙◌, ap, sym, Some}
use Rattle.csr_store.specs.Grid.{Cell}
use Rattle.csr_store.proofs.InRow.{column_at, found_at, none_at, not_none}
use Rattle.csr_store.proofs.row.value_at.Goals as goal

pub returns-in-Some : goal.returns-in-Some
returns-in-Some c =
    let here = c.in-Some.ensures.lookup.3 in
    let same = here.1 (0, 0) in
    ap (λ (x : Cell). Some x.1) same ∙ sym (found_at c.args.row.now c.args.j c.cells_before.result (0, 0) c.requires here.0 (ap (λ (x : Cell). x.0) (sym same) ∙ c.if-cell-j.true))

pub returns-in_default : goal.returns-in_default
returns-in_default c =
    let here = c.in-Some.ensures.lookup.3 in
    let same = here.1 (0, 0) in
    sym (none_at c.args.row.now c.args.j c.cells_before.result c.requires c.cells_before.ensures.before c.cells_before.ensures.behind (λ l q. c.if-cell-j.false (ap (λ (x : Cell). x.0) same ∙ (sym (column_at c.args.row.now c.cells_before.result (0, 0) l) ∙ q))) c.cells_before.ensures.within)

pub returns-in_default-2 : goal.returns-in_default-2
returns-in_default-2 c =
    sym (none_at c.args.row.now c.args.j c.cells_before.result c.requires c.cells_before.ensures.before c.cells_before.ensures.behind (λ l q. not_none _ (c.get.ensures.lookup.2 l) c.in_default.is) c.cells_before.ensures.within)
