use Rattle.std.proofs.Common.{◌++◌, ap, sym, subst, ◌∙◌}
use Rattle.csr_store.specs.Run.{Row, Run}
use Rattle.csr_store.specs.Ascending.{Ascends}
use Rattle.csr_store.specs.Shown.{cells_shown}
use Rattle.csr_store.proofs.Appending.{rows_append, run_append}
use Rattle.csr_store.proofs.Showing.{ascends_shown}
use Rattle.csr_store.proofs.rows.Rows.push_shown.Goals as goal

pub invariant_of-self-2 : goal.invariant_of-self-2
invariant_of-self-2 c =
    let is = c.self.view_is ∙ c.reserve.ensures in
    let n = c.self.inside.columns in
    let columns = sym (ap (λ (r : Run). r.columns) is) in
    let left = subst (λ k. Ascends 0 k c.args.cells.now) columns c.requires.ascends.0 in
    let added = c.add_shown.ensures.added n left (subst (λ k. Ascends 0 k c.args.mask.now) columns c.requires.ascends.1) in
    rw (added.0, c.reserve-2.ensures.items) (rows_append n c.self.inside.ends c.self.inside.cells.items _ c.self.invariant
    (ap (λ (r : Run). r.opened) is ∙ c.requires.none_open) (ascends_shown _ 0 n _ left) added.1)

pub returns-clause-pushed : goal.returns-clause-pushed
returns-clause-pushed c =
    let is = c.self.view_is ∙ c.reserve.ensures in
    let n = c.self.inside.columns in
    let columns = sym (ap (λ (r : Run). r.columns) is) in
    let left = subst (λ k. Ascends 0 k c.args.cells.now) columns c.requires.ascends.0 in
    let added = c.add_shown.ensures.added n left (subst (λ k. Ascends 0 k c.args.mask.now) columns c.requires.ascends.1) in
    run_append c.self.inside.first n c.self.inside.ends c.self.inside.cells.items _ (cells_shown c.args.mask.now c.args.cells.now) _
    c.self.invariant (added.0 ∙ ap (λ (r : Row). r ++ cells_shown c.args.mask.now c.args.cells.now) c.reserve-2.ensures.items) is
    ∙ ap (λ (r : Row). record c.args.self.now { opened = r ++ cells_shown c.args.mask.now c.args.cells.now }) c.requires.none_open
