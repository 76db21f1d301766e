use Rattle.std.proofs.Common.{◌≡◌, take, sym, ap, ◌∙◌}
use Rattle.std.specs.FinMap.{get}
use Rattle.csr_store.specs.Grid.{Position}
use Rattle.csr_store.specs.Repeated.{Marks, is_met, met_at}
use Rattle.csr_store.specs.inner.Repeated.{found_in}
use Rattle.csr_store.proofs.Marking.{marks_are, place_back}
use Rattle.csr_store.proofs.repeat.RepeatedPositions.meet.Goals as goal

-- what is kept of a position
kept : (c : goal.After-mark) (p : Position) → found_in (take c.self.inside.count c.self.inside.cells.items) p ≡ get c.args.self.now p
kept c p = sym (marks_are (take c.self.inside.count c.self.inside.cells.items) p) ∙ ap (λ (m : Marks). get m p) c.self.view_is

pub returns-clause-met : goal.returns-clause-met
returns-clause-met c =
    c.mark.ensures.met ∙ ap (λ (q : Position). is_met (found_in (take c.self.inside.count c.self.inside.cells.items) q)) (place_back c.args.row c.args.column c.requires.column)
    ∙ ap is_met (kept c (c.args.row, c.args.column))

pub returns-clause-marked : goal.returns-clause-marked
returns-clause-marked c = λ p.
    marks_are (take c.self.inside.count c.mark.new.cells.items) p ∙ c.mark.ensures.marked p
    ∙ ap (λ (q : Position). met_at q p (found_in (take c.self.inside.count c.self.inside.cells.items) p)) (place_back c.args.row c.args.column c.requires.column)
    ∙ ap (met_at (c.args.row, c.args.column) p) (kept c p)
