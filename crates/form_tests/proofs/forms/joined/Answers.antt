use Rattle.std.proofs.Common.{◌≤◌, ◌≡◌, List, ◌∷◌, [], length, subst, sym}
use Rattle.csr_store.specs.Run.{Run, numbered, all_ended}
use Rattle.form_tests.proofs.Pieces.{pieces_small}
use Rattle.form_tests.proofs.forms.joined.Goals as goal

pub join_rows-requires-clause-small : goal.join_rows-requires-clause-small
join_rows-requires-clause-small c =
    let items : c.in_ok-pieces.pieces.items ≡ c.args.first ∷ c.args.second ∷ [] = c.in_ok-pieces.ensures.items in
    subst (λ (ps : List Run). length (numbered 0 (all_ended ps)) ≤ 16777216) (sym items)
    (pieces_small c.args.shape.1 c.args.shape.0 c.args.middle c.args.first c.args.second c.requires.first c.requires.second
    c.requires.middle
    c.requires.small)
