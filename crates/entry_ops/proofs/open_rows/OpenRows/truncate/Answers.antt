use Rattle.std.proofs.Common.{List, take, ap, ◌∙◌}
use Rattle.entry_ops.specs.inner.Folding.{Open}
use Rattle.entry_ops.proofs.OpenRows.{columns_taken}
use Rattle.entry_ops.proofs.open_rows.OpenRows.truncate.Goals as goal

pub returns : goal.returns
returns c =
    let i = c.self.invariant in
    columns_taken c.args.left c.self.inside.lanes.items c.self.inside.so_far.items c.self.inside.next.items i.4 i.5 _ _ _
    c.truncate.ensures.items c.truncate-2.ensures.items c.truncate-3.ensures.items
    ∙ ap (λ (os : List Open). take c.args.left os) c.self.view_is
