use Rattle.std.proofs.Common.{List, length, sym, ap, ◌∙◌}
use Rattle.entry_ops.specs.inner.Folding.{Open}
use Rattle.entry_ops.proofs.OpenRows.{length_columns}
use Rattle.entry_ops.proofs.open_rows.OpenRows.len.Goals as goal

pub returns-clause-len : goal.returns-clause-len
returns-clause-len c =
    let i = c.self.invariant in
    c.len.ensures ∙ c.self.inside.lanes.ok.0
    ∙ sym (length_columns c.self.inside.lanes.items c.self.inside.so_far.items c.self.inside.next.items i.4 i.5)
    ∙ ap (λ (os : List Open). length os) c.self.view_is
