use Rattle.std.proofs.Common.{◌+◌, length, sym, ◌∙◌, subst, arith}
use Rattle.csr_store.specs.inner.Cells.{AreStacked}
use Rattle.csr_store.proofs.InRuns.{room_behind, view_stacked, stacked_more}
use Rattle.csr_store.proofs.Joining.{ends_fit}
use Rattle.csr_store.proofs.stack.Stack.add.Goals as goal

pub add-requires : goal.add-requires
add-requires c =
    let cells = c.into_parts-ends.result.1 in
    let parts = c.into_parts-ends.ensures in
    let capacity = room_behind c.args.self c.args.run c.self.inside.columns c.self.inside.entries c.self.inside.starts c.into_parts-ends.result.0 c.self.inside.lists.items cells
    c.self.invariant c.self.view_is parts.rows parts.ended parts.opened c.requires in
    ends_fit c.self.inside.entries 0 (length cells.items) c.into_parts-ends.result.0 parts.rows.ends_rise (omega (arith, capacity))

pub invariant_of-result : goal.invariant_of-result
invariant_of-result c =
    let cells = c.into_parts-ends.result.1 in
    let parts = c.into_parts-ends.ensures in
    subst (λ n. AreStacked c.self.inside.columns (c.self.inside.entries + n) c.add.new.self c.push.new.self.items) (sym (c.len-count.ensures ∙ cells.ok.0))
    (stacked_more c.args.self c.args.run c.self.inside.columns c.self.inside.entries c.self.inside.starts c.into_parts-ends.result.0 c.self.inside.lists.items cells
    c.self.invariant c.self.view_is parts.rows parts.ended parts.opened c.requires
    c.add.new.self c.push.new.self.items c.in_ok-add.ensures c.in_ok-push.ensures.items)

pub returns : goal.returns
returns c =
    let cells = c.into_parts-ends.result.1 in
    let parts = c.into_parts-ends.ensures in
    view_stacked c.args.self c.args.run c.self.inside.columns c.self.inside.entries c.self.inside.starts c.into_parts-ends.result.0 c.self.inside.lists.items cells
    c.self.invariant c.self.view_is parts.rows parts.ended parts.opened c.requires
    c.add.new.self c.push.new.self.items c.in_ok-add.ensures c.in_ok-push.ensures.items
