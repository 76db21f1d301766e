use Rattle.std.proofs.Common.{sym, ◌∙◌}
use Rattle.std.specs.String.{string_bytes}
use Rattle.std.proofs.lemmas.Map.Text.{btree_map_updates_text}
use Rattle.workspace.proofs.Naming.{declared_kept, value_still, undeclared}
use Rattle.workspace.proofs.names.Names.declare.Goals as goal

pub returns-clause-same : goal.returns-clause-same
returns-clause-same g c =
    let bs = string_bytes c.in_ok-key.key in
    value_still c.args.self.now.declared c.insert.new.self bs (btree_map_updates_text bs c.args.self.now.declared c.insert.new.self _ c.in_ok-insert.ensures.updates)
    (undeclared c.args.self.now.declared bs c.args.name.now c.in_ok-key.ensures.ok (sym c.contains_key.ensures ∙ c.if-contains_key.false))

pub returns-clause-unchanged : goal.returns-clause-unchanged
returns-clause-unchanged g c =
    let bs = string_bytes c.in_ok-key.key in
    declared_kept c.args.self.now.declared c.insert.new.self bs _ (btree_map_updates_text bs c.args.self.now.declared c.insert.new.self _ c.in_ok-insert.ensures.updates)
