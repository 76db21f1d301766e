use Rattle.std.proofs.Common.{Some, rules}
use Rattle.std.proofs.lemmas.Map.Text.{btree_map_updates_text}
use Rattle.workspace.proofs.Naming.{declared_kept, value_after}
use Rattle.workspace.proofs.names.Names.bind.Goals as goal

pub returns-in-Some-clause-bound : goal.returns-in-Some-clause-bound
returns-in-Some-clause-bound g c =
    let n = c.get_mut.follows.lender (Some c.args.value) in
    value_after c.args.self.now.declared n c.args.name.now _ (btree_map_updates_text c.args.name.now c.args.self.now.declared n _ ((c.get_mut.follows.holds (Some c.args.value)).3 (search rules)))

pub returns-in-Some-clause-unchanged : goal.returns-in-Some-clause-unchanged
returns-in-Some-clause-unchanged g c =
    let n = c.get_mut.follows.lender (Some c.args.value) in
    declared_kept c.args.self.now.declared n c.args.name.now _ (btree_map_updates_text c.args.name.now c.args.self.now.declared n _ ((c.get_mut.follows.holds (Some c.args.value)).3 (search rules)))
