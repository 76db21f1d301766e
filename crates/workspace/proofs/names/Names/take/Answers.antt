use Rattle.std.proofs.Common.{rules, ap, ◌∙◌}
use Rattle.std.proofs.lemmas.Map.Text.{btree_map_updates_text}
use Rattle.std.specs.Map.{update}
use Rattle.std.specs.Str.{bytes_eq}
use Rattle.workspace.specs.Names.{value_at}
use Rattle.workspace.proofs.Naming.{value_after}
use Rattle.workspace.proofs.names.Names.take.Goals as goal

pub returns-in-Some-clause-left : goal.returns-in-Some-clause-left
returns-in-Some-clause-left g c = λ other.
    let n = c.get_mut.follows.lender c.take.new.self in
    value_after c.args.self.now.declared n c.args.name.now _ (btree_map_updates_text c.args.name.now c.args.self.now.declared n _ ((c.get_mut.follows.holds c.take.new.self).3 (search rules))) other
    ∙ ap (λ w. update bytes_eq (value_at c.args.self.now.declared) c.args.name.now w other) c.take.ensures.after
