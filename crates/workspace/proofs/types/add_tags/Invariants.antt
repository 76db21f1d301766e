use Rattle.std.proofs.Common.{◌≡◌, ◌++◌, drop}
use Rattle.std.specs.List.{flat_map}
use Rattle.workspace.specs.Types as spec
use Rattle.workspace.proofs.types.add_tags.Given as goal

abbrev pub invariant-loop-tag : goal.invariant-loop-tag
invariant-loop-tag l = l.text.items ++ flat_map spec.tag_text (drop l.tag-index l.tags) ≡ l.fn.text.items ++ flat_map spec.tag_text l.tags
