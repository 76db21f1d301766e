use Rattle.std.proofs.Common.{sym, ◌∙◌}
use Rattle.command_text.proofs.Naming.{name_is_text}
use Rattle.command_text.proofs.name.as_name.Goals as goal

pub unreachable-requires : goal.unreachable-requires
unreachable-requires c = c.in-Err.ensures.cases.0 (name_is_text c.args.word.now (sym c.is_name.ensures ∙ c.if-not-is_name.false))
