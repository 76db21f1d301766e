use Rattle.std.proofs.Common.{◌∙◌, sym}
use Rattle.bpf_text.specs.inner.Arguments.{list_of}
use Rattle.bpf_text.proofs.Statements.{other_kinds, unknown_register, out_of_range}
use Rattle.bpf_text.proofs.statement.broken_rule.Goals as goal

pub returns-in_default : goal.returns-in_default
returns-in_default c =
    other_kinds c.args.mnemonic (list_of c.args.arguments) (λ i f e o. c.in_default.ensures i f e (o ∙ sym c.cleared.ensures))

pub returns-then-have_unknown_register : goal.returns-then-have_unknown_register
returns-then-have_unknown_register c =
    let found = c.in-Some.ensures in
    unknown_register c.args.mnemonic (list_of c.args.arguments) _ found.1 (found.2 ∙ c.cleared.ensures) (sym c.have_unknown_register.ensures ∙ c.if-have_unknown_register.true)

pub returns-else-have_unknown_register : goal.returns-else-have_unknown_register
returns-else-have_unknown_register c =
    let found = c.in-Some.ensures in
    out_of_range c.args.mnemonic (list_of c.args.arguments) _ found.1 (found.2 ∙ c.cleared.ensures) (sym c.have_unknown_register.ensures ∙ c.if-have_unknown_register.false)
    c.requires
