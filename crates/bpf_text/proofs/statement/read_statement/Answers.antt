use Rattle.std.proofs.Common.{List, ℕ, map, subst}
use Rattle.bpf_text.specs.declared.rule.AsmRule.TheVariants.{MalformedOperands}
use Rattle.bpf_text.specs.Lines.{argument_in, operand_texts_of}
use Rattle.bpf_text.specs.inner.Reading.{IsLowestMisnamed}
use Rattle.bpf_text.proofs.Statements.{not_operands}
use Rattle.bpf_text.proofs.statement.read_statement.Goals as goal

pub returns-in_default-parse : goal.returns-in_default-parse
returns-in_default-parse c =
    subst (λ (word : List ℕ). IsLowestMisnamed word (map argument_in (operand_texts_of c.args.operands.now)) MalformedOperands)
    c.in-Some.ensures (not_operands c.in-Some.mnemonic (map argument_in (operand_texts_of c.args.operands.now)) c.in_default-parse.ensures)
