use Rattle.std.proofs.Common.{◌∙◌, sym, ap}
use Rattle.std.specs.Prelude.{option_copied}
use Rattle.bpf_verify.proofs.SlotPass.{next_sound, next_fault, next_skipped}
use Rattle.bpf_verify.proofs.slot_pass.rule_at.Goals as goal

pub returns-in-Some-clause-none : goal.returns-in-Some-clause-none
returns-in-Some-clause-none c = next_sound c.args.program.now c.args.slot c.in-Some.insn.now c.slot_rule.result (sym c.insn_at.ensures ∙ ap option_copied c.in-Some.is) c.slot_rule.ensures

pub returns-in-Some-clause-some : goal.returns-in-Some-clause-some
returns-in-Some-clause-some c = next_fault c.args.program.now c.args.slot c.in-Some.insn.now c.slot_rule.result (sym c.insn_at.ensures ∙ ap option_copied c.in-Some.is) c.slot_rule.ensures

pub returns-in-None-clause-none : goal.returns-in-None-clause-none
returns-in-None-clause-none c =
    next_skipped c.args.program.now c.args.slot (sym c.insn_at.ensures ∙ ap option_copied c.in-None.is)
