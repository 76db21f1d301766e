use Rattle.bpf_insn.proofs.Faults.{bad_field_is_lowest}
use Rattle.bpf_insn.proofs.check.check.Goals as goal

pub returns-then-has_bad_field-clause-lowest : goal.returns-then-has_bad_field-clause-lowest
returns-then-has_bad_field-clause-lowest c =
    λ bytes. bad_field_is_lowest c.in-Some.opcode c.args.slot bytes c.in-Some.ensures.some (cc) (cc) (cc)
