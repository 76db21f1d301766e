use Rattle.std.proofs.Common.{subst}
use Rattle.bpf_verify.specs.Accepted.{IsAccepted}
use Rattle.bpf_verify.specs.inner.Pass.{IsExact, ExplainsTyping}
use Rattle.bpf_verify.proofs.SlotPass.{clean_of}
use Rattle.bpf_verify.proofs.Accepting.{accepted, explained}
use Rattle.bpf_verify.proofs.checked.check.Goals as goal

pub typed-requires-clause-clean : goal.typed-requires-clause-clean
typed-requires-clause-clean c = clean_of c.args.program c.in_default.ensures.none

is_accepted : (c : goal.In-Ok) → IsAccepted (record { kind = c.args.kind; insns = c.args.program; table = c.in-Ok.table.items })
is_accepted c = accepted c.args.kind c.args.program c.in-Ok.table.items c.slot_fault.ensures.program c.in_default.ensures.none (subst (λ entry. IsExact c.args.program entry c.in-Ok.table.items) c.entry_tags.ensures.tags c.in-Ok.ensures.exact)

pub invariant_of-result : goal.invariant_of-result
invariant_of-result c = is_accepted c

pub returns-in-Ok-clause-accepted : goal.returns-in-Ok-clause-accepted
returns-in-Ok-clause-accepted c = is_accepted c

pub returns-in-Err-clause-refused : goal.returns-in-Err-clause-refused
returns-in-Err-clause-refused c = explained c.args.kind c.args.program c.in-Err.error c.in_default.ensures.none (subst (λ entry. ExplainsTyping c.args.program entry c.in-Err.error) c.entry_tags.ensures.tags c.in-Err.ensures.refused)
