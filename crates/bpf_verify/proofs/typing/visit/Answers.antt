use Rattle.std.proofs.Common.{◌∙◌, sym, ap, Some, arith}
use Rattle.std.specs.Prelude.{option_copied}
use Rattle.bpf_insn.specs.declared.rule.CodeRule.TheVariants.{OutsideStack}
use Rattle.bpf_verify.specs.Table.{known, known_in}
use Rattle.bpf_verify.proofs.Stepping.{exact_step, exact_skipped, exact_refused}
use Rattle.bpf_verify.proofs.Table.{known_get}
use Rattle.bpf_verify.proofs.typing.visit.Goals as goal

pub returns-in_default-clause-exact : goal.returns-in_default-clause-exact
returns-in_default-clause-exact c = λ entry fit x. exact_skipped c.args.slot c.args.program.now entry c.args.table.now.items c.requires.clean (λ i k at was. let none = sym c.insn_at.ensures ∙ ap option_copied c.in_default.is in cc) x

pub returns-in_default-index-clause-exact : goal.returns-in_default-index-clause-exact
returns-in_default-index-clause-exact c = λ entry fit x.
    let none = known_get c.args.table.now.items c.args.slot c.index.result.now (omega (arith, c.requires.len, c.requires.within)) c.index.ensures ∙ ap (λ o. known_in (Some o)) c.in_default-index.is in
    exact_skipped c.args.slot c.args.program.now entry c.args.table.now.items c.requires.clean (λ i k at was. cc) x

pub returns-in-Some-refusal-clause-refused : goal.returns-in-Some-refusal-clause-refused
returns-in-Some-refusal-clause-refused c = λ entry x.
    let here = sym c.insn_at.ensures ∙ ap option_copied c.in-Some.is in
    let was = known_get c.args.table.now.items c.args.slot c.index.result.now (omega (arith, c.requires.len, c.requires.within)) c.index.ensures ∙ ap (λ o. known_in (Some o)) c.in-Some-index.is in
    exact_refused c.args.slot c.args.program.now entry c.args.table.now.items c.in-Some.insn.now (known c.in-Some-index.facts) c.in-Some-refusal.rule c.requires.clean here was x c.in-Some-refusal.ensures.some

pub after-requires : goal.after-requires
after-requires c = c.in_default-refusal.ensures.none OutsideStack

pub lead_on-requires : goal.lead_on-requires
lead_on-requires c =
    let slot = c.requires.clean c.args.slot c.in-Some.insn.now (sym c.insn_at.ensures ∙ ap option_copied c.in-Some.is) in
    record { len = c.requires.len; few = omega (arith, c.requires.within, c.requires.few); good = slot.targets_good }

pub returns-clause-exact : goal.returns-clause-exact
returns-clause-exact c = λ entry fit x.
    let here = sym c.insn_at.ensures ∙ ap option_copied c.in-Some.is in
    let was = known_get c.args.table.now.items c.args.slot c.index.result.now (omega (arith, c.requires.len, c.requires.within)) c.index.ensures ∙ ap (λ o. known_in (Some o)) c.in-Some-index.is in
    exact_step c.args.slot c.args.program.now entry c.args.table.now.items c.lead_on.new.table.items c.in-Some.insn.now (known c.in-Some-index.facts) (known c.after.result) c.requires.clean fit.eleven here was x c.in_default-refusal.ensures.none c.after.ensures c.lead_on.ensures.adds
