use Rattle.std.proofs.Common.{◌≡◌, true, refl, sym, ap, ◌∙◌, subst}
use Rattle.std.specs.Prelude.{Some, None, pos}
use Rattle.std.specs.Option.{option_map}
use Rattle.bpf_insn.specs.declared.frame.Frame.{Frame}
use Rattle.bpf_insn.specs.declared.insn.Insn.TheVariants.{Exit}
use Rattle.bpf_insn.specs.declared.rule.CodeRule.TheVariants.{OutsideStack}
use Rattle.bpf_insn.specs.Effects.{next_slot}
use Rattle.bpf_insn.specs.Machine.{Running, Done, slot_of, state_of, is_at_insn, IsStep, IsStuckBy}
use Rattle.bpf_insn.specs.Program.{insn_at}
use Rattle.bpf_insn.proofs.Steps.{running, is_after, goes_up, reads_numbers, no_next, none_left}
use Rattle.bpf_insn.proofs.machine.tagged.Tagged.step.Goals as goal

pub execute-requires : goal.execute-requires
execute-requires c = c.in-Ok.ensures.unbroken OutsideStack

pub returns-in_default : goal.returns-in_default
returns-in_default c =
    let f = c.self.inside.frame in
    let insns = c.args.program.now in
    let i = c.fetch-insn.result in
    let none = running insns c.self.inside.value f (subst (λ s. is_at_insn insns s ≡ true) (sym c.self.view_is) c.requires) in
    let at : c.args.self.now ≡ Running f = sym c.self.view_is ∙ ap (λ v. state_of v f) none in
    let here = ap (insn_at insns) (sym c.from-slot.ensures) ∙ c.fetch-insn.ensures in
    let ended : next_slot f.registers f.slot i ≡ None = c.in-Ok.ensures.next ∙ ap (option_map pos) (none_left c.in-Ok.next c.in_default.not-Some) in
    let exit : i ≡ Exit = no_next f i (reads_numbers insns f i c.in-Ok.ensures.unbroken) ended in
    let step : IsStep insns (Running f) (Done c.number-value.result) = record { insn = i; here = here; unbroken = c.in-Ok.ensures.unbroken; leads = (exit, c.number-value.ensures) } in
    (subst (λ s. IsStep insns s (Done c.number-value.result)) (sym at) step, refl)

pub returns-in-Err : goal.returns-in-Err
returns-in-Err c =
    let f = c.self.inside.frame in
    let insns = c.args.program.now in
    let none = running insns c.self.inside.value f (subst (λ s. is_at_insn insns s ≡ true) (sym c.self.view_is) c.requires) in
    let at : c.args.self.now ≡ Running f = sym c.self.view_is ∙ ap (λ v. state_of v f) none in
    let here = ap (insn_at insns) (sym c.from-slot.ensures) ∙ c.fetch-insn.ensures in
    let stuck : IsStuckBy insns (Running f) c.in-Err.rule = record { insn = c.fetch-insn.result; here = here; broken = c.in-Err.ensures.broken } in
    (subst (λ s. IsStuckBy insns s c.in-Err.rule) (sym at) stuck, ap slot_of at ∙ ap Some (sym c.from-slot.ensures), refl)

pub returns : goal.returns
returns c =
    let f = c.self.inside.frame in
    let g : Frame = record { slot = c.in-Some.to; registers = c.execute.new.self.registers; stack = c.execute.new.self.stack } in
    let insns = c.args.program.now in
    let i = c.fetch-insn.result in
    let none = running insns c.self.inside.value f (subst (λ s. is_at_insn insns s ≡ true) (sym c.self.view_is) c.requires) in
    let at : c.args.self.now ≡ Running f = sym c.self.view_is ∙ ap (λ v. state_of v f) none in
    let now : state_of c.self.inside.value g ≡ Running g = ap (λ v. state_of v g) none in
    let here = ap (insn_at insns) (sym c.from-slot.ensures) ∙ c.fetch-insn.ensures in
    let next : next_slot f.registers f.slot i ≡ Some (pos c.in-Some.to) = c.in-Ok.ensures.next ∙ ap (option_map pos) c.in-Some.is in
    let after = is_after f c.execute.new.self i (pos c.in-Some.to) c.in-Some.to next refl c.execute.ensures in
    let step : IsStep insns (Running f) (Running g) = record { insn = i; here = here; unbroken = c.in-Ok.ensures.unbroken; leads = after } in
    let ready : is_at_insn insns (Running g) ≡ true = (goes_up insns f g step).1 in
    (subst (λ s. IsStep insns s (state_of c.self.inside.value g)) (sym at) (subst (λ t. IsStep insns (Running f) t) (sym now) step), ap (is_at_insn insns) now ∙ ready)
