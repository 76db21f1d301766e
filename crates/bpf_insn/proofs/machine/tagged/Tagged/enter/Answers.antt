use Rattle.std.proofs.Common.{◌≡◌, true, ℕ, List, [], ◌∷◌, refl, sym, ap, subst, ◌∙◌, slice_index_or}
use Rattle.std.specs.Prelude.{pos, Option}
use Rattle.bpf_insn.specs.declared.content.Content.{Content}
use Rattle.bpf_insn.specs.declared.content.Content.TheVariants.{Unset, Place}
use Rattle.bpf_insn.specs.declared.operands.Operands.{Operands}
use Rattle.bpf_insn.specs.declared.operands.Operands.TheVariants.{Unary, Binary, Index}
use Rattle.bpf_insn.specs.Machine.{State, Running, arguments, entry_registers, is_at_insn}
use Rattle.bpf_insn.proofs.Slots.{begins_first}
use Rattle.bpf_insn.proofs.machine.tagged.Tagged.enter.Goals as goal

abbrev set_out : List Content → List Content
set_out a = Unset ∷ slice_index_or a 0 Unset ∷ slice_index_or a 1 Unset ∷ slice_index_or a 2 Unset ∷ slice_index_or a 3 Unset ∷ Unset ∷ Unset ∷ Unset ∷ Unset ∷ Unset ∷ Place (pos 0) ∷ []

abbrev begun : List Content → List (Option ℕ) → State
begun registers stack = Running (record { slot = 0; registers = registers; stack = stack })

in_place : (operands : Operands) → set_out (arguments operands) ≡ entry_registers operands
in_place (Unary x) = refl
in_place (Binary x y) = refl
in_place (Index x row column thunk) = refl

pub returns-clause-entry : goal.returns-clause-entry
returns-clause-entry c = ap (λ a. begun (set_out a) c.empty_stack.result) c.arguments.ensures ∙ ap (λ r. begun r c.empty_stack.result) (in_place c.args.operands.now) ∙ ap (begun (entry_registers c.args.operands.now)) c.empty_stack.ensures

pub returns-clause-ready : goal.returns-clause-ready
returns-clause-ready c =
    λ insns some. subst (λ s. is_at_insn insns s ≡ true) (sym (returns-clause-entry c)) (begins_first insns some)
