-- What stands beside specs/Binds.antt for this crate's own modules and proofs.
use Rattle.std.specs.Prelude.{ℕ, ◌⊎◌, List, []}
use Rattle.bpf_insn.specs.declared.operands.Kind.{Kind}
use Rattle.bpf_insn.specs.declared.insn.Insn.{Insn}
use Rattle.bpf_insn.specs.Code.{Spells}
use Rattle.bpf_verify.specs.Slots.{HasNoSlotFault}
use Rattle.command_text.specs.declared.refusal.Refusal.TheVariants as no
use Rattle.workspace.specs.State.{State}
use Rattle.workspace.specs.Turn.{Refuses, TakesOperator, TakesProgram}

-- the program is taken; or there is no memory, and it has no slot fault
abbrev pub BindsProgram : State → List ℕ → Kind → List Insn → List ℕ → State → Type 0
BindsProgram old name kind program reply new =
    (HasNoSlotFault program × Refuses no.Memory old [] reply new) ⊎ TakesProgram old name kind program [] reply new

-- the code is taken; or there is no memory, and it is that of a program
abbrev pub BindsCode : State → List ℕ → Kind → List ℕ → List ℕ → State → Type 0
BindsCode old name kind code reply new =
    ((program : List Insn) × Spells code program × Refuses no.Memory old [] reply new)
    ⊎ TakesOperator old name kind code [] reply new
