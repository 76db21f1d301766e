-- That the machine alone decides what a call of an accepted operator gives and costs. This project's own.
use Rattle.std.specs.Prelude.{◌≡◌, ℕ}
use Rattle.bpf_insn.specs.declared.operands.Operands.{Operands}
use Rattle.bpf_insn.specs.Machine.{kind_of}
use Rattle.bpf_insn.specs.Run.{HasValue}
use Rattle.bpf_verify.specs.Accepted.{Accepted}
use Rattle.bpf_run.specs.Meaning.{AgreesWithMachine, value_of, cost_of}

-- on all operands of the operator's kind the machine has these values, at these costs
abbrev pub AreOfMachine : Accepted → (Operands → ℕ) → (Operands → ℕ) → Type 0
AreOfMachine operator value cost =
    (operands : Operands) → kind_of operands ≡ operator.kind
    → HasValue operator.insns operands (value operands) (cost operands)

-- If `value_of` and `cost_of` agree with the machine, as the batch theorem says of each operator of a batch, then whatever else
-- agrees with it is equal to these two. So it doesn't matter how these two compute.
abbrev pub NoOtherMeaning : Type 0
NoOtherMeaning =
    (operator : Accepted) → AgreesWithMachine operator → (value cost : Operands → ℕ) → AreOfMachine operator value cost
    → (operands : Operands) → kind_of operands ≡ operator.kind
    → (value operands ≡ value_of operator operands) × (cost operands ≡ cost_of operator operands)
