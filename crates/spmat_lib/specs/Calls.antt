-- What `spmat_call` answers: what the verifier says of code, and the values and the steps of calls. This project's own.
use Rattle.std.specs.Prelude.{◌≡◌, ◌⊎◌, ◌+◌, ◌*◌, ◌==◌, ◌&&◌, if◌then◌else◌, ℕ, zero, suc, List, [], ◌∷◌, ◌++◌}
use Rattle.std.specs.Prelude.{length, map, slice_get, unwrap_or, Option, Some, None, Result, IfErr, IfOk}
use Rattle.bpf_insn.specs.declared.insn.Insn.{Insn}
use Rattle.bpf_insn.specs.declared.fault.Fault.{Fault}
use Rattle.bpf_insn.specs.declared.operands.Kind.{Kind}
use Rattle.bpf_insn.specs.declared.operands.Kind.TheVariants as kinds
use Rattle.bpf_insn.specs.declared.operands.Operands.{Operands}
use Rattle.bpf_insn.specs.declared.operands.Operands.TheVariants as on
use Rattle.bpf_insn.specs.Code.{Spells, IsCodeFault}
use Rattle.bpf_verify.specs.Accepted.{Accepted, IsAcceptable, IsFault}
use Rattle.bpf_run.specs.Meaning.{value_of, cost_of}
use Rattle.spmat_lib.specs.declared.verdict.Verdict.{Verdict}
use Rattle.spmat_lib.specs.Verdict.{ruled}

abbrev pub word_at : List ℕ → ℕ → ℕ
word_at words n = unwrap_or (slice_get words n) 0

-- the operands of a call, counted from 0, whose words stand in an array behind those of the calls before it
abbrev pub operands_at : Kind → List ℕ → ℕ → Operands
operands_at kinds.Unary words k = on.Unary (word_at words k)
operands_at kinds.Binary words k = on.Binary (word_at words (2 * k)) (word_at words (2 * k + 1))
operands_at kinds.Index words k =
    on.Index (word_at words (4 * k)) (word_at words (4 * k + 1)) (word_at words (4 * k + 2)) (word_at words (4 * k + 3))

-- the operands of the first calls, as many as the number says
abbrev pub operands_below : Kind → List ℕ → ℕ → List Operands
operands_below kind words zero = []
operands_below kind words (suc k) = operands_below kind words k ++ operands_at kind words k ∷ []

-- the kind of operator that takes so many words a call, where the three arrays are of one number of calls
abbrev pub kind_for : (words operands values steps : ℕ) → Option Kind
kind_for words operands values steps =
    if words == 1 && operands == values && steps == values then Some kinds.Unary
    else if words == 2 && operands == 2 * values && steps == values then Some kinds.Binary
    else if words == 4 && operands == 4 * values && steps == values then Some kinds.Index
    else None

-- why code is no operator: its fault, or that of its program; or, if it spells a program, that memory was refused
abbrev pub IsRefused : Kind → List ℕ → Option Fault → Type 0
IsRefused kind code (Some fault) = IsCodeFault code fault ⊎ ((insns : List Insn) × Spells code insns × IsFault kind insns fault)
IsRefused kind code None = (insns : List Insn) × Spells code insns

-- The numbers tell what came of the code as an operator of the kind: an accepted operator, of which the arrays have the value
-- and the steps of each call, or why it was refused.
pub record AreCalled (kind : Kind) (code operands values steps : List ℕ) (verdict : Verdict) : Type 0 where
  pub outcome : Result Accepted (Option Fault)
  pub told : verdict ≡ ruled outcome
  pub spelt : IfOk outcome (λ operator. Spells code operator.insns)
  pub acceptable : IfOk outcome (λ operator. IsAcceptable kind operator.insns)
  pub values_are : IfOk outcome (λ operator. values ≡ map (value_of operator) (operands_below kind operands (length values)))
  pub steps_are : IfOk outcome (λ operator. steps ≡ map (cost_of operator) (operands_below kind operands (length values)))
  pub refusal : IfErr outcome (IsRefused kind code)

-- the same where the arrays fit a kind; where they fit none, the numbers say so
abbrev pub Answers : Option Kind → (code operands values steps : List ℕ) → Verdict → Type 0
Answers (Some kind) code operands values steps verdict = AreCalled kind code operands values steps verdict
Answers None code operands values steps verdict = verdict ≡ record { rule = 18; at = 0; size = 0 }
