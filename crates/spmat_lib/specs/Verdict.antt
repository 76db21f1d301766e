-- What is told of an operator's text or code: what the assembler and the verifier say, in numbers. This project's own.
use Rattle.std.specs.Prelude.{◌≡◌, ◌≤◌, ℕ, List, length, take, Option, Some, None, Result, Err, Ok, IfErr, IfOk}
use Rattle.bpf_insn.specs.declared.insn.Insn.{Insn}
use Rattle.bpf_insn.specs.declared.fault.Fault.{Fault}
use Rattle.bpf_insn.specs.Code.{code_of}
use Rattle.bpf_insn.specs.Rule as code
use Rattle.bpf_text.specs.declared.fault.AsmError.{AsmError}
use Rattle.bpf_text.specs.declared.fault.AsmError.TheVariants as errors
use Rattle.bpf_text.specs.Rule as text
use Rattle.bpf_text.specs.Text.{IsTextOf, ExplainsRefusal}
use Rattle.bpf_verify.specs.Accepted.{Accepted}
use Rattle.spmat_lib.specs.declared.verdict.Verdict.{Verdict}

abbrev pub no_memory : Verdict
no_memory = record { rule = 17; at = 0; size = 0 }

-- what came of a text, in numbers; its size is that of its code
abbrev pub assembled : Result (List Insn) AsmError → Verdict
assembled (Ok insns) = record { rule = 0; at = 0; size = length (code_of insns) }
assembled (Err (errors.Fault fault)) = record { rule = text.rule_number fault.rule; at = fault.line; size = 0 }
assembled (Err errors.Memory) = no_memory

-- what came of code, in numbers: an operator, whose size is the number of its instructions; or a fault; or that memory was refused
abbrev pub ruled : Result Accepted (Option Fault) → Verdict
ruled (Ok operator) = record { rule = 0; at = 0; size = length operator.insns }
ruled (Err (Some fault)) = record { rule = code.rule_number fault.rule; at = fault.slot; size = 0 }
ruled (Err None) = no_memory

-- an array with room for the code begins with it
abbrev pub HasCode : List Insn → List ℕ → Type 0
HasCode insns array = length (code_of insns) ≤ length array → take (length (code_of insns)) array ≡ code_of insns

-- The numbers tell what came of the text: the program that it denotes, whose code the array has, or why it was refused.
pub record IsAssembly (text array : List ℕ) (verdict : Verdict) : Type 0 where
  pub outcome : Result (List Insn) AsmError
  pub told : verdict ≡ assembled outcome
  pub text_of : IfOk outcome (λ insns. IsTextOf text insns)
  pub code : IfOk outcome (λ insns. HasCode insns array)
  pub refusal : IfErr outcome (ExplainsRefusal text)
