-- Commands that bind a name, once their body is there: as in their turn, and where memory is wanting, which refusals are named
-- before (this project's own).
use Rattle.std.specs.Prelude.{ℕ, ◌⊎◌, MatchBool, List, [], Option, None, Some}
use Rattle.bpf_insn.specs.declared.operands.Kind.{Kind}
use Rattle.bpf_insn.specs.declared.insn.Insn.{Insn}
use Rattle.bpf_text.specs.Text.{IsTextOf as IsAssemblyOf}
use Rattle.matrix_market.specs.Refusal.{HasSizes}
use Rattle.command_text.specs.Hexadecimal.{without_gaps}
use Rattle.command_text.specs.Requests.{Header, MatrixHeader, OpHeader, AsmHeader}
use Rattle.command_text.specs.Words.{is_name, kind_of_word}
use Rattle.command_text.specs.declared.refusal.Refusal.TheVariants as no
use Rattle.command_text.specs.declared.rules.SessionRule.TheVariants.{MalformedWords, MalformedName}
use Rattle.hex.specs.Hex.{decode_of}
use Rattle.workspace.specs.State.{State}
use Rattle.workspace.specs.Turn.{Refuses, TakesMatrix, TakesAssembly, TakesDigits}

-- the text is taken; or there is no memory, and its lines up to the sizes break no rule
abbrev pub BindsText : State → List ℕ → List ℕ → List ℕ → State → Type 0
BindsText old name body reply new =
    (HasSizes body × Refuses no.Memory old [] reply new) ⊎ TakesMatrix old name body [] reply new

-- the assembly text is taken; or there is no memory, and it is that of a program
abbrev pub BindsAssembly : State → List ℕ → Kind → List ℕ → List ℕ → State → Type 0
BindsAssembly old name kind text reply new =
    ((program : List Insn) × IsAssemblyOf text program × Refuses no.Memory old [] reply new)
    ⊎ TakesAssembly old name kind text [] reply new

-- ---- whole commands

abbrev pub BindsMatrix : State → List ℕ → List ℕ → List ℕ → State → Type 0
BindsMatrix old name body reply new =
    MatchBool (is_name name) (BindsText old name body reply new) (Refuses (no.Session MalformedName) old [] reply new)

abbrev pub BindsDigits : State → List ℕ → Option Kind → List ℕ → List ℕ → State → Type 0
BindsDigits old name None body reply new = Refuses (no.Session MalformedWords) old [] reply new
BindsDigits old name (Some kind) body reply new =
    MatchBool (is_name name)
    (Refuses no.Memory old [] reply new ⊎ TakesDigits old name kind (decode_of (without_gaps body)) [] reply new)
    (Refuses (no.Session MalformedName) old [] reply new)

abbrev pub BindsLines : State → List ℕ → Option Kind → List ℕ → List ℕ → State → Type 0
BindsLines old name None body reply new = Refuses (no.Session MalformedWords) old [] reply new
BindsLines old name (Some kind) body reply new =
    MatchBool (is_name name) (BindsAssembly old name kind body reply new) (Refuses (no.Session MalformedName) old [] reply new)

-- A command binds its name, or is refused. Out of memory is reported only behind each refusal of KIND and of NAME, of `matrix`
-- behind each of a line up to the sizes, and of `asm` behind each of a line.
abbrev pub Binds : State → Header → List ℕ → List ℕ → State → Type 0
Binds old (MatrixHeader name) body reply new = BindsMatrix old name body reply new
Binds old (OpHeader name kind) body reply new = BindsDigits old name (kind_of_word kind) body reply new
Binds old (AsmHeader name kind) body reply new = BindsLines old name (kind_of_word kind) body reply new
