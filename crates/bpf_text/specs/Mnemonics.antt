-- The mnemonic and the operands of an instruction. The instructions are those of RFC 9669, sections 4 and 5; how they are written
-- is this project's own. Mnemonics are composed as the instruction set composes opcodes: what is done, then on how many bits.
use Rattle.std.specs.Prelude.{ℕ, List, [], ◌∷◌, ◌++◌, codes}
use Rattle.std.specs.Int.{cast_signed, w64}
use Rattle.bpf_insn.specs.declared.insn.Operand.{Operand}
use Rattle.bpf_insn.specs.declared.insn.Operand.TheVariants as operands
use Rattle.bpf_insn.specs.declared.insn.Insn.{Insn}
use Rattle.bpf_insn.specs.declared.insn.Insn.TheVariants as insns
use Rattle.bpf_text.specs.declared.argument.Argument.{Argument}
use Rattle.bpf_text.specs.declared.argument.Argument.TheVariants.{Register, Number}
use Rattle.bpf_text.specs.declared.mnemonic.Mnemonic.{Mnemonic}
use Rattle.bpf_text.specs.declared.mnemonic.Mnemonic.TheVariants.{Alu, Neg, Movsx, End, Ja, Ja32, Jump, Exit, Ldx, Ldsx, Stx, St}
use Rattle.bpf_text.specs.declared.mnemonic.Mnemonic.TheVariants.{Wide}
use Rattle.bpf_text.specs.Names.{width_name, operation_name, condition_name, extension_name, order_name, end_size_name, size_name}
use Rattle.bpf_text.specs.Names.{signed_size_name}

-- the mnemonic of an instruction: the instruction without its operands
abbrev pub mnemonic_of : Insn → Mnemonic
mnemonic_of (insns.Alu w op d s) = Alu w op
mnemonic_of (insns.Neg w d) = Neg w
mnemonic_of (insns.Movsx e d s) = Movsx e
mnemonic_of (insns.End o z d) = End o z
mnemonic_of (insns.Ja off) = Ja
mnemonic_of (insns.Ja32 off) = Ja32
mnemonic_of (insns.Jump w c l r off) = Jump w c
mnemonic_of insns.Exit = Exit
mnemonic_of (insns.Ldx z d b off) = Ldx z
mnemonic_of (insns.Ldsx z d b off) = Ldsx z
mnemonic_of (insns.Stx z b off s) = Stx z
mnemonic_of (insns.St z b off n) = St z
mnemonic_of (insns.Wide d v) = Wide

abbrev pub mnemonic_text : Mnemonic → List ℕ
mnemonic_text (Alu w op) = operation_name op ++ width_name w
mnemonic_text (Neg w) = codes "neg" ++ width_name w
mnemonic_text (Movsx e) = codes "movs" ++ extension_name e
mnemonic_text (End o z) = order_name o ++ end_size_name z
mnemonic_text Ja = codes "ja"
mnemonic_text Ja32 = codes "ja32"
mnemonic_text (Jump w c) = condition_name c ++ width_name w
mnemonic_text Exit = codes "exit"
mnemonic_text (Ldx z) = codes "ldx" ++ size_name z
mnemonic_text (Ldsx z) = codes "ldsx" ++ signed_size_name z
mnemonic_text (Stx z) = codes "stx" ++ size_name z
mnemonic_text (St z) = codes "st" ++ size_name z
mnemonic_text Wide = codes "wide"

-- a second operand is a register or a number
abbrev pub argument_of_operand : Operand → Argument
argument_of_operand (operands.Imm n) = Number n
argument_of_operand (operands.Register r) = Register r

-- the operands of an instruction, in the order in which they are written; the base of a load or a store comes before its offset
abbrev pub operands_of : Insn → List Argument
operands_of (insns.Alu w op d s) = Register d ∷ argument_of_operand s ∷ []
operands_of (insns.Neg w d) = Register d ∷ []
operands_of (insns.Movsx e d s) = Register d ∷ Register s ∷ []
operands_of (insns.End o z d) = Register d ∷ []
operands_of (insns.Ja off) = Number off ∷ []
operands_of (insns.Ja32 off) = Number off ∷ []
operands_of (insns.Jump w c l r off) = Register l ∷ argument_of_operand r ∷ Number off ∷ []
operands_of insns.Exit = []
operands_of (insns.Ldx z d b off) = Register d ∷ Register b ∷ Number off ∷ []
operands_of (insns.Ldsx z d b off) = Register d ∷ Register b ∷ Number off ∷ []
operands_of (insns.Stx z b off s) = Register b ∷ Number off ∷ Register s ∷ []
operands_of (insns.St z b off n) = Register b ∷ Number off ∷ Number n ∷ []
operands_of (insns.Wide d v) = Register d ∷ Number (cast_signed w64 v) ∷ []
