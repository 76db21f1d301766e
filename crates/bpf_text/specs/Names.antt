-- The names of the parts of mnemonics, and of registers. The parts are those of RFC 9669; the names are this
-- project's own, after the standard's.
use Rattle.std.specs.Prelude.{ℕ, List, codes}
use Rattle.bpf_insn.specs.declared.insn.Width.{Width}
use Rattle.bpf_insn.specs.declared.insn.Width.TheVariants as widths
use Rattle.bpf_insn.specs.declared.insn.AluOp.{AluOp}
use Rattle.bpf_insn.specs.declared.insn.AluOp.TheVariants as ops
use Rattle.bpf_insn.specs.declared.insn.Cond.{Cond}
use Rattle.bpf_insn.specs.declared.insn.Cond.TheVariants as conds
use Rattle.bpf_insn.specs.declared.insn.Extension.{Extension}
use Rattle.bpf_insn.specs.declared.insn.Extension.TheVariants as extensions
use Rattle.bpf_insn.specs.declared.insn.ByteOrder.{ByteOrder}
use Rattle.bpf_insn.specs.declared.insn.ByteOrder.TheVariants as orders
use Rattle.bpf_insn.specs.declared.insn.EndSize.{EndSize}
use Rattle.bpf_insn.specs.declared.insn.EndSize.TheVariants as end_sizes
use Rattle.bpf_insn.specs.declared.insn.Size.{Size}
use Rattle.bpf_insn.specs.declared.insn.Size.TheVariants as sizes
use Rattle.bpf_insn.specs.declared.insn.SignedSize.{SignedSize}
use Rattle.bpf_insn.specs.declared.insn.SignedSize.TheVariants as signed_sizes
use Rattle.bpf_insn.specs.declared.reg.Reg.{Reg}
use Rattle.bpf_insn.specs.declared.reg.Reg.TheVariants as regs

-- how many bits an operation works on, or a jump compares
abbrev pub width_name : Width → List ℕ
width_name widths.W32 = codes "32"
width_name widths.W64 = codes "64"

-- section 4.1
abbrev pub operation_name : AluOp → List ℕ
operation_name ops.Add = codes "add"
operation_name ops.Sub = codes "sub"
operation_name ops.Mul = codes "mul"
operation_name ops.Div = codes "div"
operation_name ops.Sdiv = codes "sdiv"
operation_name ops.Or = codes "or"
operation_name ops.And = codes "and"
operation_name ops.Lsh = codes "lsh"
operation_name ops.Rsh = codes "rsh"
operation_name ops.Mod = codes "mod"
operation_name ops.Smod = codes "smod"
operation_name ops.Xor = codes "xor"
operation_name ops.Mov = codes "mov"
operation_name ops.Arsh = codes "arsh"

-- section 4.3
abbrev pub condition_name : Cond → List ℕ
condition_name conds.Eq = codes "jeq"
condition_name conds.Gt = codes "jgt"
condition_name conds.Ge = codes "jge"
condition_name conds.Set = codes "jset"
condition_name conds.Ne = codes "jne"
condition_name conds.Sgt = codes "jsgt"
condition_name conds.Sge = codes "jsge"
condition_name conds.Lt = codes "jlt"
condition_name conds.Le = codes "jle"
condition_name conds.Slt = codes "jslt"
condition_name conds.Sle = codes "jsle"

-- section 4.1: from how many bits a move extends the sign, and to how many
abbrev pub extension_name : Extension → List ℕ
extension_name extensions.From8To32 = codes "8_32"
extension_name extensions.From16To32 = codes "16_32"
extension_name extensions.From8To64 = codes "8_64"
extension_name extensions.From16To64 = codes "16_64"
extension_name extensions.From32To64 = codes "32_64"

-- section 4.2
abbrev pub order_name : ByteOrder → List ℕ
order_name orders.Little = codes "le"
order_name orders.Big = codes "be"
order_name orders.Swap = codes "swap"

-- section 4.2: how many bits END works on
abbrev pub end_size_name : EndSize → List ℕ
end_size_name end_sizes.B16 = codes "16"
end_size_name end_sizes.B32 = codes "32"
end_size_name end_sizes.B64 = codes "64"

-- section 5: how many bits a load or a store moves
abbrev pub size_name : Size → List ℕ
size_name sizes.B8 = codes "8"
size_name sizes.B16 = codes "16"
size_name sizes.B32 = codes "32"
size_name sizes.B64 = codes "64"

-- section 5.2: how many bits a load that extends the sign moves
abbrev pub signed_size_name : SignedSize → List ℕ
signed_size_name signed_sizes.B8 = codes "8"
signed_size_name signed_sizes.B16 = codes "16"
signed_size_name signed_sizes.B32 = codes "32"

-- section 3.1: the registers
abbrev pub register_name : Reg → List ℕ
register_name regs.R0 = codes "r0"
register_name regs.R1 = codes "r1"
register_name regs.R2 = codes "r2"
register_name regs.R3 = codes "r3"
register_name regs.R4 = codes "r4"
register_name regs.R5 = codes "r5"
register_name regs.R6 = codes "r6"
register_name regs.R7 = codes "r7"
register_name regs.R8 = codes "r8"
register_name regs.R9 = codes "r9"
register_name regs.R10 = codes "r10"
