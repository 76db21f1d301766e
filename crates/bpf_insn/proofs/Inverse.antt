-- The fields of a first slot tell its instruction, and bytes tell the fields.
use Rattle.std.proofs.Common.{◌≡◌, ◌≢◌, ◌<◌, ◌+◌, ◌*◌, ◌/◌, ◌%◌, ◌^◌, ℕ, arith, List}
use Rattle.std.proofs.Common.{◌++◌, sym, ◌∙◌, ap, refl}
use Rattle.std.specs.Prelude.{ℤ, ◌==◌, if◌then◌else◌}
use Rattle.std.specs.Int.{cast_signed, cast_unsigned, w16, w32}
use Rattle.std.specs.Int.RustNames.{FitsSigned}
use Rattle.std.proofs.lemmas.Int.{to_z-of_z, ints}
use Rattle.bpf_insn.specs.declared.slot.Slot.{Slot}
use Rattle.bpf_insn.specs.declared.insn.Width.TheVariants.{W32, W64}
use Rattle.bpf_insn.specs.declared.reg.Reg.{Reg}
use Rattle.bpf_insn.specs.declared.reg.Reg.TheVariants.{R0, R1, R2, R3, R4, R5, R6, R7, R8, R9, R10}
use Rattle.bpf_insn.specs.declared.insn.AluOp.{AluOp}
use Rattle.bpf_insn.specs.declared.insn.AluOp.TheVariants as ops
use Rattle.bpf_insn.specs.declared.insn.Operand.{Operand}
use Rattle.bpf_insn.specs.declared.insn.Operand.TheVariants.{Imm, Register}
use Rattle.bpf_insn.specs.declared.insn.Extension.{Extension}
use Rattle.bpf_insn.specs.declared.insn.Extension.TheVariants.{From8To32, From16To32, From8To64, From16To64, From32To64}
use Rattle.bpf_insn.specs.declared.insn.EndSize.{EndSize}
use Rattle.bpf_insn.specs.declared.insn.EndSize.TheVariants as end_sizes
use Rattle.bpf_insn.specs.declared.insn.Insn.{Insn}
use Rattle.bpf_insn.specs.declared.insn.Insn.TheVariants as insns
use Rattle.bpf_insn.specs.declared.opcode.AluCode.{AluCode}
use Rattle.bpf_insn.specs.declared.opcode.AluCode.TheVariants as codes
use Rattle.bpf_insn.specs.declared.opcode.Source.TheVariants.{K, X}
use Rattle.bpf_insn.specs.declared.opcode.Opcode.{Opcode}
use Rattle.bpf_insn.specs.declared.opcode.Opcode.TheVariants.{Alu, Neg, End, Ja, Ja32, Jump, Exit, Ldx, Ldsx, Stx, St, Wide}
use Rattle.bpf_insn.specs.Opcode.{number_of}
use Rattle.bpf_insn.specs.Spelling.{number_of_reg, code_of_op, offset_of_op, opcode_of_extension, offset_of_extension, imm_of_end}
use Rattle.bpf_insn.specs.Spelling.{source_of, source_field, imm_field, first_slot, slot_bytes, second_slot, Fits, FitsSlot}
use Rattle.bpf_insn.specs.Spelling.{OperandFits}
use Rattle.bpf_insn.proofs.Opcodes.{number_of-injective}

abbrev reg_at : ℕ → Reg
reg_at n = if n == 0 then R0 else (if n == 1 then R1 else (if n == 2 then R2 else (if n == 3 then R3 else (if n == 4 then R4 else (if n == 5 then R5 else (if n == 6 then R6 else (if n == 7 then R7 else (if n == 8 then R8 else (if n == 9 then R9 else R10)))))))))

abbrev op_at : AluCode → ℕ → AluOp
op_at codes.Add n = ops.Add
op_at codes.Sub n = ops.Sub
op_at codes.Mul n = ops.Mul
op_at codes.Div n = if n == 1 then ops.Sdiv else ops.Div
op_at codes.Or n = ops.Or
op_at codes.And n = ops.And
op_at codes.Lsh n = ops.Lsh
op_at codes.Rsh n = ops.Rsh
op_at codes.Mod n = if n == 1 then ops.Smod else ops.Mod
op_at codes.Xor n = ops.Xor
op_at codes.Mov n = ops.Mov
op_at codes.Arsh n = ops.Arsh

abbrev end_at : ℕ → EndSize
end_at n = if n == 16 then end_sizes.B16 else (if n == 32 then end_sizes.B32 else end_sizes.B64)

-- the instruction of an opcode that is no wide load, and the fields
abbrev insn_at : Opcode → Slot → Insn
insn_at (Alu w c K) s = insns.Alu w (op_at c s.offset) (reg_at s.dst) (Imm (cast_signed w32 s.imm))
insn_at (Alu W32 codes.Mov X) s = if s.offset == 8 then insns.Movsx From8To32 (reg_at s.dst) (reg_at s.src) else (if s.offset == 16 then insns.Movsx From16To32 (reg_at s.dst) (reg_at s.src) else insns.Alu W32 ops.Mov (reg_at s.dst) (Register (reg_at s.src)))
insn_at (Alu W64 codes.Mov X) s = if s.offset == 8 then insns.Movsx From8To64 (reg_at s.dst) (reg_at s.src) else (if s.offset == 16 then insns.Movsx From16To64 (reg_at s.dst) (reg_at s.src) else (if s.offset == 32 then insns.Movsx From32To64 (reg_at s.dst) (reg_at s.src) else insns.Alu W64 ops.Mov (reg_at s.dst) (Register (reg_at s.src))))
insn_at (Alu w c X) s = insns.Alu w (op_at c s.offset) (reg_at s.dst) (Register (reg_at s.src))
insn_at (Neg w) s = insns.Neg w (reg_at s.dst)
insn_at (End o) s = insns.End o (end_at s.imm) (reg_at s.dst)
insn_at Ja s = insns.Ja (cast_signed w16 s.offset)
insn_at Ja32 s = insns.Ja32 (cast_signed w32 s.imm)
insn_at (Jump w c K) s = insns.Jump w c (reg_at s.dst) (Imm (cast_signed w32 s.imm)) (cast_signed w16 s.offset)
insn_at (Jump w c X) s = insns.Jump w c (reg_at s.dst) (Register (reg_at s.src)) (cast_signed w16 s.offset)
insn_at Exit s = insns.Exit
insn_at (Ldx z) s = insns.Ldx z (reg_at s.dst) (reg_at s.src) (cast_signed w16 s.offset)
insn_at (Ldsx z) s = insns.Ldsx z (reg_at s.dst) (reg_at s.src) (cast_signed w16 s.offset)
insn_at (Stx z) s = insns.Stx z (reg_at s.dst) (cast_signed w16 s.offset) (reg_at s.src)
insn_at (St z) s = insns.St z (reg_at s.dst) (cast_signed w16 s.offset) (cast_signed w32 s.imm)
insn_at Wide s = insns.Exit

abbrev pub opcode_of_insn : Insn → Opcode
opcode_of_insn (insns.Alu w op d s) = Alu w (code_of_op op) (source_of s)
opcode_of_insn (insns.Neg w d) = Neg w
opcode_of_insn (insns.Movsx e d s) = opcode_of_extension e
opcode_of_insn (insns.End o z d) = End o
opcode_of_insn (insns.Ja off) = Ja
opcode_of_insn (insns.Ja32 off) = Ja32
opcode_of_insn (insns.Jump w c l r off) = Jump w c (source_of r)
opcode_of_insn insns.Exit = Exit
opcode_of_insn (insns.Ldx z d b off) = Ldx z
opcode_of_insn (insns.Ldsx z d b off) = Ldsx z
opcode_of_insn (insns.Stx z b off s) = Stx z
opcode_of_insn (insns.St z b off n) = St z
opcode_of_insn (insns.Wide d v) = Wide

reg_back : (r : Reg) → reg_at (number_of_reg r) ≡ r
reg_back r = grind arith

op_back : (op : AluOp) → op_at (code_of_op op) (offset_of_op op) ≡ op
op_back op = grind arith

end_back : (z : EndSize) → end_at (imm_of_end z) ≡ z
end_back z = grind arith

back : (i : Insn) → Fits i → opcode_of_insn i ≢ Wide → insn_at (opcode_of_insn i) (first_slot i) ≡ i
back (insns.Alu w op d (Imm n)) f h = simp (op_back, reg_back, to_z-of_z w32 n f)
back (insns.Alu W32 ops.Mov d (Register s)) f h = simp reg_back
back (insns.Alu W64 ops.Mov d (Register s)) f h = simp reg_back
back (insns.Alu w op d (Register s)) f h = simp reg_back
back (insns.Neg w d) f h = simp reg_back
back (insns.Movsx From8To32 d s) f h = simp reg_back
back (insns.Movsx From16To32 d s) f h = simp reg_back
back (insns.Movsx From8To64 d s) f h = simp reg_back
back (insns.Movsx From16To64 d s) f h = simp reg_back
back (insns.Movsx From32To64 d s) f h = simp reg_back
back (insns.End o z d) f h = simp (reg_back, end_back)
back (insns.Ja off) f h = simp (to_z-of_z w16 off f)
back (insns.Ja32 off) f h = simp (to_z-of_z w32 off f)
back (insns.Jump w c l (Imm n) off) f h = simp (reg_back, to_z-of_z w32 n f.0, to_z-of_z w16 off f.1)
back (insns.Jump w c l (Register r) off) f h = simp (reg_back, to_z-of_z w16 off f.1)
back insns.Exit f h = refl
back (insns.Ldx z d b off) f h = simp (reg_back, to_z-of_z w16 off f)
back (insns.Ldsx z d b off) f h = simp (reg_back, to_z-of_z w16 off f)
back (insns.Stx z b off s) f h = simp (reg_back, to_z-of_z w16 off f)
back (insns.St z b off n) f h = simp (reg_back, to_z-of_z w16 off f.0, to_z-of_z w32 n f.1)
back (insns.Wide d v) f h = absurd (h refl)

pub numbered : (i : Insn) → (first_slot i).opcode ≡ number_of (opcode_of_insn i)
numbered i = grind arith

-- two instructions of one first slot are one, but for a wide load
pub first_slot-injective : (i j : Insn) → Fits i → Fits j → opcode_of_insn i ≢ Wide → first_slot i ≡ first_slot j
    → i ≡ j
first_slot-injective i j f g h e =
    let o : opcode_of_insn i ≡ opcode_of_insn j = number_of-injective _ _ (sym (numbered i) ∙ ap (λ s. s.opcode) e ∙ numbered j) in
    let hj : opcode_of_insn j ≢ Wide = λ w. h (o ∙ w) in
    sym (back i f h) ∙ ap (insn_at (opcode_of_insn i)) e ∙ ap (λ p. insn_at p (first_slot j)) o ∙ back j g hj

abbrev slot_with : ℕ → ℕ → ℕ → ℕ → ℕ → Slot
slot_with o d r off imm = record { opcode = o; dst = d; src = r; offset = off; imm = imm }

pub slot_same : (s t : Slot) → s.opcode ≡ t.opcode → s.dst ≡ t.dst → s.src ≡ t.src → s.offset ≡ t.offset
    → s.imm ≡ t.imm → s ≡ t
slot_same s t a b c d e =
    let g : slot_with s.opcode s.dst s.src s.offset s.imm ≡ slot_with t.opcode t.dst t.src t.offset t.imm = rw (a, b, c, d, e) refl in g

-- one slot's bytes are its fields'
pub same_fields : (s t : Slot) (x y : List ℕ) → FitsSlot s → FitsSlot t → slot_bytes s ++ x ≡ slot_bytes t ++ y
    → (s ≡ t) × (x ≡ y)
same_fields s t x y a b h =
    let h0 : s.opcode ≡ t.opcode = cc in
    let h1 : s.dst + 16 * s.src ≡ t.dst + 16 * t.src = cc in
    let h2 : s.offset % 256 ≡ t.offset % 256 = cc in
    let h3 : s.offset / 256 % 256 ≡ t.offset / 256 % 256 = cc in
    let h4 : s.imm % 256 ≡ t.imm % 256 = cc in
    let h5 : s.imm / 256 % 256 ≡ t.imm / 256 % 256 = cc in
    let h6 : s.imm / 65536 % 256 ≡ t.imm / 65536 % 256 = cc in
    let h7 : s.imm / 16777216 % 256 ≡ t.imm / 16777216 % 256 = cc in
    let hx : x ≡ y = cc in
    let e1 : s.dst ≡ t.dst = omega arith in
    let e2 : s.src ≡ t.src = omega arith in
    let e3 : s.offset ≡ t.offset = omega arith in
    let e4 : s.imm ≡ t.imm = omega arith in
    (slot_same s t h0 e1 e2 e3 e4, hx)

reg_small : (r : Reg) → number_of_reg r < 16
reg_small r = grind arith

bits_16 : (z : ℤ) → FitsSigned w16 z → cast_unsigned w16 z < 2 ^ 16
bits_16 z f = omega (arith, ints)

bits_32 : (z : ℤ) → FitsSigned w32 z → cast_unsigned w32 z < 2 ^ 32
bits_32 z f = omega (arith, ints)

op_small : (op : AluOp) → offset_of_op op < 2 ^ 16
op_small op = grind arith

extension_small : (e : Extension) → offset_of_extension e < 2 ^ 16
extension_small e = grind arith

end_small : (z : EndSize) → imm_of_end z < 2 ^ 32
end_small z = grind arith

source_small : (s : Operand) → source_field s < 16
source_small (Imm n) = omega arith
source_small (Register r) = reg_small r

imm_small : (s : Operand) → OperandFits s → imm_field s < 2 ^ 32
imm_small (Imm n) f = bits_32 n f
imm_small (Register r) f = omega arith

pub first_slot_fits : (i : Insn) → Fits i → FitsSlot (first_slot i)
first_slot_fits (insns.Alu w op d s) f =
    record { dst = reg_small d; src = source_small s; offset = op_small op; imm = imm_small s f }
first_slot_fits (insns.Neg w d) f = record { dst = reg_small d; src = omega arith; offset = omega arith; imm = omega arith }
first_slot_fits (insns.Movsx e d s) f =
    record { dst = reg_small d; src = reg_small s; offset = extension_small e; imm = omega arith }
first_slot_fits (insns.End o z d) f = record { dst = reg_small d; src = omega arith; offset = omega arith; imm = end_small z }
first_slot_fits (insns.Ja off) f = record { dst = omega arith; src = omega arith; offset = bits_16 off f; imm = omega arith }
first_slot_fits (insns.Ja32 off) f = record { dst = omega arith; src = omega arith; offset = omega arith; imm = bits_32 off f }
first_slot_fits (insns.Jump w c l r off) f =
    record { dst = reg_small l; src = source_small r; offset = bits_16 off f.1; imm = imm_small r f.0 }
first_slot_fits insns.Exit f = record { dst = omega arith; src = omega arith; offset = omega arith; imm = omega arith }
first_slot_fits (insns.Ldx z d b off) f = record { dst = reg_small d; src = reg_small b; offset = bits_16 off f; imm = omega arith }
first_slot_fits (insns.Ldsx z d b off) f =
    record { dst = reg_small d; src = reg_small b; offset = bits_16 off f; imm = omega arith }
first_slot_fits (insns.Stx z b off s) f = record { dst = reg_small b; src = reg_small s; offset = bits_16 off f; imm = omega arith }
first_slot_fits (insns.St z b off n) f =
    record { dst = reg_small b; src = omega arith; offset = bits_16 off f.0; imm = bits_32 n f.1 }
first_slot_fits (insns.Wide d v) f = record { dst = reg_small d; src = omega arith; offset = omega arith; imm = omega arith }

pub second_slot_fits : (v : ℕ) → v < 2 ^ 64 → FitsSlot (second_slot v)
second_slot_fits v f = record { dst = omega arith; src = omega arith; offset = omega arith; imm = omega arith }

pub number_of_reg-injective : (r s : Reg) → number_of_reg r ≡ number_of_reg s → r ≡ s
number_of_reg-injective r s e = sym (reg_back r) ∙ ap reg_at e ∙ reg_back s
