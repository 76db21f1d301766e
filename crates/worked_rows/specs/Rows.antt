-- The operators, matrices, texts and lines of the worked rows. This project's own.
use Rattle.std.specs.Prelude.{ℕ, pos, negsuc, List, [], ◌∷◌, codes}
use Rattle.bpf_insn.specs.declared.reg.Reg.TheVariants.{R0, R1, R2, R3, R10}
use Rattle.bpf_insn.specs.declared.insn.Insn.{Insn}
use Rattle.bpf_insn.specs.declared.insn.Insn.TheVariants.{Alu, Jump, Ja, Exit, Ldx, Stx}
use Rattle.bpf_insn.specs.declared.insn.Width.TheVariants.{W64}
use Rattle.bpf_insn.specs.declared.insn.AluOp.{AluOp}
use Rattle.bpf_insn.specs.declared.insn.AluOp.TheVariants.{Add, Sub, Mul, Mov}
use Rattle.bpf_insn.specs.declared.insn.Cond.TheVariants.{Eq}
use Rattle.bpf_insn.specs.declared.insn.Size.TheVariants.{B64}
use Rattle.bpf_insn.specs.declared.insn.Operand.TheVariants.{Imm, Register}
use Rattle.bpf_insn.specs.declared.operands.Kind.{Kind}
use Rattle.bpf_insn.specs.declared.operands.Kind.TheVariants.{Unary, Binary, Index}
use Rattle.bpf_verify.specs.Accepted.{Accepted}
use Rattle.csr_store.specs.Grid.{Grid}
use Rattle.csr_store.specs.ByRows.{grid}

-- ---- operators: what they give depends on the kind and the instructions, and not on the table

abbrev pub operator : Kind → List Insn → Accepted
operator kind insns = record { kind = kind; insns = insns; table = [] }

-- mov64 r0, r1; add64 r0, 1; exit
abbrev pub inc : Accepted
inc = operator Unary (Alu W64 Mov R0 (Register R1) ∷ Alu W64 Add R0 (Imm (pos 1)) ∷ Exit ∷ [])

-- mov64 r0, r1; the operation on r0 and r2; exit
abbrev pub both_by : AluOp → Accepted
both_by op = operator Binary (Alu W64 Mov R0 (Register R1) ∷ Alu W64 op R0 (Register R2) ∷ Exit ∷ [])

abbrev pub sub : Accepted
sub = both_by Sub

abbrev pub mul : Accepted
mul = both_by Mul

-- stx64 r10, -512, r1; ldx64 r0, r10, -512; exit
abbrev pub through_the_stack : Accepted
through_the_stack = operator Unary (Stx B64 R10 (negsuc 511) R1 ∷ Ldx B64 R0 R10 (negsuc 511) ∷ Exit ∷ [])

-- mov64 r0, 1; jeq64 r2, r3, 1; mov64 r0, 0; exit
abbrev pub on_diagonal : Accepted
on_diagonal =
    operator Index
    (Alu W64 Mov R0 (Imm (pos 1)) ∷ Jump W64 Eq R2 (Register R3) (pos 1) ∷ Alu W64 Mov R0 (Imm (pos 0)) ∷ Exit ∷ [])

-- ---- programs that are refused

-- jeq64 r1, 0, 1; mov64 r0, 1; exit: the jump leaves r0 unset
abbrev pub unset_on_one_way : List Insn
unset_on_one_way = Jump W64 Eq R1 (Imm (pos 0)) (pos 1) ∷ Alu W64 Mov R0 (Imm (pos 1)) ∷ Exit ∷ []

-- jeq64 r1, 0, 2; mov64 r3, r10; ja 1; mov64 r3, r2; mov64 r0, r3; exit: r3 is a place on one way, and a number on the other
abbrev pub mixed_by_two_ways : List Insn
mixed_by_two_ways =
    Jump W64 Eq R1 (Imm (pos 0)) (pos 2) ∷ Alu W64 Mov R3 (Register R10) ∷ Ja (pos 1) ∷ Alu W64 Mov R3 (Register R2)
    ∷ Alu W64 Mov R0 (Register R3) ∷ Exit ∷ []

-- ldx64 r0, r10, -8; exit
abbrev pub load_of_unstored : List Insn
load_of_unstored = Ldx B64 R0 R10 (negsuc 7) ∷ Exit ∷ []

-- ---- matrices, each entry a row, a column and a word

-- 10 3
abbrev pub wide : Grid
wide = grid 1 2 (((0, 0), 10) ∷ ((0, 1), 3) ∷ [])

-- 1 above 1
abbrev pub tall : Grid
tall = grid 2 1 (((0, 0), 1) ∷ ((1, 0), 1) ∷ [])

-- 3 4
abbrev pub two : Grid
two = grid 1 2 (((0, 0), 3) ∷ ((0, 1), 4) ∷ [])

-- 10 3 2, and an empty row
abbrev pub three : Grid
three = grid 2 3 (((0, 0), 10) ∷ ((0, 1), 3) ∷ ((0, 2), 2) ∷ [])

-- ---- matrix text, line by line

abbrev pub symmetric_lines : List (List ℕ)
symmetric_lines = codes "2 2 2" ∷ codes "2 1 5" ∷ codes "1 1 7" ∷ []

abbrev pub symmetric : List (List ℕ)
symmetric = codes "%%MatrixMarket matrix coordinate integer symmetric" ∷ symmetric_lines

-- its last line is the mirror of the one before
abbrev pub repeated : List (List ℕ)
repeated =
    codes "%%MatrixMarket matrix coordinate integer symmetric" ∷ codes "2 2 2" ∷ codes "2 1 5" ∷ codes "1 2 9" ∷ []

-- one of two entries is missing
abbrev pub short : List (List ℕ)
short = codes "%%MatrixMarket matrix coordinate integer general" ∷ codes "1 1 2" ∷ codes "1 1 5" ∷ []
