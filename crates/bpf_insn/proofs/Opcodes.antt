-- No two opcodes have one number.
use Rattle.std.proofs.Common.{◌≡◌, ◌≢◌, ℕ, arith}
use Rattle.bpf_insn.specs.Opcode.{number_of, operation, access, code_number, source_bit, alu_class, jump_class, cond_number}
use Rattle.bpf_insn.specs.Opcode.{size_number, signed_size_number}
use Rattle.bpf_insn.specs.declared.opcode.Opcode.{Opcode}
use Rattle.bpf_insn.specs.declared.opcode.Opcode.TheVariants.{Alu, Neg, End, Ja, Ja32, Jump, Exit, Ldx, Ldsx, Stx, St, Wide}
use Rattle.bpf_insn.specs.declared.opcode.AluCode.{AluCode}
use Rattle.bpf_insn.specs.declared.insn.Cond.{Cond}
use Rattle.bpf_insn.specs.declared.insn.Width.{Width}
use Rattle.bpf_insn.specs.declared.insn.Size.{Size}
use Rattle.bpf_insn.specs.declared.insn.SignedSize.{SignedSize}
use Rattle.bpf_insn.specs.declared.insn.ByteOrder.{ByteOrder}
use Rattle.bpf_insn.specs.declared.opcode.Source.{Source}

pub Alu_parts : (a b : ℕ) (s t : Source) (w v : Width)
    → operation a (source_bit s) (alu_class w) ≡ operation b (source_bit t) (alu_class v)
    → (a ≡ b) × (s ≡ t) × (w ≡ v)
Alu_parts a b s t w v e = grind arith

Alu_gaps : (c : AluCode) → (code_number c ≢ 8) × (code_number c ≢ 13)
Alu_gaps c = grind arith

Alu_injective : (c d : AluCode) → code_number c ≡ code_number d → c ≡ d
Alu_injective c d e = grind arith

Alu-Neg : (w : Width) (a : ℕ) (s : Source) (v : Width) → a ≢ 8 → a ≢ 13
    → operation a (source_bit s) (alu_class w) ≡ operation 0x8 0 (alu_class v) → ⊥
Alu-Neg w a s v g8 g13 e = grind arith

Alu-End : (w : Width) (a : ℕ) (s : Source) (o : ByteOrder) → a ≢ 8 → a ≢ 13
    → operation a (source_bit s) (alu_class w) ≡ number_of (End o) → ⊥
Alu-End w a s o g8 g13 e = grind arith

Alu-Ja : (w : Width) (a : ℕ) (s : Source) → a ≢ 8 → a ≢ 13 → operation a (source_bit s) (alu_class w) ≡ 0x05 → ⊥
Alu-Ja w a s g8 g13 e = grind arith

Alu-Ja32 : (w : Width) (a : ℕ) (s : Source) → a ≢ 8 → a ≢ 13 → operation a (source_bit s) (alu_class w) ≡ 0x06 → ⊥
Alu-Ja32 w a s g8 g13 e = grind arith

Alu-Jump : (w : Width) (a : ℕ) (s : Source) (v : Width) (b : ℕ) (t : Source) → a ≢ 8 → a ≢ 13
    → operation a (source_bit s) (alu_class w) ≡ operation b (source_bit t) (jump_class v) → ⊥
Alu-Jump w a s v b t g8 g13 e = grind arith

Alu-Exit : (w : Width) (a : ℕ) (s : Source) → a ≢ 8 → a ≢ 13 → operation a (source_bit s) (alu_class w) ≡ 0x95 → ⊥
Alu-Exit w a s g8 g13 e = grind arith

Alu-Ldx : (w : Width) (a : ℕ) (s : Source) (z : Size) → a ≢ 8 → a ≢ 13
    → operation a (source_bit s) (alu_class w) ≡ access 3 (size_number z) 1 → ⊥
Alu-Ldx w a s z g8 g13 e = grind arith

Alu-Ldsx : (w : Width) (a : ℕ) (s : Source) (z : SignedSize) → a ≢ 8 → a ≢ 13
    → operation a (source_bit s) (alu_class w) ≡ access 4 (signed_size_number z) 1 → ⊥
Alu-Ldsx w a s z g8 g13 e = grind arith

Alu-Stx : (w : Width) (a : ℕ) (s : Source) (z : Size) → a ≢ 8 → a ≢ 13
    → operation a (source_bit s) (alu_class w) ≡ access 3 (size_number z) 3 → ⊥
Alu-Stx w a s z g8 g13 e = grind arith

Alu-St : (w : Width) (a : ℕ) (s : Source) (z : Size) → a ≢ 8 → a ≢ 13
    → operation a (source_bit s) (alu_class w) ≡ access 3 (size_number z) 2 → ⊥
Alu-St w a s z g8 g13 e = grind arith

Alu-Wide : (w : Width) (a : ℕ) (s : Source) → a ≢ 8 → a ≢ 13 → operation a (source_bit s) (alu_class w) ≡ 0x18 → ⊥
Alu-Wide w a s g8 g13 e = grind arith

only-Alu : (w : Width) (c : AluCode) (s : Source) (p : Opcode) → number_of (Alu w c s) ≡ number_of p → Alu w c s ≡ p
only-Alu w c s (Alu v d t) e =
    let h = Alu_parts (code_number c) (code_number d) s t w v e in
    let i : c ≡ d = Alu_injective c d h.0 in let j : s ≡ t = h.1 in let k : w ≡ v = h.2 in cc
only-Alu w c s (Neg v) e = let g = Alu_gaps c in absurd (Alu-Neg w (code_number c) s v g.0 g.1 e)
only-Alu w c s (End o) e = let g = Alu_gaps c in absurd (Alu-End w (code_number c) s o g.0 g.1 e)
only-Alu w c s Ja e = let g = Alu_gaps c in absurd (Alu-Ja w (code_number c) s g.0 g.1 e)
only-Alu w c s Ja32 e = let g = Alu_gaps c in absurd (Alu-Ja32 w (code_number c) s g.0 g.1 e)
only-Alu w c s (Jump v d t) e = let g = Alu_gaps c in absurd (Alu-Jump w (code_number c) s v (cond_number d) t g.0 g.1 e)
only-Alu w c s Exit e = let g = Alu_gaps c in absurd (Alu-Exit w (code_number c) s g.0 g.1 e)
only-Alu w c s (Ldx z) e = let g = Alu_gaps c in absurd (Alu-Ldx w (code_number c) s z g.0 g.1 e)
only-Alu w c s (Ldsx z) e = let g = Alu_gaps c in absurd (Alu-Ldsx w (code_number c) s z g.0 g.1 e)
only-Alu w c s (Stx z) e = let g = Alu_gaps c in absurd (Alu-Stx w (code_number c) s z g.0 g.1 e)
only-Alu w c s (St z) e = let g = Alu_gaps c in absurd (Alu-St w (code_number c) s z g.0 g.1 e)
only-Alu w c s Wide e = let g = Alu_gaps c in absurd (Alu-Wide w (code_number c) s g.0 g.1 e)

only-Neg : (w : Width) (p : Opcode) → number_of (Neg w) ≡ number_of p → (Neg w) ≡ p
only-Neg w p e = grind arith

only-End : (o : ByteOrder) (p : Opcode) → number_of (End o) ≡ number_of p → (End o) ≡ p
only-End o p e = grind arith

only-Ja : (p : Opcode) → number_of Ja ≡ number_of p → Ja ≡ p
only-Ja p e = grind arith

only-Ja32 : (p : Opcode) → number_of Ja32 ≡ number_of p → Ja32 ≡ p
only-Ja32 p e = grind arith

pub Jump_parts : (a b : ℕ) (s t : Source) (w v : Width)
    → operation a (source_bit s) (jump_class w) ≡ operation b (source_bit t) (jump_class v)
    → (a ≡ b) × (s ≡ t) × (w ≡ v)
Jump_parts a b s t w v e = grind arith

Jump_gaps : (c : Cond) → (cond_number c ≢ 0) × (cond_number c ≢ 9)
Jump_gaps c = grind arith

Jump_injective : (c d : Cond) → cond_number c ≡ cond_number d → c ≡ d
Jump_injective c d e = grind arith

Jump-Alu : (w : Width) (a : ℕ) (s : Source) (v : Width) (b : ℕ) (t : Source) → a ≢ 0 → a ≢ 9
    → operation a (source_bit s) (jump_class w) ≡ operation b (source_bit t) (alu_class v) → ⊥
Jump-Alu w a s v b t g0 g9 e = grind arith

Jump-Neg : (w : Width) (a : ℕ) (s : Source) (v : Width) → a ≢ 0 → a ≢ 9
    → operation a (source_bit s) (jump_class w) ≡ operation 0x8 0 (alu_class v) → ⊥
Jump-Neg w a s v g0 g9 e = grind arith

Jump-End : (w : Width) (a : ℕ) (s : Source) (o : ByteOrder) → a ≢ 0 → a ≢ 9
    → operation a (source_bit s) (jump_class w) ≡ number_of (End o) → ⊥
Jump-End w a s o g0 g9 e = grind arith

Jump-Ja : (w : Width) (a : ℕ) (s : Source) → a ≢ 0 → a ≢ 9 → operation a (source_bit s) (jump_class w) ≡ 0x05 → ⊥
Jump-Ja w a s g0 g9 e = grind arith

Jump-Ja32 : (w : Width) (a : ℕ) (s : Source) → a ≢ 0 → a ≢ 9 → operation a (source_bit s) (jump_class w) ≡ 0x06
    → ⊥
Jump-Ja32 w a s g0 g9 e = grind arith

Jump-Exit : (w : Width) (a : ℕ) (s : Source) → a ≢ 0 → a ≢ 9 → operation a (source_bit s) (jump_class w) ≡ 0x95
    → ⊥
Jump-Exit w a s g0 g9 e = grind arith

Jump-Ldx : (w : Width) (a : ℕ) (s : Source) (z : Size) → a ≢ 0 → a ≢ 9
    → operation a (source_bit s) (jump_class w) ≡ access 3 (size_number z) 1 → ⊥
Jump-Ldx w a s z g0 g9 e = grind arith

Jump-Ldsx : (w : Width) (a : ℕ) (s : Source) (z : SignedSize) → a ≢ 0 → a ≢ 9
    → operation a (source_bit s) (jump_class w) ≡ access 4 (signed_size_number z) 1 → ⊥
Jump-Ldsx w a s z g0 g9 e = grind arith

Jump-Stx : (w : Width) (a : ℕ) (s : Source) (z : Size) → a ≢ 0 → a ≢ 9
    → operation a (source_bit s) (jump_class w) ≡ access 3 (size_number z) 3 → ⊥
Jump-Stx w a s z g0 g9 e = grind arith

Jump-St : (w : Width) (a : ℕ) (s : Source) (z : Size) → a ≢ 0 → a ≢ 9
    → operation a (source_bit s) (jump_class w) ≡ access 3 (size_number z) 2 → ⊥
Jump-St w a s z g0 g9 e = grind arith

Jump-Wide : (w : Width) (a : ℕ) (s : Source) → a ≢ 0 → a ≢ 9 → operation a (source_bit s) (jump_class w) ≡ 0x18
    → ⊥
Jump-Wide w a s g0 g9 e = grind arith

only-Jump : (w : Width) (c : Cond) (s : Source) (p : Opcode) → number_of (Jump w c s) ≡ number_of p → Jump w c s ≡ p
only-Jump w c s (Alu v d t) e = let g = Jump_gaps c in absurd (Jump-Alu w (cond_number c) s v (code_number d) t g.0 g.1 e)
only-Jump w c s (Neg v) e = let g = Jump_gaps c in absurd (Jump-Neg w (cond_number c) s v g.0 g.1 e)
only-Jump w c s (End o) e = let g = Jump_gaps c in absurd (Jump-End w (cond_number c) s o g.0 g.1 e)
only-Jump w c s Ja e = let g = Jump_gaps c in absurd (Jump-Ja w (cond_number c) s g.0 g.1 e)
only-Jump w c s Ja32 e = let g = Jump_gaps c in absurd (Jump-Ja32 w (cond_number c) s g.0 g.1 e)
only-Jump w c s (Jump v d t) e =
    let h = Jump_parts (cond_number c) (cond_number d) s t w v e in
    let i : c ≡ d = Jump_injective c d h.0 in let j : s ≡ t = h.1 in let k : w ≡ v = h.2 in cc
only-Jump w c s Exit e = let g = Jump_gaps c in absurd (Jump-Exit w (cond_number c) s g.0 g.1 e)
only-Jump w c s (Ldx z) e = let g = Jump_gaps c in absurd (Jump-Ldx w (cond_number c) s z g.0 g.1 e)
only-Jump w c s (Ldsx z) e = let g = Jump_gaps c in absurd (Jump-Ldsx w (cond_number c) s z g.0 g.1 e)
only-Jump w c s (Stx z) e = let g = Jump_gaps c in absurd (Jump-Stx w (cond_number c) s z g.0 g.1 e)
only-Jump w c s (St z) e = let g = Jump_gaps c in absurd (Jump-St w (cond_number c) s z g.0 g.1 e)
only-Jump w c s Wide e = let g = Jump_gaps c in absurd (Jump-Wide w (cond_number c) s g.0 g.1 e)

only-Exit : (p : Opcode) → number_of Exit ≡ number_of p → Exit ≡ p
only-Exit p e = grind arith

only-Ldx : (z : Size) (p : Opcode) → number_of (Ldx z) ≡ number_of p → (Ldx z) ≡ p
only-Ldx z p e = grind arith

only-Ldsx : (z : SignedSize) (p : Opcode) → number_of (Ldsx z) ≡ number_of p → (Ldsx z) ≡ p
only-Ldsx z p e = grind arith

only-Stx : (z : Size) (p : Opcode) → number_of (Stx z) ≡ number_of p → (Stx z) ≡ p
only-Stx z p e = grind arith

only-St : (z : Size) (p : Opcode) → number_of (St z) ≡ number_of p → (St z) ≡ p
only-St z p e = grind arith

only-Wide : (p : Opcode) → number_of Wide ≡ number_of p → Wide ≡ p
only-Wide p e = grind arith

pub number_of-injective : (o p : Opcode) → number_of o ≡ number_of p → o ≡ p
number_of-injective (Alu w c s) p e = only-Alu w c s p e
number_of-injective (Neg w) p e = only-Neg w p e
number_of-injective (End o) p e = only-End o p e
number_of-injective Ja p e = only-Ja p e
number_of-injective Ja32 p e = only-Ja32 p e
number_of-injective (Jump w c s) p e = only-Jump w c s p e
number_of-injective Exit p e = only-Exit p e
number_of-injective (Ldx z) p e = only-Ldx z p e
number_of-injective (Ldsx z) p e = only-Ldsx z p e
number_of-injective (Stx z) p e = only-Stx z p e
number_of-injective (St z) p e = only-St z p e
number_of-injective Wide p e = only-Wide p e
