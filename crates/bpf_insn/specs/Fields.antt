-- Which fields of a slot each opcode uses, and what they may contain: RFC 9669, sections 3.1 (a field that is not used is
-- 0), 4.1, 4.2, 4.3 and 5.
use Rattle.std.specs.Prelude.{ℕ, Bool, true, false, ◌==◌, ◌||◌}
use Rattle.bpf_insn.specs.declared.insn.Width.TheVariants.{W32, W64}
use Rattle.bpf_insn.specs.declared.opcode.AluCode.{AluCode}
use Rattle.bpf_insn.specs.declared.opcode.AluCode.TheVariants as codes
use Rattle.bpf_insn.specs.declared.opcode.Source.TheVariants.{K, X}
use Rattle.bpf_insn.specs.declared.opcode.Opcode.{Opcode}
use Rattle.bpf_insn.specs.declared.opcode.Opcode.TheVariants.{Alu, End, Ja, Ja32, Jump, Exit, Ldx, Ldsx, Stx, St, Wide}

-- all but JA and EXIT name a destination (for stores: the base)
abbrev pub uses_dst : Opcode → Bool
uses_dst Ja = false
uses_dst Ja32 = false
uses_dst Exit = false
uses_dst _ = true

-- X, loads and stores of a register name a source (for loads: the base)
abbrev pub uses_src : Opcode → Bool
uses_src (Alu w c X) = true
uses_src (Jump w c X) = true
uses_src (Ldx z) = true
uses_src (Ldsx z) = true
uses_src (Stx z) = true
uses_src _ = false

-- the offset of arithmetic: 1 makes DIV and MOD signed
abbrev pub allows_alu_offset : AluCode → ℕ → Bool
allows_alu_offset codes.Div n = n == 0 || n == 1
allows_alu_offset codes.Mod n = n == 0 || n == 1
allows_alu_offset _ n = n == 0

-- jumps, loads and stores have any offset; that of MOV X is the bits of a MOVSX; else it is 0
abbrev pub allows_offset : Opcode → ℕ → Bool
allows_offset (Alu W32 codes.Mov X) n = n == 0 || n == 8 || n == 16
allows_offset (Alu W64 codes.Mov X) n = n == 0 || n == 8 || n == 16 || n == 32
allows_offset (Alu w c s) n = allows_alu_offset c n
allows_offset Ja n = true
allows_offset (Jump w c s) n = true
allows_offset (Ldx z) n = true
allows_offset (Ldsx z) n = true
allows_offset (Stx z) n = true
allows_offset (St z) n = true
allows_offset _ n = n == 0

-- K, JA of opcode 06, stores of imm and wide loads have any imm; that of END is its bits; else it is 0
abbrev pub allows_imm : Opcode → ℕ → Bool
allows_imm (Alu w c K) n = true
allows_imm (Jump w c K) n = true
allows_imm Ja32 n = true
allows_imm (St z) n = true
allows_imm Wide n = true
allows_imm (End o) n = n == 16 || n == 32 || n == 64
allows_imm _ n = n == 0
