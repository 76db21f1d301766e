-- Definitions beside specs/Program.antt for this crate's own modules and proofs.
use Rattle.std.specs.Prelude.{◌≡◌, List, [], ◌∷◌, Option, Some, None}
use Rattle.std.specs.List.{flat_map}
use Rattle.bpf_insn.specs.declared.insn.Insn.{Insn}
use Rattle.bpf_insn.specs.declared.insn.Insn.TheVariants.{Wide}
use Rattle.bpf_insn.specs.Program.{IsProgram, insns_of}

-- the slots of an instruction: the instruction where it begins, and None at the second slot of a wide load
abbrev pub cells_of : Insn → List (Option Insn)
cells_of (Wide d v) = Some (Wide d v) ∷ None ∷ []
cells_of i = Some i ∷ []

-- the slots of a program, in order
abbrev pub layout : List Insn → List (Option Insn)
layout is = flat_map cells_of is

-- the slots are those of a program
pub record IsLaid (cells : List (Option Insn)) : Type 0 where
  pub same : cells ≡ layout (insns_of cells)
  pub program : IsProgram (insns_of cells)
