-- Tables of names, read backwards: what the definition of an operand needs of them.
use Rattle.std.specs.Prelude.{ℕ, List, [], ◌∷◌, Option, find}
use Rattle.std.specs.Str.{bytes_eq}
use Rattle.bpf_insn.specs.declared.reg.Reg.{Reg}
use Rattle.bpf_insn.specs.declared.reg.Reg.TheVariants as regs

-- the first of a list that has the name
abbrev pub named : {X : Type 0} → (X → List ℕ) → List X → List ℕ → Option X
named name all word = find (λ x. bytes_eq (name x) word) all

abbrev pub all_registers : List Reg
all_registers =
    regs.R0 ∷ regs.R1 ∷ regs.R2 ∷ regs.R3 ∷ regs.R4 ∷ regs.R5
    ∷ regs.R6 ∷ regs.R7 ∷ regs.R8 ∷ regs.R9 ∷ regs.R10 ∷ []
