-- Which bytes are the code of which program, and where bytes are at fault. RFC 9669, section 3, has code as slots in a row;
-- the limit of 4,096 slots, and how a fault is named, are this project's own.
use Rattle.std.specs.Prelude.{ℕ, ◌≡◌, ◌/◌, ◌%◌, List, ◌++◌, length, min, Bool, true, false, ◌==◌, ◌||◌}
use Rattle.std.specs.Prelude.{not, nat_lt, ◌⊎◌}
use Rattle.std.specs.List.{AllByRecursion, flat_map}
use Rattle.bpf_insn.specs.declared.insn.Insn.{Insn}
use Rattle.bpf_insn.specs.declared.rule.CodeRule.{CodeRule}
use Rattle.bpf_insn.specs.declared.rule.CodeRule.TheVariants.{BadLength}
use Rattle.bpf_insn.specs.declared.fault.Fault.{Fault}
use Rattle.bpf_insn.specs.declared.fault.DecodeError.{DecodeError}
use Rattle.bpf_insn.specs.declared.fault.DecodeError.TheVariants as errors
use Rattle.bpf_insn.specs.Spelling.{spelling, Fits}
use Rattle.bpf_insn.specs.Broken.{IsBrokenAtFront}
use Rattle.bpf_insn.specs.Program.{slot_count, IsProgram}

-- the spellings of the instructions, one after the other
abbrev pub code_of : List Insn → List ℕ
code_of is = flat_map spelling is

-- the bytes are the code of this program
pub record Spells (code : List ℕ) (is : List Insn) : Type 0 where
  pub program : IsProgram is
  pub same : code ≡ code_of is

-- no slot, half a slot, or more than 4,096 slots
abbrev pub has_bad_length : ℕ → Bool
has_bad_length n = n == 0 || not (n % 8 == 0) || nat_lt 32768 n

-- all before the slot spells instructions, and the slot breaks the rule and none of a lower number
pub record IsBroken (code : List ℕ) (slot : ℕ) (rule : CodeRule) : Type 0 where
  pub before : List Insn
  pub rest : List ℕ
  pub fits : AllByRecursion Fits before
  pub cut : code ≡ code_of before ++ rest
  pub at : slot_count before ≡ slot
  pub fault : IsBrokenAtFront rest rule

-- the length is bad, and the fault is at the last slot that could be there
pub record IsBadLength (code : List ℕ) (slot : ℕ) (rule : CodeRule) : Type 0 where
  pub bad : has_bad_length (length code) ≡ true
  pub at : slot ≡ min 4096 (length code / 8)
  pub name : rule ≡ BadLength

-- the one fault of the code: its length, or, where that is right, its first broken slot
abbrev pub IsCodeFault : List ℕ → Fault → Type 0
IsCodeFault code f = IsBadLength code f.slot f.rule ⊎ ((has_bad_length (length code) ≡ false) × IsBroken code f.slot f.rule)

-- why code is refused: its fault, or, where it is the code of a program, out of memory
abbrev pub ExplainsRefusal : List ℕ → DecodeError → Type 0
ExplainsRefusal code (errors.Fault f) = IsCodeFault code f
ExplainsRefusal code errors.Memory = (is : List Insn) × Spells code is

-- the code is that of one program at most, and then has no fault; else it has one fault at most
pub record HasOneReading (code : List ℕ) : Type 0 where
  pub one_program : (a b : List Insn) → Spells code a → Spells code b → a ≡ b
  pub no_fault : (is : List Insn) (f : Fault) → Spells code is → IsCodeFault code f → ⊥
  pub one_fault : (f g : Fault) → IsCodeFault code f → IsCodeFault code g → f ≡ g

-- the code of this program: it spells no other, and no other code spells it
pub record IsOnlyCodeOf (code : List ℕ) (is : List Insn) : Type 0 where
  pub spells : Spells code is
  pub one_program : (other : List Insn) → Spells code other → other ≡ is
  pub one_code : (other : List ℕ) → Spells other is → other ≡ code

-- a law of the spellings alone: where bytes begin with two instructions, these are one, and the same bytes follow
abbrev pub NoSpellingBeginsAnother : Type 0
NoSpellingBeginsAnother =
    (i j : Insn) (x y : List ℕ) → Fits i → Fits j → spelling i ++ x ≡ spelling j ++ y → (i ≡ j) × (x ≡ y)
