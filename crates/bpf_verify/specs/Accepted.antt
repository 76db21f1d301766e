-- Accepted operators, and what the verifier answers. They are this project's own.
use Rattle.std.specs.Prelude.{◌≡◌, ◌≤◌, ℕ, pos, List, [], ◌∷◌, ◌++◌, Option, Some, None, true, length}
use Rattle.bpf_insn.specs.declared.insn.Insn.{Insn}
use Rattle.bpf_insn.specs.declared.operands.Kind.{Kind}
use Rattle.bpf_insn.specs.declared.operands.Kind.TheVariants.{Unary, Binary, Index}
use Rattle.bpf_insn.specs.declared.operands.Operands.{Operands}
use Rattle.bpf_insn.specs.declared.fault.Fault.{Fault}
use Rattle.bpf_insn.specs.Program.{IsProgram}
use Rattle.bpf_insn.specs.Machine.{kind_of, begins}
use Rattle.bpf_insn.specs.Run.{HasValue, IsStuck}
use Rattle.bpf_verify.specs.declared.tag.Tag.{Tag}
use Rattle.bpf_verify.specs.declared.tag.Tag.TheVariants.{Unset, Number, Place}
use Rattle.bpf_verify.specs.declared.error.VerifyError.{VerifyError}
use Rattle.bpf_verify.specs.declared.error.VerifyError.TheVariants as errors
use Rattle.bpf_verify.specs.Slots.{HasNoSlotFault, IsSlotFault}
use Rattle.bpf_verify.specs.Tags.{Types}
use Rattle.bpf_verify.specs.declared.facts.Facts.{Facts}
use Rattle.bpf_verify.specs.Table.{known_at}
use Rattle.bpf_verify.specs.Holds.{AllowsAll, CoversAll, HoldsOnAllRuns, BreaksNoneOnAllRuns}
use Rattle.bpf_verify.specs.Paths.{NothingShown, IsFirstShown, IsPath, IsWay, Tells}

-- the tags at the entry of an operator of this kind: its operands are numbers, and R10 is the top of the stack
abbrev pub argument_tags : Kind → List Tag
argument_tags Unary = Number ∷ Unset ∷ Unset ∷ Unset ∷ []
argument_tags Binary = Number ∷ Number ∷ Unset ∷ Unset ∷ []
argument_tags Index = Number ∷ Number ∷ Number ∷ Number ∷ []

abbrev pub entry_tags : Kind → List Tag
entry_tags kind = Unset ∷ argument_tags kind ++ (Unset ∷ Unset ∷ Unset ∷ Unset ∷ Unset ∷ Place (pos 0) ∷ [])

-- ---- what is accepted, and what is refused

-- no slot fault, and no path shows a fault
pub record IsAcceptable (kind : Kind) (insns : List Insn) : Type 0 where
  pub clean : HasNoSlotFault insns
  pub nothing : NothingShown insns (entry_tags kind)

-- the fault of a program: its slot fault, or, where it has none, the first fault that paths show
pub data IsFault (kind : Kind) (insns : List Insn) (fault : Fault) : Type 0 where
  OfSlot : IsSlotFault insns fault.slot fault.rule → IsFault kind insns fault
  OfPaths : HasNoSlotFault insns → IsFirstShown insns (entry_tags kind) fault.slot fault.rule → IsFault kind insns fault

-- why a program is refused: its fault, or, where it has no slot fault, out of memory
abbrev pub ExplainsRefusal : Kind → List Insn → VerifyError → Type 0
ExplainsRefusal kind insns (errors.Fault fault) = IsFault kind insns fault
ExplainsRefusal kind insns errors.Memory = HasNoSlotFault insns

-- on all operands of the kind the program has a value, at a cost of at most so many steps, and is never stuck
abbrev pub IsSound : Kind → List Insn → Type 0
IsSound kind insns =
    (operands : Operands) → kind_of operands ≡ kind →
    ((value : ℕ) × (cost : ℕ) × HasValue insns operands value cost × (cost ≤ length insns))
    × ((fault : Fault) → IsStuck insns operands fault → ⊥)

-- what the paths to a slot have in common; or no path leads there, as where no instruction begins
abbrev pub IsTyping : List Insn → List Tag → ℕ → Option Types → Type 0
IsTyping insns entry slot None = (path : List ℕ) → IsPath insns path slot → ⊥
IsTyping insns entry slot (Some k) = Tells k (IsWay insns entry slot) × (begins insns slot ≡ true)

-- ---- accepted operators

-- an operator: its kind, its program, and the table of what is known at each slot
pub record Accepted : Type 0 where
  pub kind : Kind
  pub insns : List Insn
  pub table : List (Option Facts)

-- what is known at a slot
abbrev pub typing : Accepted → ℕ → Option Types
typing o slot = known_at o.table slot

-- The program is acceptable, and what is known at a slot is what the paths there have in common. It allows the slot's
-- instruction, after which what is known is covered wherever it may lead; and it holds of the machine wherever that
-- comes on operands of the kind, which so breaks no rule and is never stuck.
pub record IsAccepted (o : Accepted) : Type 0 where
  pub program : IsProgram o.insns
  pub acceptable : IsAcceptable o.kind o.insns
  pub typed : (slot : ℕ) → IsTyping o.insns (entry_tags o.kind) slot (typing o slot)
  pub allows : AllowsAll o.insns (typing o)
  pub covers : CoversAll o.insns (typing o)
  pub holds : HoldsOnAllRuns o.kind o.insns (typing o)
  pub unbroken : BreaksNoneOnAllRuns o.kind o.insns
  pub sound : IsSound o.kind o.insns
