-- What it means that what is known holds of a running machine. It is this project's own.
use Rattle.std.specs.Prelude.{◌≡◌, ℕ, pos, true, false, List, Option, Some, None, is_some, length, slice_index_or}
use Rattle.bpf_insn.specs.declared.reg.Reg.{Reg}
use Rattle.bpf_insn.specs.declared.insn.Insn.{Insn}
use Rattle.bpf_insn.specs.declared.operands.Kind.{Kind}
use Rattle.bpf_insn.specs.declared.operands.Operands.{Operands}
use Rattle.bpf_insn.specs.declared.content.Content.{Content}
use Rattle.bpf_insn.specs.declared.content.Content.TheVariants as contents
use Rattle.bpf_insn.specs.declared.frame.Frame.{Frame}
use Rattle.bpf_insn.specs.Program.{insn_at}
use Rattle.bpf_insn.specs.Reads.{content, is_unset}
use Rattle.bpf_insn.specs.Machine as machine
use Rattle.bpf_insn.specs.Machine.{Running, kind_of, enter}
use Rattle.bpf_insn.specs.Run.{Leads}
use Rattle.bpf_verify.specs.declared.tag.Tag.{Tag}
use Rattle.bpf_verify.specs.declared.tag.Tag.TheVariants.{Unset, Number, Place, Mixed}
use Rattle.bpf_verify.specs.Tags.{Types, tag, BreaksNone, after}
use Rattle.bpf_verify.specs.Paths.{IsIn, targets}

-- the content is as the tag says
abbrev pub Agrees : Tag → Content → Type 0
Agrees Unset c = Unit {0}
Agrees Mixed c = is_unset c ≡ false
Agrees Number (contents.Number n) = Unit {0}
Agrees Number contents.Unset = ⊥
Agrees Number (contents.Place p) = ⊥
Agrees (Place o) (contents.Place p) = o ≡ p
Agrees (Place o) contents.Unset = ⊥
Agrees (Place o) (contents.Number n) = ⊥

-- each register is as its tag says, and each byte that is known to be stored was stored
pub record HoldsOf (k : Types) (f : Frame) : Type 0 where
  pub registers : (r : Reg) → Agrees (tag k.tags r) (content f.registers r)
  pub bytes : (byte : ℕ) → k.stored byte ≡ true → is_some (slice_index_or f.stack byte None) ≡ true
  pub eleven : length f.registers ≡ 11
  pub whole : length f.stack ≡ 512

-- wherever the machine comes on operands of the kind, what is known at its slot holds of it
abbrev pub HoldsOnAllRuns : Kind → List Insn → (ℕ → Option Types) → Type 0
HoldsOnAllRuns kind insns typing =
    (operands : Operands) (n : ℕ) (f : Frame) → kind_of operands ≡ kind → Leads insns n (enter operands) (Running f) →
    (k : Types) × (typing f.slot ≡ Some k) × HoldsOf k f

-- wherever the machine comes on operands of the kind, an instruction begins there and breaks no rule of a step
abbrev pub BreaksNoneOnAllRuns : Kind → List Insn → Type 0
BreaksNoneOnAllRuns kind insns =
    (operands : Operands) (n : ℕ) (f : Frame) → kind_of operands ≡ kind → Leads insns n (enter operands) (Running f) →
    (i : Insn) × (insn_at insns f.slot ≡ Some i) × machine.BreaksNone insns f i

-- what is known at a slot allows its instruction
abbrev pub AllowsAll : List Insn → (ℕ → Option Types) → Type 0
AllowsAll insns typing =
    (slot : ℕ) (i : Insn) (k : Types) → insn_at insns slot ≡ Some i → typing slot ≡ Some k → BreaksNone k i

-- what agrees with the one agrees with the other, and what the other knows to be stored, the one does
pub record IsCovered (k there : Types) : Type 0 where
  pub tags : (r : Reg) (c : Content) → Agrees (tag k.tags r) c → Agrees (tag there.tags r) c
  pub bytes : (byte : ℕ) → there.stored byte ≡ true → k.stored byte ≡ true

-- what is known after an instruction is covered by what is known wherever it may lead
abbrev pub CoversAll : List Insn → (ℕ → Option Types) → Type 0
CoversAll insns typing =
    (slot to : ℕ) (i : Insn) (k : Types) →
    insn_at insns slot ≡ Some i → typing slot ≡ Some k → IsIn (pos to) (targets slot i) →
    (there : Types) × (typing to ≡ Some there) × IsCovered (after k i) there
