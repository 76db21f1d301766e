-- Paths through a program, what is known along them, and the faults that they show. They are this project's own.
use Rattle.std.specs.Prelude.{◌≡◌, ◌≢◌, ◌<◌, ℕ, ◌+◌, ℤ, pos, ◌+ℤ◌, Bool, true, false, List, []}
use Rattle.std.specs.Prelude.{◌∷◌, Some, length, ◌⊎◌}
use Rattle.bpf_insn.specs.declared.reg.Reg.{Reg}
use Rattle.bpf_insn.specs.declared.insn.Insn.{Insn}
use Rattle.bpf_insn.specs.declared.insn.Insn.TheVariants.{Ja, Ja32, Jump, Exit}
use Rattle.bpf_insn.specs.declared.rule.CodeRule.{CodeRule}
use Rattle.bpf_insn.specs.declared.rule.CodeRule.TheVariants.{MixedRead}
use Rattle.bpf_insn.specs.Rule.{IsLowest}
use Rattle.bpf_insn.specs.Program.{slots_of, insn_at}
use Rattle.bpf_insn.specs.Reads.{all_reads}
use Rattle.bpf_verify.specs.declared.tag.Tag.{Tag}
use Rattle.bpf_verify.specs.declared.tag.Tag.TheVariants.{Unset, Number, Place, Mixed}
use Rattle.bpf_verify.specs.Tags.{Types, tag, breaks, BreaksNone, after}

abbrev pub IsIn : {A : Type 0} → A → List A → Type 0
IsIn x [] = ⊥
IsIn x (y ∷ ys) = (x ≡ y) ⊎ IsIn x ys

-- where the instruction may lead, whatever its condition says
abbrev pub targets : ℕ → Insn → List ℤ
targets slot (Ja off) = (pos (slot + 1) +ℤ off) ∷ []
targets slot (Ja32 off) = (pos (slot + 1) +ℤ off) ∷ []
targets slot (Jump w c l r off) = pos (slot + 1) ∷ (pos (slot + 1) +ℤ off) ∷ []
targets slot Exit = []
targets slot i = pos (slot + slots_of i) ∷ []

-- the instruction at the one slot may lead to the other
pub record MayLead (insns : List Insn) (from to : ℕ) : Type 0 where
  pub insn : Insn
  pub here : insn_at insns from ≡ Some insn
  pub target : IsIn (pos to) (targets from insn)

-- a path to a slot: the slots on the way from slot 0, the latest first
abbrev pub IsPath : List Insn → List ℕ → ℕ → Type 0
IsPath insns [] slot = slot ≡ 0
IsPath insns (from ∷ path) slot = IsPath insns path from × MayLead insns from slot

-- from what was known before the instruction at a slot, by which it breaks no rule, to what is known after it
pub record GoesOn (insns : List Insn) (from : ℕ) (before k : Types) : Type 0 where
  pub insn : Insn
  pub here : insn_at insns from ≡ Some insn
  pub unbroken : BreaksNone before insn
  pub same : k ≡ after before insn

-- what is known along a path, none of whose instructions breaks a rule: at first no byte is stored
abbrev pub IsKnown : List Insn → List Tag → List ℕ → Types → Type 0
IsKnown insns entry [] k = k ≡ record { tags = entry; stored = λ byte. false }
IsKnown insns entry (from ∷ path) k = (before : Types) × IsKnown insns entry path before × GoesOn insns from before k

-- some path leads to the slot, and this is known along it
pub record IsWay (insns : List Insn) (entry : List Tag) (slot : ℕ) (k : Types) : Type 0 where
  pub path : List ℕ
  pub leads : IsPath insns path slot
  pub known : IsKnown insns entry path k

-- ---- shown faults

-- a path to the slot by which its instruction breaks the rule
pub record ShowsOne (insns : List Insn) (entry : List Tag) (slot : ℕ) (rule : CodeRule) : Type 0 where
  pub insn : Insn
  pub here : insn_at insns slot ≡ Some insn
  pub way : Types
  pub is_way : IsWay insns entry slot way
  pub broken : breaks way insn rule ≡ true

-- two paths to the slot that set a register, which its instruction reads, differently
pub record ShowsTwo (insns : List Insn) (entry : List Tag) (slot : ℕ) : Type 0 where
  pub insn : Insn
  pub here : insn_at insns slot ≡ Some insn
  pub reg : Reg
  pub read : IsIn reg (all_reads insn)
  pub left : Types
  pub right : Types
  pub left_way : IsWay insns entry slot left
  pub right_way : IsWay insns entry slot right
  pub left_set : tag left.tags reg ≢ Unset
  pub right_set : tag right.tags reg ≢ Unset
  pub differ : tag left.tags reg ≢ tag right.tags reg

-- V12 is shown by two paths, any other rule by one
abbrev pub IsShown : List Insn → List Tag → ℕ → CodeRule → Type 0
IsShown insns entry slot MixedRead = ShowsTwo insns entry slot
IsShown insns entry slot rule = ShowsOne insns entry slot rule

abbrev pub NothingShownBelow : ℕ → List Insn → List Tag → Type 0
NothingShownBelow n insns entry = (slot : ℕ) (rule : CodeRule) → slot < n → IsShown insns entry slot rule → ⊥

abbrev pub NothingShown : List Insn → List Tag → Type 0
NothingShown insns entry = (slot : ℕ) (rule : CodeRule) → IsShown insns entry slot rule → ⊥

-- the lowest slot at which a rule is shown, and the lowest rule shown there
pub record IsFirstShown (insns : List Insn) (entry : List Tag) (slot : ℕ) (rule : CodeRule) : Type 0 where
  pub shown : IsLowest (IsShown insns entry slot) rule
  pub before : NothingShownBelow slot insns entry

-- ---- what the paths to a slot have in common

-- a register's tag, of the tags that paths give it: Unset where some path leaves it unset, the common tag where all
-- agree, else Mixed
abbrev pub TellsTag : Tag → (Tag → Type 0) → Type 0
TellsTag Unset P = P Unset
TellsTag Number P = P Number × ((t : Tag) → P t → t ≡ Number)
TellsTag (Place o) P = P (Place o) × ((t : Tag) → P t → t ≡ Place o)
TellsTag Mixed P = (P Unset → ⊥) × (t : Tag) × (u : Tag) × P t × P u × (t ≢ u)

-- a byte's mark: set where all paths have stored the byte, else not set
abbrev pub TellsByte : Bool → (Bool → Type 0) → Type 0
TellsByte true P = P true × ((b : Bool) → P b → b ≡ true)
TellsByte false P = P false

-- what is known of some ways, of which there is one at least
pub record Tells (k : Types) (W : Types → Type 0) : Type 0 where
  pub eleven : length k.tags ≡ 11
  pub some : (w : Types) × W w
  pub each : (r : Reg) → TellsTag (tag k.tags r) (λ t. (w : Types) × W w × (tag w.tags r ≡ t))
  pub bytes : (byte : ℕ) → TellsByte (k.stored byte) (λ b. (w : Types) × W w × (w.stored byte ≡ b))
