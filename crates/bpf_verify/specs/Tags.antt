-- Tags: what is known of a register before a program runs, and of each byte of the stack whether it was stored. What an
-- instruction makes of them, and which rules it breaks by them. They are this project's own.
use Rattle.std.specs.Prelude.{◌≡◌, ℕ, zero, suc, ℤ, ◌+ℤ◌, Bool, true, false, ◌||◌, not, List, [], ◌∷◌}
use Rattle.std.specs.Prelude.{Option, Some, None, slice_index_or, slice_set, nat_eq}
use Rattle.std.specs.List.{list_any}
use Rattle.bpf_insn.specs.declared.reg.Reg.{Reg}
use Rattle.bpf_insn.specs.declared.insn.Width.TheVariants.{W64}
use Rattle.bpf_insn.specs.declared.insn.AluOp.TheVariants.{Add, Mov}
use Rattle.bpf_insn.specs.declared.insn.Operand.TheVariants.{Imm, Register}
use Rattle.bpf_insn.specs.declared.insn.Insn.{Insn}
use Rattle.bpf_insn.specs.declared.insn.Insn.TheVariants.{Alu}
use Rattle.bpf_insn.specs.declared.reads.Access.{Access}
use Rattle.bpf_insn.specs.declared.rule.CodeRule.{CodeRule}
use Rattle.bpf_insn.specs.declared.rule.CodeRule.TheVariants.{UnsetRead, MixedRead, NumberWanted, PlaceWanted, OutsideStack}
use Rattle.bpf_insn.specs.declared.rule.CodeRule.TheVariants.{UnstoredRead}
use Rattle.bpf_insn.specs.Spelling.{number_of_reg}
use Rattle.bpf_insn.specs.Reads.{is_outside_stack, access, load_access, store_access, number_reads, place_reads, all_reads}
use Rattle.bpf_insn.specs.Reads.{written_reg}
use Rattle.bpf_insn.specs.Effects.{byte_at}
use Rattle.bpf_verify.specs.declared.tag.Tag.{Tag}
use Rattle.bpf_verify.specs.declared.tag.Tag.TheVariants.{Unset, Number, Place, Mixed}

-- what is known: a tag for each register, and which bytes of the stack were stored, byte 0 being the lowest
pub record Types : Type 0 where
  pub tags : List Tag
  pub stored : ℕ → Bool

abbrev pub tag : List Tag → Reg → Tag
tag ts r = slice_index_or ts (number_of_reg r) Unset

abbrev pub is_unset_tag : Tag → Bool
is_unset_tag Unset = true
is_unset_tag _ = false

abbrev pub is_number_tag : Tag → Bool
is_number_tag Number = true
is_number_tag _ = false

abbrev pub is_place_tag : Tag → Bool
is_place_tag (Place o) = true
is_place_tag _ = false

abbrev pub is_mixed_tag : Tag → Bool
is_mixed_tag Mixed = true
is_mixed_tag _ = false

-- one of the registers has such a tag
abbrev pub any_tag : (Tag → Bool) → List Tag → List Reg → Bool
any_tag sort ts rs = list_any (λ r. sort (tag ts r)) rs

-- ---- the stack

-- so many bytes, at an offset from the place that the tag has, are not inside the stack
abbrev pub reaches_outside : Tag → ℤ → ℕ → Bool
reaches_outside (Place o) off n = is_outside_stack (o +ℤ off) n
reaches_outside _ off n = false

abbrev pub accesses_outside : List Tag → Option Access → Bool
accesses_outside ts (Some a) = reaches_outside (tag ts a.base) a.offset a.bytes
accesses_outside ts None = false

-- an access, or a moved place, is outside the stack
abbrev pub leaves_stack : List Tag → Insn → Bool
leaves_stack ts (Alu W64 Add d (Imm n)) = reaches_outside (tag ts d) n 0
leaves_stack ts i = accesses_outside ts (access i)

-- the bytes of an access
abbrev pub first_byte : Tag → ℤ → ℕ
first_byte (Place o) off = byte_at (o +ℤ off)
first_byte _ off = 0

abbrev pub bytes_from : ℕ → ℕ → List ℕ
bytes_from first zero = []
bytes_from first (suc n) = first ∷ bytes_from (suc first) n

abbrev pub bytes_of : List Tag → Option Access → List ℕ
bytes_of ts (Some a) = bytes_from (first_byte (tag ts a.base) a.offset) a.bytes
bytes_of ts None = []

-- ---- rules

-- by what is known, the instruction breaks the rule (a path leaves no register mixed, so that V12 is never of one path)
abbrev pub breaks : Types → Insn → CodeRule → Bool
breaks k i UnsetRead = any_tag is_unset_tag k.tags (all_reads i)
breaks k i MixedRead = any_tag is_mixed_tag k.tags (all_reads i)
breaks k i NumberWanted = any_tag is_place_tag k.tags (number_reads i)
breaks k i PlaceWanted = any_tag is_number_tag k.tags (place_reads i)
breaks k i OutsideStack = leaves_stack k.tags i
breaks k i UnstoredRead = list_any (λ b. not (k.stored b)) (bytes_of k.tags (load_access i))
breaks k i _ = false

abbrev pub BreaksNone : Types → Insn → Type 0
BreaksNone k i = (rule : CodeRule) → breaks k i rule ≡ false

-- ---- what is known after an instruction

-- ADD of imm moves a place
abbrev pub moved_tag : Tag → ℤ → Tag
moved_tag (Place o) n = Place (o +ℤ n)
moved_tag t n = t

-- the tag of what is written: MOV copies one, and all but it and ADD of imm write a number
abbrev pub written_tag : List Tag → Insn → Tag
written_tag ts (Alu W64 Add d (Imm n)) = moved_tag (tag ts d) n
written_tag ts (Alu W64 Mov d (Register s)) = tag ts s
written_tag ts i = Number

abbrev pub new_tags : List Tag → Option Reg → Tag → List Tag
new_tags ts None t = ts
new_tags ts (Some d) t = slice_set ts (number_of_reg d) t

-- a store stores its bytes
abbrev pub stores : List Tag → Insn → ℕ → Bool
stores ts i byte = list_any (nat_eq byte) (bytes_of ts (store_access i))

abbrev pub after : Types → Insn → Types
after k i = record {
  tags = new_tags k.tags (written_reg i) (written_tag k.tags i);
  stored = λ byte. k.stored byte || stores k.tags i byte;
}
