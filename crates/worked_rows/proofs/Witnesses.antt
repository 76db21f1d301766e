-- Ways through the programs of the worked rows.
use Rattle.std.proofs.Common.{◌≡◌, inl, inr, ℕ, List, [], ◌∷◌, Some, pos, false, refl}
use Rattle.bpf_insn.specs.declared.reg.Reg.TheVariants.{R0, R1, R2, R3, R10}
use Rattle.bpf_insn.specs.declared.insn.Insn.{Insn}
use Rattle.bpf_insn.specs.declared.insn.Insn.TheVariants.{Alu, Jump, Ja, Exit}
use Rattle.bpf_insn.specs.declared.insn.Width.TheVariants.{W64}
use Rattle.bpf_insn.specs.declared.insn.AluOp.TheVariants.{Mov}
use Rattle.bpf_insn.specs.declared.insn.Cond.TheVariants.{Eq}
use Rattle.bpf_insn.specs.declared.insn.Operand.TheVariants.{Imm, Register}
use Rattle.bpf_insn.specs.declared.operands.Kind.TheVariants.{Unary, Binary}
use Rattle.bpf_insn.specs.declared.rule.CodeRule.TheVariants.{
  BadLength,
  UnknownOpcode,
  OutsideProfile,
  RegisterAboveTen,
  UnusedField,
  BrokenWideLoad,
  JumpsBack,
  JumpsNowhere,
  StackTopWritten,
  NoExitAtEnd,
  UnsetRead,
  MixedRead,
  NumberWanted,
  PlaceWanted,
  OutsideStack,
  UnstoredRead,
}
use Rattle.bpf_insn.specs.Program.{insn_at}
use Rattle.bpf_verify.specs.declared.tag.Tag.{Tag}
use Rattle.bpf_verify.specs.Accepted.{entry_tags}
use Rattle.bpf_verify.specs.Tags.{Types, breaks, BreaksNone, after}
use Rattle.bpf_verify.specs.Paths.{GoesOn, IsPath, IsKnown, IsShown}
use Rattle.worked_rows.specs.Rows.{unset_on_one_way, mixed_by_two_ways, load_of_unstored}

-- of what is known, no instruction breaks another rule than these six
keeps : (k : Types) (i : Insn) → breaks k i UnsetRead ≡ false → breaks k i MixedRead ≡ false → breaks k i NumberWanted ≡ false → breaks k i PlaceWanted ≡ false → breaks k i OutsideStack ≡ false → breaks k i UnstoredRead ≡ false → BreaksNone k i
keeps k i a b c d e f BadLength = refl
keeps k i a b c d e f UnknownOpcode = refl
keeps k i a b c d e f OutsideProfile = refl
keeps k i a b c d e f RegisterAboveTen = refl
keeps k i a b c d e f UnusedField = refl
keeps k i a b c d e f BrokenWideLoad = refl
keeps k i a b c d e f JumpsBack = refl
keeps k i a b c d e f JumpsNowhere = refl
keeps k i a b c d e f StackTopWritten = refl
keeps k i a b c d e f NoExitAtEnd = refl
keeps k i a b c d e f UnsetRead = a
keeps k i a b c d e f MixedRead = b
keeps k i a b c d e f NumberWanted = c
keeps k i a b c d e f PlaceWanted = d
keeps k i a b c d e f OutsideStack = e
keeps k i a b c d e f UnstoredRead = f

abbrev start : List Tag → Types
start entry = record { tags = entry; stored = λ byte. false }

goes : (insns : List Insn) (from : ℕ) (k : Types) (i : Insn) → insn_at insns from ≡ Some i → BreaksNone k i → GoesOn insns from k (after k i)
goes insns from k i here kept = record { insn = i; here = here; unbroken = kept; same = refl }

pub unset : IsShown unset_on_one_way (entry_tags Unary) 2 UnsetRead
unset =
    let k = start (entry_tags Unary) in
    let jump = Jump W64 Eq R1 (Imm (pos 0)) (pos 1) in
    record {
      insn = Exit;
      here = refl;
      way = after k jump;
      is_way = record {
        path = 0 ∷ [];
        leads = (refl, record { insn = jump; here = refl; target = inr (inl refl) });
        known = (k, refl, goes unset_on_one_way 0 k jump refl (keeps k jump refl refl refl refl refl refl));
      };
      broken = refl;
    }

pub unstored : IsShown load_of_unstored (entry_tags Unary) 0 UnstoredRead
unstored = record { insn = _; here = refl; way = start (entry_tags Unary); is_way = record { path = []; leads = refl; known = refl }; broken = refl }

pub mixed : IsShown mixed_by_two_ways (entry_tags Binary) 4 MixedRead
mixed =
    let k = start (entry_tags Binary) in
    let jump = Jump W64 Eq R1 (Imm (pos 0)) (pos 2) in
    let place = Alu W64 Mov R3 (Register R10) in
    let over = Ja (pos 1) in
    let number = Alu W64 Mov R3 (Register R2) in
    let a = after k jump in
    let b = after a place in
    let first : IsKnown mixed_by_two_ways (entry_tags Binary) (0 ∷ []) a =
    (k, refl, goes mixed_by_two_ways 0 k jump refl (keeps k jump refl refl refl refl refl refl)) in
    let begun : IsPath mixed_by_two_ways (0 ∷ []) 1 = (refl, record { insn = jump; here = refl; target = inl refl }) in
    record {
      insn = Alu W64 Mov R0 (Register R3);
      here = refl;
      reg = R3;
      read = inl refl;
      left = after b over;
      right = after a number;
      left_way = record {
        path = 2 ∷ 1 ∷ 0 ∷ [];
        leads = ((begun, record { insn = place; here = refl; target = inl refl }), record { insn = over; here = refl; target = inl refl });
        known = (
          b,
          (a, first, goes mixed_by_two_ways 1 a place refl (keeps a place refl refl refl refl refl refl)),
          goes mixed_by_two_ways 2 b over refl (keeps b over refl refl refl refl refl refl),
        );
      };
      right_way = record {
        path = 3 ∷ 0 ∷ [];
        leads = ((refl, record { insn = jump; here = refl; target = inr (inl refl) }), record { insn = number; here = refl; target = inl refl });
        known = (a, first, goes mixed_by_two_ways 3 a number refl (keeps a number refl refl refl refl refl refl));
      };
      left_set = λ e. cc;
      right_set = λ e. cc;
      differ = λ e. cc;
    }
