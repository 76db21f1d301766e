-- What is known of a running machine, from one instruction to the next.
use Rattle.std.proofs.Common.{◌≡◌, ◌≢◌, ◌<◌, ◌≤◌, ◌+◌, ℕ, arith, Bool, true, false, not, List, []}
use Rattle.std.proofs.Common.{◌∷◌, length, sym, ◌∙◌, ap, refl, subst, ◌⊎◌, inl, inr, ◌||◌, get_or-set_same}
use Rattle.std.proofs.Common.{get_or-set_other}
use Rattle.std.specs.Prelude.{Option, Some, None, ℤ, ◌+ℤ◌, slice_set, is_some, is_none, slice_index_or, nat_eq}
use Rattle.std.specs.List.{list_any}
use Rattle.std.specs.Int.{to_le_bytes, cast_unsigned, w64}
use Rattle.std.proofs.lemmas.List.{length-set}
use Rattle.bpf_insn.specs.declared.reg.Reg.{Reg}
use Rattle.bpf_insn.specs.declared.insn.Width.TheVariants.{W64}
use Rattle.bpf_insn.specs.declared.insn.AluOp.TheVariants.{Add, Mov}
use Rattle.bpf_insn.specs.declared.insn.Operand.TheVariants.{Imm, Register}
use Rattle.bpf_insn.specs.declared.insn.Size.{Size}
use Rattle.bpf_insn.specs.declared.insn.Size.TheVariants as sizes
use Rattle.bpf_insn.specs.declared.insn.Insn.{Insn}
use Rattle.bpf_insn.specs.declared.insn.Insn.TheVariants.{Alu, Neg, Movsx, End, Ldx, Ldsx, Stx, St, Wide}
use Rattle.bpf_insn.specs.declared.rule.CodeRule.TheVariants.{UnsetRead, MixedRead, NumberWanted, PlaceWanted, OutsideStack}
use Rattle.bpf_insn.specs.declared.rule.CodeRule.TheVariants.{UnstoredRead}
use Rattle.bpf_insn.specs.declared.content.Content.{Content}
use Rattle.bpf_insn.specs.declared.content.Content.TheVariants as contents
use Rattle.bpf_insn.specs.declared.frame.Frame.{Frame}
use Rattle.bpf_insn.specs.Spelling.{number_of_reg}
use Rattle.bpf_insn.specs.Reads.{content, is_unset, is_number, is_place, any_stands, is_outside_stack, moves_outside, leaves_stack}
use Rattle.bpf_insn.specs.Reads.{byte_count, signed_byte_count, load_access, store_access, written_reg, all_reads, number_reads}
use Rattle.bpf_insn.specs.Reads.{place_reads}
use Rattle.bpf_insn.specs.Reads as machine
use Rattle.bpf_insn.specs.Effects.{number, moved, written, new_registers, new_stack, stack_index, bytes_at, is_unstored, stored}
use Rattle.bpf_insn.specs.Effects.{width_of}
use Rattle.bpf_verify.specs.declared.tag.Tag.{Tag}
use Rattle.bpf_verify.specs.declared.tag.Tag.TheVariants.{Unset, Number, Place, Mixed}
use Rattle.bpf_verify.specs.Tags as tags
use Rattle.bpf_verify.specs.Tags.{Types, tag, is_unset_tag, is_number_tag, is_place_tag, is_mixed_tag, breaks, BreaksNone}
use Rattle.bpf_verify.specs.Tags.{moved_tag, written_tag, new_tags, first_byte, bytes_from, stores, after}
use Rattle.bpf_verify.specs.Paths.{IsIn}
use Rattle.bpf_verify.specs.Holds.{Agrees, HoldsOf}
use Rattle.bpf_verify.proofs.After.{none_in, number_read, place_read, number_below, same_or_not, set_here, set_there}
use Rattle.bpf_verify.proofs.Stack.{load_finds, store_keeps, store_length, byte_within}

-- ---- one register

number_left : (t : Tag) → is_unset_tag t ≡ false → is_mixed_tag t ≡ false → is_place_tag t ≡ false
    → is_number_tag t ≡ true
number_left t a b c = grind arith

place_left : (t : Tag) → is_unset_tag t ≡ false → is_mixed_tag t ≡ false → is_number_tag t ≡ false
    → is_place_tag t ≡ true
place_left t a b c = grind arith

set_known : (t : Tag) (c : Content) → Agrees t c → is_unset_tag t ≡ false → is_unset c ≡ false
set_known t c a e = grind arith

number_no_place : (t : Tag) (c : Content) → Agrees t c → is_number_tag t ≡ true → is_place c ≡ false
number_no_place t c a e = grind arith

place_no_number : (t : Tag) (c : Content) → Agrees t c → is_place_tag t ≡ true → is_number c ≡ false
place_no_number t c a e = grind arith

-- where a place is known, an access reaches outside as the tag says, and begins at the byte that it says
access_alike : (t : Tag) (c : Content) (off : ℤ) (n : ℕ) → Agrees t c → is_place_tag t ≡ true
    → machine.reaches_outside c off n ≡ tags.reaches_outside t off n
access_alike t c off n a e = grind arith

index_alike : (t : Tag) (c : Content) (off : ℤ) → Agrees t c → is_place_tag t ≡ true
    → stack_index c off ≡ first_byte t off
index_alike t c off a e = grind arith

move_alike : (t : Tag) (c : Content) (n : ℤ) → Agrees t c → is_unset_tag t ≡ false → is_mixed_tag t ≡ false
    → moves_outside c n ≡ tags.reaches_outside t n 0
move_alike t c n a e f = grind arith

-- ---- all registers that are read

none_of : (p : Reg → Bool) (rs : List Reg) → ((r : Reg) → IsIn r rs → p r ≡ false) → list_any p rs ≡ false
none_of p [] f = refl
none_of p (x ∷ rs) f = rw (f x (inl refl)) (none_of p rs (λ r h. f r (inr h)))

module _ (k : Types) (f : Frame) (i : Insn) (h : HoldsOf k f) (e : BreaksNone k i) where
  set_read : (r : Reg) → IsIn r (all_reads i) → is_unset_tag (tag k.tags r) ≡ false
  set_read r read = none_in (λ q. is_unset_tag (tag k.tags q)) r (all_reads i) (e UnsetRead) read

  one_read : (r : Reg) → IsIn r (all_reads i) → is_mixed_tag (tag k.tags r) ≡ false
  one_read r read = none_in (λ q. is_mixed_tag (tag k.tags q)) r (all_reads i) (e MixedRead) read

  a_number : (r : Reg) → IsIn r (number_reads i) → is_number_tag (tag k.tags r) ≡ true
  a_number r read = number_left (tag k.tags r) (set_read r (number_read r i read)) (one_read r (number_read r i read)) (none_in (λ q. is_place_tag (tag k.tags q)) r (number_reads i) (e NumberWanted) read)

  pub a_place : (r : Reg) → IsIn r (place_reads i) → is_place_tag (tag k.tags r) ≡ true
  a_place r read = place_left (tag k.tags r) (set_read r (place_read r i read)) (one_read r (place_read r i read)) (none_in (λ q. is_number_tag (tag k.tags q)) r (place_reads i) (e PlaceWanted) read)

  pub reads_set : any_stands is_unset f.registers (all_reads i) ≡ false
  reads_set = none_of (λ r. is_unset (content f.registers r)) (all_reads i) (λ r read. set_known (tag k.tags r) (content f.registers r) (h.registers r) (set_read r read))

  pub reads_numbers : any_stands is_place f.registers (number_reads i) ≡ false
  reads_numbers = none_of (λ r. is_place (content f.registers r)) (number_reads i) (λ r read. number_no_place (tag k.tags r) (content f.registers r) (h.registers r) (a_number r read))

  pub reads_places : any_stands is_number f.registers (place_reads i) ≡ false
  reads_places = none_of (λ r. is_number (content f.registers r)) (place_reads i) (λ r read. place_no_number (tag k.tags r) (content f.registers r) (h.registers r) (a_place r read))

-- ---- the stack

pub stays_inside : (k : Types) (f : Frame) (i : Insn) → HoldsOf k f → BreaksNone k i → leaves_stack f.registers i ≡ false
stays_inside k f (Alu W64 Add d (Imm n)) h e = move_alike (tag k.tags d) (content f.registers d) n (h.registers d) (set_read k f (Alu W64 Add d (Imm n)) h e d (inl refl)) (one_read k f (Alu W64 Add d (Imm n)) h e d (inl refl)) ∙ e OutsideStack
stays_inside k f (Ldx z d b off) h e = access_alike (tag k.tags b) (content f.registers b) off (byte_count z) (h.registers b) (a_place k f (Ldx z d b off) h e b (inl refl)) ∙ e OutsideStack
stays_inside k f (Ldsx z d b off) h e = access_alike (tag k.tags b) (content f.registers b) off (signed_byte_count z) (h.registers b) (a_place k f (Ldsx z d b off) h e b (inl refl)) ∙ e OutsideStack
stays_inside k f (Stx z b off q) h e = access_alike (tag k.tags b) (content f.registers b) off (byte_count z) (h.registers b) (a_place k f (Stx z b off q) h e b (inl refl)) ∙ e OutsideStack
stays_inside k f (St z b off n) h e = access_alike (tag k.tags b) (content f.registers b) off (byte_count z) (h.registers b) (a_place k f (St z b off n) h e b (inl refl)) ∙ e OutsideStack
stays_inside k f _ h e = refl

finds_all : (k : Types) (f : Frame) (b : Reg) (off : ℤ) (n : ℕ) → HoldsOf k f → is_place_tag (tag k.tags b) ≡ true
    → list_any (λ x. not (k.stored x)) (bytes_from (first_byte (tag k.tags b) off) n) ≡ false
    → list_any is_none (bytes_at f.stack (stack_index (content f.registers b) off) n) ≡ false
finds_all k f b off n h p e = ap (λ x. list_any is_none (bytes_at f.stack x n)) (index_alike (tag k.tags b) (content f.registers b) off (h.registers b) p) ∙ load_finds f.stack (first_byte (tag k.tags b) off) n k.stored h.bytes e

pub loads_stored : (k : Types) (f : Frame) (i : Insn) → HoldsOf k f → BreaksNone k i
    → is_unstored f.registers f.stack (load_access i) ≡ false
loads_stored k f (Ldx z d b off) h e =
    finds_all k f b off (byte_count z) h (a_place k f (Ldx z d b off) h e b (inl refl)) (e UnstoredRead)
loads_stored k f (Ldsx z d b off) h e =
    finds_all k f b off (signed_byte_count z) h (a_place k f (Ldsx z d b off) h e b (inl refl)) (e UnstoredRead)
loads_stored k f _ h e = refl

-- ---- what is written

abbrev WrittenAgree : Option Reg → Tag → Option (Reg × Content) → Type 0
WrittenAgree None t None = Unit {0}
WrittenAgree None t (Some c) = ⊥
WrittenAgree (Some d) t None = ⊥
WrittenAgree (Some d) t (Some c) = (d ≡ c.0) × Agrees t c.1

moved_agree : (t : Tag) (c : Content) (n : ℤ) → Agrees t c → is_unset_tag t ≡ false → is_mixed_tag t ≡ false
    → Agrees (moved_tag t n) (moved c n)
moved_agree Number (contents.Number m) n a e g = tt
moved_agree Number contents.Unset n a e g = absurd a
moved_agree Number (contents.Place p) n a e g = absurd a
moved_agree (Place o) (contents.Place p) n a e g = ap (λ q. q +ℤ n) a
moved_agree (Place o) contents.Unset n a e g = absurd a
moved_agree (Place o) (contents.Number m) n a e g = absurd a
moved_agree Unset c n a e g = absurd (cc)
moved_agree Mixed c n a e g = absurd (cc)

written_agree : (k : Types) (f : Frame) (i : Insn) → HoldsOf k f → BreaksNone k i
    → WrittenAgree (written_reg i) (written_tag k.tags i) (written f.registers f.stack i)
written_agree k f (Alu W64 Add d (Imm n)) h e = (refl, moved_agree (tag k.tags d) (content f.registers d) n (h.registers d) (set_read k f (Alu W64 Add d (Imm n)) h e d (inl refl)) (one_read k f (Alu W64 Add d (Imm n)) h e d (inl refl)))
written_agree k f (Alu W64 Mov d (Register q)) h e = (refl, h.registers q)
written_agree k f (Alu w op d q) h e = (refl, tt)
written_agree k f (Neg w d) h e = (refl, tt)
written_agree k f (Movsx x d q) h e = (refl, tt)
written_agree k f (End o z d) h e = (refl, tt)
written_agree k f (Ldx z d b off) h e = (refl, tt)
written_agree k f (Ldsx z d b off) h e = (refl, tt)
written_agree k f (Wide d v) h e = (refl, tt)
written_agree k f _ h e = tt

content_here : (regs : List Content) (d r : Reg) (c : Content) → length regs ≡ 11 → r ≡ d
    → content (slice_set regs (number_of_reg d) c) r ≡ c
content_here regs d r c long e =
    let below : number_of_reg d < length regs = omega (arith, number_below d) in
    rw e (get_or-set_same regs (number_of_reg d) c contents.Unset below)

new_agree : (ts : List Tag) (regs : List Content) (o : Option Reg) (t : Tag) (c : Option (Reg × Content)) → length ts ≡ 11
    → length regs ≡ 11 → ((r : Reg) → Agrees (tag ts r) (content regs r)) → WrittenAgree o t c → (r : Reg)
    → Agrees (tag (new_tags ts o t) r) (content (new_registers regs c) r)
new_agree ts regs None t None lt lr a w r = a r
new_agree ts regs None t (Some c) lt lr a w r = absurd w
new_agree ts regs (Some d) t None lt lr a w r = absurd w
new_agree ts regs (Some d) t (Some c) lt lr a w r = elim (same_or_not r d) [
  | inl e ↦ rw (set_here ts d r t lt e, content_here regs c.0 r c.1 lr (e ∙ w.0)) w.1
  | inr n ↦
      let m : number_of_reg r ≢ number_of_reg c.0 = λ e. n (e ∙ ap number_of_reg (sym w.0)) in
      rw (set_there ts d r t n, get_or-set_other regs (number_of_reg c.0) (number_of_reg r) c.1 contents.Unset m) (a r)
]

length_registers : (regs : List Content) (c : Option (Reg × Content)) → length (new_registers regs c) ≡ length regs
length_registers regs None = refl
length_registers regs (Some c) = length-set regs (number_of_reg c.0) c.1

-- ---- what is stored

length_bytes : (z : Size) (n : ℕ) → length (to_le_bytes (width_of z) n) ≡ byte_count z
length_bytes sizes.B8 n = refl
length_bytes sizes.B16 n = refl
length_bytes sizes.B32 n = refl
length_bytes sizes.B64 n = refl

-- an access that is inside ends within the stack
pub ends_within : (t : Tag) (off : ℤ) (n : ℕ) → is_place_tag t ≡ true → tags.reaches_outside t off n ≡ false
    → first_byte t off + n ≤ 512
ends_within t off n p e = grind arith

stored_after : (k : Types) (f : Frame) (z : Size) (b : Reg) (off : ℤ) (n : ℕ) → HoldsOf k f → is_place_tag (tag k.tags b) ≡ true → tags.reaches_outside (tag k.tags b) off (byte_count z) ≡ false → ((x : ℕ) → (k.stored x || list_any (nat_eq x) (bytes_from (first_byte (tag k.tags b) off) (byte_count z))) ≡ true → is_some (slice_index_or (stored z f.stack (stack_index (content f.registers b) off) n) x None) ≡ true) × (length (stored z f.stack (stack_index (content f.registers b) off) n) ≡ 512)
stored_after k f z b off n h p e =
    let at = index_alike (tag k.tags b) (content f.registers b) off (h.registers b) p in
    let first = first_byte (tag k.tags b) off in
    let bs = to_le_bytes (width_of z) n in
    let ends : first + byte_count z ≡ first + length bs = ap (λ m. first + m) (sym (length_bytes z n)) in
    let fits : first + byte_count z ≤ length f.stack = omega (arith, ends_within (tag k.tags b) off (byte_count z) p e, h.whole) in
    rw at (
      (λ x s. store_keeps f.stack first (first + byte_count z) x bs ends fits (either (k.stored x) (list_any (nat_eq x) (bytes_from first (byte_count z))) s (h.bytes x) (byte_within x first (byte_count z)))),
      store_length f.stack first (first + byte_count z) bs ends fits ∙ h.whole,
    ) where
      either : {A B : Type 0} (s t : Bool) → (s || t) ≡ true → (s ≡ true → A) → (t ≡ true → B) → A ⊎ B
      either true t e f g = inl (f refl)
      either false t e f g = inr (g e)

or_none : (b : Bool) → (b || false) ≡ true → b ≡ true
or_none true e = refl
or_none false e = e

stack_after : (k : Types) (f : Frame) (i : Insn) → HoldsOf k f → BreaksNone k i → ((x : ℕ) → (k.stored x || stores k.tags i x) ≡ true → is_some (slice_index_or (new_stack f.registers f.stack i) x None) ≡ true) × (length (new_stack f.registers f.stack i) ≡ 512)
stack_after k f (Stx z b off q) h e =
    stored_after k f z b off (number (content f.registers q)) h (a_place k f (Stx z b off q) h e b (inl refl)) (e OutsideStack)
stack_after k f (St z b off n) h e =
    stored_after k f z b off (cast_unsigned w64 n) h (a_place k f (St z b off n) h e b (inl refl)) (e OutsideStack)
stack_after k f _ h e = (λ x s. h.bytes x (or_none (k.stored x) s), h.whole)

-- what is known after the instruction holds of the frame after it
pub holds_after : (k : Types) (f g : Frame) (i : Insn) → length k.tags ≡ 11 → HoldsOf k f → BreaksNone k i
    → g.registers ≡ new_registers f.registers (written f.registers f.stack i) → g.stack ≡ new_stack f.registers f.stack i
    → HoldsOf (after k i) g
holds_after k f g i long h e regs mem =
    let m = stack_after k f i h e in
    record {
      registers = λ r. subst (λ c. Agrees (tag (after k i).tags r) (content c r)) (sym regs) (new_agree k.tags f.registers (written_reg i) (written_tag k.tags i) (written f.registers f.stack i) long h.eleven h.registers (written_agree k f i h e) r);
      bytes = λ x s. subst (λ c. is_some (slice_index_or c x None) ≡ true) (sym mem) (m.0 x s);
      eleven = ap length regs ∙ length_registers f.registers (written f.registers f.stack i) ∙ h.eleven;
      whole = ap length mem ∙ m.1;
    }
