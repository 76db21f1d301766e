-- What is known of some ways, as ways are added and as an instruction is taken.
use Rattle.std.proofs.Common.{◌≡◌, ◌≢◌, ℕ, Bool, true, false, sym, ◌∙◌, ap, refl, subst, cond, ◌⊎◌, inl}
use Rattle.std.proofs.Common.{inr, ◌&&◌}
use Rattle.std.specs.Prelude.{Option, Some, None, ℤ}
use Rattle.std.specs.Ordering.{int_eq}
use Rattle.std.proofs.lemmas.Bool.Decides.{Decides-int_eq}
use Rattle.bpf_insn.specs.declared.reg.Reg.{Reg}
use Rattle.bpf_verify.specs.declared.tag.Tag.{Tag}
use Rattle.bpf_verify.specs.declared.tag.Tag.TheVariants.{Unset, Number, Place, Mixed}
use Rattle.bpf_verify.specs.Tags.{Types, tag}
use Rattle.bpf_verify.specs.Paths.{TellsTag, TellsByte, Tells}
use Rattle.bpf_verify.specs.inner.Pass.{joined, IsJoined, IsMerged, TellsSlot}

-- ---- a tag of the tags of two families

module _ (P Q : Tag → Type 0) where
  two_tags : (a b : Tag) → P a → Q b → a ≢ b → a ≢ Unset → b ≢ Unset → ((t : Tag) → P t → t ≡ a) → ((t : Tag) → Q t → t ≡ b) → TellsTag Mixed (λ t. P t ⊎ Q t)
  two_tags a b p q d m n f g = ((λ e. elim e [ inl x ↦ m (sym (f Unset x)) | inr x ↦ n (sym (g Unset x)) ]), a, b, inl p, inr q, d)

  mixed_right : (a : Tag) → a ≢ Unset → ((t : Tag) → P t → t ≡ a) → TellsTag Mixed Q → TellsTag Mixed (λ t. P t ⊎ Q t)
  mixed_right a m f k = ((λ e. elim e [ inl x ↦ m (sym (f Unset x)) | inr x ↦ k.0 x ]), k.1, k.2, inr k.3, inr k.4, k.5)

  mixed_left : (b : Tag) → b ≢ Unset → TellsTag Mixed P → ((t : Tag) → Q t → t ≡ b) → TellsTag Mixed (λ t. P t ⊎ Q t)
  mixed_left b n h g = ((λ e. elim e [ inl x ↦ h.0 x | inr x ↦ n (sym (g Unset x)) ]), h.1, h.2, inl h.3, inl h.4, h.5)

  places : (o p : ℤ) → TellsTag (Place o) P → TellsTag (Place p) Q → (b : Bool) → (b ≡ true → o ≡ p) → (o ≡ p → b ≡ true) → TellsTag (cond b (Place o) Mixed) (λ t. P t ⊎ Q t)
  places o p h k true f g = (inl h.0, λ t e. elim e [ inl x ↦ h.1 t x | inr x ↦ k.1 t x ∙ ap Place (sym (f refl)) ])
  places o p h k false f g = two_tags (Place o) (Place p) h.0 k.0 (λ e. let same : o ≡ p = cc in let x = g same in cc) (λ e. cc) (λ e. cc) h.1 k.1

  tag_joined : (a b : Tag) → TellsTag a P → TellsTag b Q → TellsTag (joined a b) (λ t. P t ⊎ Q t)
  tag_joined Unset b h k = inl h
  tag_joined Number Unset h k = inr k
  tag_joined (Place o) Unset h k = inr k
  tag_joined Mixed Unset h k = inr k
  tag_joined Number Number h k = (inl h.0, λ t e. elim e [ inl x ↦ h.1 t x | inr x ↦ k.1 t x ])
  tag_joined Number (Place p) h k = two_tags Number (Place p) h.0 k.0 (λ e. cc) (λ e. cc) (λ e. cc) h.1 k.1
  tag_joined Number Mixed h k = mixed_right Number (λ e. cc) h.1 k
  tag_joined (Place o) Number h k = two_tags (Place o) Number h.0 k.0 (λ e. cc) (λ e. cc) (λ e. cc) h.1 k.1
  tag_joined (Place o) (Place p) h k = places o p h k (int_eq o p) (Decides-int_eq o p).0 (Decides-int_eq o p).1
  tag_joined (Place o) Mixed h k = mixed_right (Place o) (λ e. cc) h.1 k
  tag_joined Mixed Number h k = mixed_left Number (λ e. cc) h k.1
  tag_joined Mixed (Place p) h k = mixed_left (Place p) (λ e. cc) h k.1
  tag_joined Mixed Mixed h k = ((λ e. elim e [ inl x ↦ h.0 x | inr x ↦ k.0 x ]), h.1, h.2, inl h.3, inl h.4, h.5)

byte_joined : (P Q : Bool → Type 0) (a b : Bool) → TellsByte a P → TellsByte b Q → TellsByte (a && b) (λ t. P t ⊎ Q t)
byte_joined P Q true true h k = (inl h.0, λ t e. elim e [ inl x ↦ h.1 t x | inr x ↦ k.1 t x ])
byte_joined P Q true false h k = inr k
byte_joined P Q false b h k = inl h

-- ---- families that are one

pub tag_same : (P Q : Tag → Type 0) → ((t : Tag) → P t → Q t) → ((t : Tag) → Q t → P t) → (a : Tag) → TellsTag a P
    → TellsTag a Q
tag_same P Q f g Unset h = f Unset h
tag_same P Q f g Number h = (f Number h.0, λ t q. h.1 t (g t q))
tag_same P Q f g (Place o) h = (f (Place o) h.0, λ t q. h.1 t (g t q))
tag_same P Q f g Mixed h = ((λ q. h.0 (g Unset q)), h.1, h.2, f h.1 h.3, f h.2 h.4, h.5)

pub byte_same : (P Q : Bool → Type 0) → ((t : Bool) → P t → Q t) → ((t : Bool) → Q t → P t) → (a : Bool)
    → TellsByte a P → TellsByte a Q
byte_same P Q f g true h = (f true h.0, λ t q. h.1 t (g t q))
byte_same P Q f g false h = f false h

-- some way leaves the tag in the register, or the mark at the byte
abbrev pub Leaves : (Types → Type 0) → Reg → Tag → Type 0
Leaves W r t = (w : Types) × W w × (tag w.tags r ≡ t)

abbrev pub Marks : (Types → Type 0) → ℕ → Bool → Type 0
Marks W byte b = (w : Types) × W w × (w.stored byte ≡ b)

pub all_same : (W V : Types → Type 0) → ((w : Types) → W w → V w) → ((w : Types) → V w → W w) → (k : Types)
    → Tells k W → Tells k V
all_same W V f g k h = record {
  eleven = h.eleven;
  some = (h.some.0, f h.some.0 h.some.1);
  each = λ r. tag_same (Leaves W r) (Leaves V r) (λ t x. (x.0, f x.0 x.1, x.2)) (λ t x. (x.0, g x.0 x.1, x.2)) (tag k.tags r) (h.each r);
  bytes = λ byte. byte_same (Marks W byte) (Marks V byte) (λ t x. (x.0, f x.0 x.1, x.2)) (λ t x. (x.0, g x.0 x.1, x.2)) (k.stored byte) (h.bytes byte);
}

pub slot_same : (W V : Types → Type 0) → ((w : Types) → W w → V w) → ((w : Types) → V w → W w) → (o : Option Types)
    → TellsSlot o W → TellsSlot o V
slot_same W V f g (Some k) h = all_same W V f g k h
slot_same W V f g None h = λ w v. h w (g w v)

-- ---- two families

union_all : (W V : Types → Type 0) (j k new : Types) → Tells j W → Tells k V → IsJoined j k new
    → Tells new (λ w. W w ⊎ V w)
union_all W V j k new h l e = record {
  eleven = e.eleven;
  some = (h.some.0, inl h.some.1);
  each = λ r. subst (λ a. TellsTag a (Leaves (λ w. W w ⊎ V w) r)) (sym (e.tags r))
      (tag_same (λ t. Leaves W r t ⊎ Leaves V r t) (Leaves (λ w. W w ⊎ V w) r)
      (λ t x. elim x [ inl w ↦ (w.0, inl w.1, w.2) | inr v ↦ (v.0, inr v.1, v.2) ])
      (λ t x. elim x.1 [ inl w ↦ inl (x.0, w, x.2) | inr v ↦ inr (x.0, v, x.2) ])
      (joined (tag j.tags r) (tag k.tags r))
      (tag_joined (Leaves W r) (Leaves V r) (tag j.tags r) (tag k.tags r) (h.each r) (l.each r)));
  bytes = λ byte. subst (λ a. TellsByte a (Marks (λ w. W w ⊎ V w) byte)) (sym (e.bytes byte))
      (byte_same (λ t. Marks W byte t ⊎ Marks V byte t) (Marks (λ w. W w ⊎ V w) byte)
      (λ t x. elim x [ inl w ↦ (w.0, inl w.1, w.2) | inr v ↦ (v.0, inr v.1, v.2) ])
      (λ t x. elim x.1 [ inl w ↦ inl (x.0, w, x.2) | inr v ↦ inr (x.0, v, x.2) ])
      (j.stored byte && k.stored byte)
      (byte_joined (Marks W byte) (Marks V byte) (j.stored byte) (k.stored byte) (h.bytes byte) (l.bytes byte)));
}

union_none : (W V : Types → Type 0) (k : Types) → ((w : Types) → W w → ⊥) → Tells k V → Tells k (λ w. W w ⊎ V w)
union_none W V k none h =
    all_same V (λ w. W w ⊎ V w) (λ w v. inr v) (λ w x. elim x [ inl y ↦ absurd (none w y) | inr v ↦ v ]) k h

pub merged_slot : (W V : Types → Type 0) (o : Option Types) (k new : Types) → TellsSlot o W → Tells k V → IsMerged o k new
    → Tells new (λ w. W w ⊎ V w)
merged_slot W V (Some old) k new h l m = union_all W V old k new h l m
merged_slot W V None k new h l m = subst (λ x. Tells x (λ w. W w ⊎ V w)) (sym m) (union_none W V k h l)
