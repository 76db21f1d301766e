-- What is known after an instruction, of the ways that lead to it.
use Rattle.std.proofs.Common.{◌≡◌, ◌≢◌, ◌<◌, ℕ, arith, Bool, true, false, List, [], ◌∷◌, ◌++◌, length}
use Rattle.std.proofs.Common.{sym, ◌∙◌, ap, refl, subst, ◌⊎◌, inl, inr, ◌||◌, get_or-set_same, get_or-set_other}
use Rattle.std.specs.Prelude.{Option, Some, None, ℤ, slice_set, nat_eq}
use Rattle.std.specs.List.{list_any}
use Rattle.std.proofs.lemmas.Bool.{cases_eq}
use Rattle.std.proofs.lemmas.List.{length-set}
use Rattle.bpf_insn.specs.declared.reg.Reg.{Reg}
use Rattle.bpf_insn.specs.declared.insn.Width.TheVariants.{W64}
use Rattle.bpf_insn.specs.declared.insn.AluOp.TheVariants.{Add, Mov}
use Rattle.bpf_insn.specs.declared.insn.Operand.TheVariants.{Imm, Register}
use Rattle.bpf_insn.specs.declared.insn.Insn.{Insn}
use Rattle.bpf_insn.specs.declared.insn.Insn.TheVariants.{Alu, Ldx, Ldsx, Stx, St}
use Rattle.bpf_insn.specs.declared.rule.CodeRule.TheVariants.{UnsetRead, MixedRead}
use Rattle.bpf_insn.specs.Spelling.{number_of_reg}
use Rattle.bpf_insn.specs.Reads.{written_reg, all_reads, number_reads, content_reads, place_reads, load_access, store_access}
use Rattle.bpf_insn.specs.Reads.{byte_count, signed_byte_count}
use Rattle.bpf_verify.specs.declared.tag.Tag.{Tag}
use Rattle.bpf_verify.specs.declared.tag.Tag.TheVariants.{Unset, Number, Place, Mixed}
use Rattle.bpf_verify.specs.Tags.{Types, tag, is_unset_tag, is_mixed_tag, breaks, moved_tag, written_tag, new_tags, bytes_of}
use Rattle.bpf_verify.specs.Tags.{bytes_from, first_byte, stores, after}
use Rattle.bpf_verify.specs.Paths.{IsIn, TellsTag, TellsByte, Tells}
use Rattle.bpf_verify.specs.inner.Pass.{IsAfter}
use Rattle.bpf_verify.proofs.Telling.{tag_same, byte_same, Leaves, Marks}

-- ---- tests over lists

pub any_in : {A : Type 0} (p : A → Bool) (xs : List A) → list_any p xs ≡ true → (x : A) × IsIn x xs × (p x ≡ true)
any_in {A = A} p [] e = absurd (cc)
any_in {A = A} p (x ∷ xs) e = step (p x) refl e (λ k. any_in p xs k) where
  step : (b : Bool) → p x ≡ b → (b || list_any p xs) ≡ true → (list_any p xs ≡ true → (y : A) × IsIn y xs × (p y ≡ true)) → (y : A) × IsIn y (x ∷ xs) × (p y ≡ true)
  step true h k f = (x, inl refl, h)
  step false h k f = let y = f k in (y.0, inr y.1, y.2)

pub in_any : {A : Type 0} (p : A → Bool) (x : A) (xs : List A) → IsIn x xs → p x ≡ true → list_any p xs ≡ true
in_any p x [] h e = absurd h
in_any p x (y ∷ ys) (inl s) e = step (p y) (ap p (sym s) ∙ e) where
  step : (b : Bool) → b ≡ true → (b || list_any p ys) ≡ true
  step b k = rw k refl
in_any p x (y ∷ ys) (inr s) e = step (p y) (in_any p x ys s e) where
  step : (b : Bool) → list_any p ys ≡ true → (b || list_any p ys) ≡ true
  step true k = refl
  step false k = k

pub none_in : {A : Type 0} (p : A → Bool) (x : A) (xs : List A) → list_any p xs ≡ false → IsIn x xs → p x ≡ false
none_in p x xs e h = step (p x) refl where
  step : (b : Bool) → p x ≡ b → b ≡ false
  step true k = let y = in_any p x xs h k in absurd (cc)
  step false k = refl

pub any_alike : {A : Type 0} (p q : A → Bool) (xs : List A) → ((x : A) → IsIn x xs → p x ≡ q x)
    → list_any p xs ≡ list_any q xs
any_alike p q [] f = refl
any_alike p q (x ∷ xs) f = rw (f x (inl refl), any_alike p q xs (λ y h. f y (inr h))) refl

pub in_left : {A : Type 0} (x : A) (xs ys : List A) → IsIn x xs → IsIn x (xs ++ ys)
in_left x [] ys h = absurd h
in_left x (y ∷ xs) ys (inl e) = inl e
in_left x (y ∷ xs) ys (inr h) = inr (in_left x xs ys h)

pub in_right : {A : Type 0} (x : A) (xs ys : List A) → IsIn x ys → IsIn x (xs ++ ys)
in_right x [] ys h = h
in_right x (y ∷ xs) ys h = inr (in_right x xs ys h)

pub number_read : (r : Reg) (i : Insn) → IsIn r (number_reads i) → IsIn r (all_reads i)
number_read r i h = in_left r (number_reads i) (content_reads i ++ place_reads i) h

pub place_read : (r : Reg) (i : Insn) → IsIn r (place_reads i) → IsIn r (all_reads i)
place_read r i h = in_right r (number_reads i) (content_reads i ++ place_reads i) (in_right r (content_reads i) (place_reads i) h)

-- ---- the same tags where the instruction reads

abbrev pub SameReads : Types → Types → Insn → Type 0
SameReads w k i = (r : Reg) → IsIn r (all_reads i) → tag w.tags r ≡ tag k.tags r

-- nothing that is read is unset or mixed
pub record IsSettled (k : Types) (i : Insn) : Type 0 where
  pub set : breaks k i UnsetRead ≡ false
  pub one : breaks k i MixedRead ≡ false

settled_tag : (a : Tag) (P : Tag → Type 0) → is_unset_tag a ≡ false → is_mixed_tag a ≡ false → TellsTag a P
    → (t : Tag) → P t → t ≡ a
settled_tag Number P e f h t p = h.1 t p
settled_tag (Place o) P e f h t p = h.1 t p
settled_tag Unset P e f h t p = absurd (cc)
settled_tag Mixed P e f h t p = absurd (cc)

pub same_reads : (W : Types → Type 0) (k w : Types) (i : Insn) → IsSettled k i → Tells k W → W w → SameReads w k i
same_reads W k w i s h v = λ r read. settled_tag (tag k.tags r) (Leaves W r) (none_in (λ q. is_unset_tag (tag k.tags q)) r (all_reads i) s.set read) (none_in (λ q. is_mixed_tag (tag k.tags q)) r (all_reads i) s.one read) (h.each r) (tag w.tags r) (w, v, refl)

-- the bytes of loads and stores are the same
pub same_loads : (w k : Types) (i : Insn) → SameReads w k i
    → bytes_of w.tags (load_access i) ≡ bytes_of k.tags (load_access i)
same_loads w k (Ldx z d b off) s = ap (λ t. bytes_from (first_byte t off) (byte_count z)) (s b (inl refl))
same_loads w k (Ldsx z d b off) s = ap (λ t. bytes_from (first_byte t off) (signed_byte_count z)) (s b (inl refl))
same_loads w k _ s = refl

same_stored : (w k : Types) (i : Insn) → SameReads w k i → bytes_of w.tags (store_access i) ≡ bytes_of k.tags (store_access i)
same_stored w k (Stx z b off q) s = ap (λ t. bytes_from (first_byte t off) (byte_count z)) (s b (inr (inl refl)))
same_stored w k (St z b off n) s = ap (λ t. bytes_from (first_byte t off) (byte_count z)) (s b (inl refl))
same_stored w k _ s = refl

pub same_stores : (w k : Types) (i : Insn) (byte : ℕ) → SameReads w k i → stores w.tags i byte ≡ stores k.tags i byte
same_stores w k i byte s = ap (list_any (nat_eq byte)) (same_stored w k i s)

-- ---- registers

pub number_below : (r : Reg) → number_of_reg r < 11
number_below r = grind arith

reg_injective : (r q : Reg) → number_of_reg r ≡ number_of_reg q → r ≡ q
reg_injective r q e = grind arith

pub same_or_not : (r q : Reg) → (r ≡ q) ⊎ (number_of_reg r ≢ number_of_reg q)
same_or_not r q = elim (cases_eq (number_of_reg r) (number_of_reg q)) [ inl e ↦ inl (reg_injective r q e) | inr n ↦ inr n ]

pub set_here : (ts : List Tag) (d r : Reg) (u : Tag) → length ts ≡ 11 → r ≡ d
    → tag (slice_set ts (number_of_reg d) u) r ≡ u
set_here ts d r u long e =
    let below : number_of_reg d < length ts = omega (arith, number_below d) in
    rw e (get_or-set_same ts (number_of_reg d) u Unset below)

pub set_there : (ts : List Tag) (d r : Reg) (u : Tag) → number_of_reg r ≢ number_of_reg d
    → tag (slice_set ts (number_of_reg d) u) r ≡ tag ts r
set_there ts d r u n = get_or-set_other ts (number_of_reg d) (number_of_reg r) u Unset n

pub length_new : (ts : List Tag) (o : Option Reg) (t : Tag) → length (new_tags ts o t) ≡ length ts
length_new ts None t = refl
length_new ts (Some d) t = length-set ts (number_of_reg d) t

moved_tells : (W : Types → Type 0) (d : Reg) (n : ℤ) (a : Tag) → is_unset_tag a ≡ false → is_mixed_tag a ≡ false
    → TellsTag a (Leaves W d) → TellsTag (moved_tag a n) (λ t. (w : Types) × W w × (moved_tag (tag w.tags d) n ≡ t))
moved_tells W d n Number e f h = ((h.0.0, h.0.1, ap (λ s. moved_tag s n) h.0.2), λ t x. sym x.2 ∙ ap (λ s. moved_tag s n) (h.1 (tag x.0.tags d) (x.0, x.1, refl)))
moved_tells W d n (Place o) e f h = ((h.0.0, h.0.1, ap (λ s. moved_tag s n) h.0.2), λ t x. sym x.2 ∙ ap (λ s. moved_tag s n) (h.1 (tag x.0.tags d) (x.0, x.1, refl)))
moved_tells W d n Unset e f h = absurd (cc)
moved_tells W d n Mixed e f h = absurd (cc)

-- the tag of what is written
written_tells : (i : Insn) (k : Types) (W : Types → Type 0) → Tells k W → IsSettled k i
    → TellsTag (written_tag k.tags i) (λ t. (w : Types) × W w × (written_tag w.tags i ≡ t))
written_tells (Alu W64 Add d (Imm n)) k W h s = moved_tells W d n (tag k.tags d) (none_in (λ q. is_unset_tag (tag k.tags q)) d (d ∷ []) s.set (inl refl)) (none_in (λ q. is_mixed_tag (tag k.tags q)) d (d ∷ []) s.one (inl refl)) (h.each d)
written_tells (Alu W64 Mov d (Register q)) k W h s = h.each q
written_tells _ k W h s = ((h.some.0, h.some.1, refl), λ t x. sym x.2)

-- the tag of a register, after a write of f's tag
new_tells : (o : Option Reg) (f : List Tag → Tag) (k : Types) (W : Types → Type 0) (r : Reg) → Tells k W
    → ((w : Types) → W w → length w.tags ≡ 11) → TellsTag (f k.tags) (λ t. (w : Types) × W w × (f w.tags ≡ t))
    → TellsTag (tag (new_tags k.tags o (f k.tags)) r) (λ t. (w : Types) × W w × (tag (new_tags w.tags o (f w.tags)) r ≡ t))
new_tells None f k W r h long u = h.each r
new_tells (Some d) f k W r h long u = elim (same_or_not r d) [
  | inl e ↦ subst (λ a. TellsTag a (λ t. (w : Types) × W w × (tag (new_tags w.tags (Some d) (f w.tags)) r ≡ t))) (sym (set_here k.tags d r (f k.tags) h.eleven e))
      (tag_same (λ t. (w : Types) × W w × (f w.tags ≡ t)) (λ t. (w : Types) × W w × (tag (new_tags w.tags (Some d) (f w.tags)) r ≡ t))
      (λ t x. (x.0, x.1, set_here x.0.tags d r (f x.0.tags) (long x.0 x.1) e ∙ x.2))
      (λ t x. (x.0, x.1, sym (set_here x.0.tags d r (f x.0.tags) (long x.0 x.1) e) ∙ x.2))
      (f k.tags) u)
  | inr n ↦ subst (λ a. TellsTag a (λ t. (w : Types) × W w × (tag (new_tags w.tags (Some d) (f w.tags)) r ≡ t))) (sym (set_there k.tags d r (f k.tags) n))
      (tag_same (Leaves W r) (λ t. (w : Types) × W w × (tag (new_tags w.tags (Some d) (f w.tags)) r ≡ t))
      (λ t x. (x.0, x.1, set_there x.0.tags d r (f x.0.tags) n ∙ x.2))
      (λ t x. (x.0, x.1, sym (set_there x.0.tags d r (f x.0.tags) n) ∙ x.2))
      (tag k.tags r) (h.each r))
]

or_true : (b : Bool) → (b || true) ≡ true
or_true true = refl
or_true false = refl

or_none : (b : Bool) → (b || false) ≡ b
or_none true = refl
or_none false = refl

-- the mark of a byte, after a store that all ways make alike
byte_tells : (k : Types) (W : Types → Type 0) (g : Types → Bool) (byte : ℕ) (b : Bool) → Tells k W
    → ((w : Types) → W w → g w ≡ b)
    → TellsByte (k.stored byte || b) (λ t. (w : Types) × W w × ((w.stored byte || g w) ≡ t))
byte_tells k W g byte true h e =
    subst (λ a. TellsByte a (λ t. (w : Types) × W w × ((w.stored byte || g w) ≡ t))) (sym (or_true (k.stored byte)))
    ((h.some.0, h.some.1, ap (λ b. h.some.0.stored byte || b) (e h.some.0 h.some.1) ∙ or_true (h.some.0.stored byte)), λ t x. sym x.2 ∙ ap (λ b. x.0.stored byte || b) (e x.0 x.1) ∙ or_true (x.0.stored byte))
byte_tells k W g byte false h e =
    subst (λ a. TellsByte a (λ t. (w : Types) × W w × ((w.stored byte || g w) ≡ t))) (sym (or_none (k.stored byte)))
    (byte_same (Marks W byte) (λ t. (w : Types) × W w × ((w.stored byte || g w) ≡ t))
    (λ t x. (x.0, x.1, ap (λ b. x.0.stored byte || b) (e x.0 x.1) ∙ or_none (x.0.stored byte) ∙ x.2))
    (λ t x. (x.0, x.1, sym (ap (λ b. x.0.stored byte || b) (e x.0 x.1) ∙ or_none (x.0.stored byte)) ∙ x.2))
    (k.stored byte) (h.bytes byte))

-- the ways, one instruction on
abbrev pub After : Insn → (Types → Type 0) → Types → Type 0
After i W k = (old : Types) × W old × (k ≡ after old i)

pub after_all : (i : Insn) (k new : Types) (W : Types → Type 0) → Tells k W → ((w : Types) → W w → length w.tags ≡ 11)
    → IsSettled k i → IsAfter k i new → Tells new (After i W)
after_all i k new W h long s e = record {
  eleven = ap length e.tags ∙ length_new k.tags (written_reg i) (written_tag k.tags i) ∙ h.eleven;
  some = (after h.some.0 i, (h.some.0, h.some.1, refl));
  each = λ r. subst (λ ts. TellsTag (tag ts r) (Leaves (After i W) r)) (sym e.tags)
      (tag_same (λ t. (w : Types) × W w × (tag (new_tags w.tags (written_reg i) (written_tag w.tags i)) r ≡ t)) (Leaves (After i W) r)
      (λ t x. (after x.0 i, (x.0, x.1, refl), x.2))
      (λ t x. (x.1.0, x.1.1, ap (λ y. tag y.tags r) (sym x.1.2) ∙ x.2))
      (tag (new_tags k.tags (written_reg i) (written_tag k.tags i)) r)
      (new_tells (written_reg i) (λ ts. written_tag ts i) k W r h long (written_tells i k W h s)));
  bytes = λ byte. subst (λ a. TellsByte a (Marks (After i W) byte)) (sym (e.bytes byte))
      (byte_same (λ t. (w : Types) × W w × ((w.stored byte || stores w.tags i byte) ≡ t)) (Marks (After i W) byte)
      (λ t x. (after x.0 i, (x.0, x.1, refl), x.2))
      (λ t x. (x.1.0, x.1.1, ap (λ y. y.stored byte) (sym x.1.2) ∙ x.2))
      (k.stored byte || stores k.tags i byte)
      (byte_tells k W (λ w. stores w.tags i byte) byte (stores k.tags i byte) h (λ w v. same_stores w k i byte (same_reads W k w i s h v))));
}
