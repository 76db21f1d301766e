-- An exact table makes a program without slot faults an accepted operator.
use Rattle.std.proofs.Common.{◌≡◌, ◌≢◌, ◌≤◌, ℕ, arith, Bool, true, false, List, [], ◌∷◌, length, sym}
use Rattle.std.proofs.Common.{◌∙◌, ap, refl, subst}
use Rattle.std.specs.Prelude.{Option, Some, None, pos}
use Rattle.bpf_insn.specs.declared.insn.Insn.{Insn}
use Rattle.bpf_insn.specs.declared.operands.Kind.{Kind}
use Rattle.bpf_insn.specs.declared.rule.CodeRule.TheVariants.{UnsetRead, MixedRead}
use Rattle.bpf_insn.specs.declared.content.Content.{Content}
use Rattle.bpf_insn.specs.declared.frame.Frame.{Frame}
use Rattle.bpf_insn.specs.Program.{insn_at, slot_count, IsProgram}
use Rattle.bpf_insn.specs.Reads.{is_unset, content}
use Rattle.bpf_insn.specs.Machine.{begins}
use Rattle.bpf_insn.proofs.Slots.{begins_first}
use Rattle.bpf_verify.specs.declared.tag.Tag.{Tag}
use Rattle.bpf_verify.specs.declared.tag.Tag.TheVariants.{Unset, Number, Place, Mixed}
use Rattle.bpf_verify.specs.declared.facts.Facts.{Facts}
use Rattle.bpf_verify.specs.Tags.{Types, tag, after}
use Rattle.bpf_verify.specs.Table.{known_at}
use Rattle.bpf_verify.specs.Slots.{HasNoSlotFault}
use Rattle.bpf_verify.specs.Paths.{IsIn, targets, IsPath, IsKnown, IsWay, TellsTag, TellsByte, Tells}
use Rattle.bpf_verify.specs.Holds.{Agrees, HoldsOf, IsCovered}
use Rattle.bpf_verify.specs.declared.error.VerifyError.{VerifyError}
use Rattle.bpf_verify.specs.declared.error.VerifyError.TheVariants as errors
use Rattle.bpf_verify.specs.Accepted.{IsAccepted, IsTyping, OfPaths, ExplainsRefusal, entry_tags}
use Rattle.bpf_verify.specs.inner.Pass.{IsClean, TellsSlot, IsExact, ExplainsTyping}
use Rattle.bpf_verify.proofs.SlotPass.{clean_of}
use Rattle.bpf_verify.proofs.Telling.{Leaves, Marks}
use Rattle.bpf_verify.proofs.Showing.{breaks_none}
use Rattle.bpf_verify.proofs.Stepping.{target_of, eleven_on}
use Rattle.bpf_verify.proofs.After.{After, after_all}
use Rattle.bpf_verify.proofs.Sound.{NeverBreaks, way_of, tags_long, begins_some, steps_unbroken, sound, along_all}

-- ---- typing

-- each path has something known along it
known_along : (insns : List Insn) (entry : List Tag) (path : List ℕ) (slot : ℕ) → NeverBreaks insns entry
    → IsPath insns path slot → (k : Types) × IsKnown insns entry path k
known_along insns entry [] slot never h = (record { tags = entry; stored = λ byte. false }, refl)
known_along insns entry (from ∷ path) slot never (h, m) =
    let w = known_along insns entry path from never h in
    (after w.0 m.insn, (w.0, w.1, record { insn = m.insn; here = m.here; unbroken = never from m.insn w.0 m.here (record { path = path; leads = h; known = w.1 }); same = refl }))

leads_to_insn : (insns : List Insn) (path : List ℕ) (slot : ℕ) → IsClean insns → 1 ≤ slot_count insns
    → IsPath insns path slot → begins insns slot ≡ true
leads_to_insn insns [] slot clean some h = ap (begins insns) h ∙ begins_first insns some
leads_to_insn insns (from ∷ path) slot clean some h = (target_of insns from slot clean h.1).1

typing_is : (insns : List Insn) (entry : List Tag) (slot : ℕ) (o : Option Types) → IsClean insns → 1 ≤ slot_count insns
    → NeverBreaks insns entry → TellsSlot o (IsWay insns entry slot) → IsTyping insns entry slot o
typing_is insns entry slot None clean some never h =
    λ path l. let w = known_along insns entry path slot never l in h w.0 (record { path = path; leads = l; known = w.1 })
typing_is insns entry slot (Some k) clean some never h = (h, leads_to_insn insns h.some.1.path slot clean some h.some.1.leads)

-- ---- what is known of all ways holds where what is known of one does

set_of : (t : Tag) (c : Content) → Agrees t c → t ≢ Unset → is_unset c ≡ false
set_of t c a n = grind arith

tells_agrees : (a t : Tag) (P : Tag → Type 0) (c : Content) → TellsTag a P → P t → Agrees t c → Agrees a c
tells_agrees Unset t P c h p g = tt
tells_agrees Number t P c h p g = subst (λ u. Agrees u c) (h.1 t p) g
tells_agrees (Place o) t P c h p g = subst (λ u. Agrees u c) (h.1 t p) g
tells_agrees Mixed t P c h p g = set_of t c g (λ e. h.0 (subst P e p))

byte_holds : (b : Bool) (W : Types → Type 0) (byte : ℕ) (w : Types) → TellsByte b (Marks W byte) → W w → b ≡ true
    → w.stored byte ≡ true
byte_holds true W byte w h v e = h.1 (w.stored byte) (w, v, refl)
byte_holds false W byte w h v e = absurd (cc)

holds_of_all : (W : Types → Type 0) (k w : Types) (f : Frame) → Tells k W → W w → HoldsOf w f → HoldsOf k f
holds_of_all W k w f h v a = record {
  registers = λ r. tells_agrees (tag k.tags r) (tag w.tags r) (Leaves W r) (content f.registers r) (h.each r) (w, v, refl) (a.registers r);
  bytes = λ byte s. a.bytes byte (byte_holds (k.stored byte) W byte w (h.bytes byte) v s);
  eleven = a.eleven;
  whole = a.whole;
}

holds_at : (W : Types → Type 0) (w : Types) (f : Frame) (o : Option Types) → TellsSlot o W → W w → HoldsOf w f
    → (k : Types) × (o ≡ Some k) × HoldsOf k f
holds_at W w f None h v a = absurd (h w v)
holds_at W w f (Some k) h v a = (k, refl, holds_of_all W k w f h v a)

-- ---- what is known after an instruction is covered where it may lead

covered_tag : (a b : Tag) (P Q : Tag → Type 0) → TellsTag a P → TellsTag b Q → ((t : Tag) → P t → Q t) → (c : Content)
    → Agrees a c → Agrees b c
covered_tag a Unset P Q h l f c g = tt
covered_tag Unset Number P Q h l f c g = let e = l.1 Unset (f Unset h) in absurd (cc)
covered_tag Unset (Place o) P Q h l f c g = let e = l.1 Unset (f Unset h) in absurd (cc)
covered_tag Unset Mixed P Q h l f c g = absurd (l.0 (f Unset h))
covered_tag Number Number P Q h l f c g = g
covered_tag Number (Place o) P Q h l f c g = let e = l.1 Number (f Number h.0) in absurd (cc)
covered_tag Number Mixed P Q h l f c g = set_of Number c g (λ e. cc)
covered_tag (Place o) Number P Q h l f c g = let e = l.1 (Place o) (f (Place o) h.0) in absurd (cc)
covered_tag (Place o) (Place p) P Q h l f c g = subst (λ t. Agrees t c) (l.1 (Place o) (f (Place o) h.0)) g
covered_tag (Place o) Mixed P Q h l f c g = set_of (Place o) c g (λ e. cc)
covered_tag Mixed Number P Q h l f c g = absurd (h.5 (l.1 h.1 (f h.1 h.3) ∙ sym (l.1 h.2 (f h.2 h.4))))
covered_tag Mixed (Place o) P Q h l f c g = absurd (h.5 (l.1 h.1 (f h.1 h.3) ∙ sym (l.1 h.2 (f h.2 h.4))))
covered_tag Mixed Mixed P Q h l f c g = g

covered_byte : (a b : Bool) (P Q : Bool → Type 0) → TellsByte a P → TellsByte b Q → ((t : Bool) → P t → Q t)
    → b ≡ true → a ≡ true
covered_byte true b P Q h l f e = refl
covered_byte false true P Q h l f e = l.1 false (f false h)
covered_byte false false P Q h l f e = e

covered : (W V : Types → Type 0) (k there : Types) → Tells k W → Tells there V → ((w : Types) → W w → V w)
    → IsCovered k there
covered W V k there h l f = record {
  tags = λ r c g. covered_tag (tag k.tags r) (tag there.tags r) (Leaves W r) (Leaves V r) (h.each r) (l.each r) (λ t x. (x.0, f x.0 x.1, x.2)) c g;
  bytes = λ byte e. covered_byte (k.stored byte) (there.stored byte) (Marks W byte) (Marks V byte) (h.bytes byte) (l.bytes byte) (λ t x. (x.0, f x.0 x.1, x.2)) e;
}

-- a way, one instruction on
way_on : (insns : List Insn) (entry : List Tag) (slot to : ℕ) (i : Insn) → NeverBreaks insns entry
    → insn_at insns slot ≡ Some i → IsIn (pos to) (targets slot i) → (w : Types) → After i (IsWay insns entry slot) w
    → IsWay insns entry to w
way_on insns entry slot to i never at target w (old, y, same) = record {
  path = slot ∷ y.path;
  leads = (y.leads, record { insn = i; here = at; target = target });
  known = (old, y.known, record { insn = i; here = at; unbroken = never slot i old at y; same = same });
}

covered_at : (W V : Types → Type 0) (k : Types) (o : Option Types) → Tells k W → TellsSlot o V
    → ((w : Types) → W w → V w) → (there : Types) × (o ≡ Some there) × IsCovered k there
covered_at W V k None h l f = absurd (l h.some.0 (f h.some.0 h.some.1))
covered_at W V k (Some there) h l f = (there, refl, covered W V k there h l f)

-- ---- accepted

long_ways : (insns : List Insn) (kind : Kind) (slot : ℕ) (w : Types) → IsWay insns (entry_tags kind) slot w
    → length w.tags ≡ 11
long_ways insns kind slot w y = eleven_on insns (entry_tags kind) y.path w (tags_long kind) y.known

told_at : (insns : List Insn) (entry : List Tag) (table : List (Option Facts)) (slot : ℕ) (k : Types)
    → IsExact insns entry table → known_at table slot ≡ Some k → Tells k (IsWay insns entry slot)
told_at insns entry table slot k x e = subst (λ o. TellsSlot o (IsWay insns entry slot)) e (x.tells slot)

pub accepted : (kind : Kind) (insns : List Insn) (table : List (Option Facts)) → IsProgram insns → HasNoSlotFault insns
    → IsExact insns (entry_tags kind) table → IsAccepted (record { kind = kind; insns = insns; table = table })
accepted kind insns table program no_fault x =
    let clean = clean_of insns no_fault in
    record {
      program = program;
      acceptable = record { clean = no_fault; nothing = x.nothing };
      typed = λ slot. typing_is insns (entry_tags kind) slot (known_at table slot) clean program.some x.unbroken (x.tells slot);
      allows = λ slot i k at e. breaks_none insns (entry_tags kind) slot i at k (told_at insns (entry_tags kind) table slot k x e) (x.nothing slot);
      covers = λ slot to i k at e target.
          let W = IsWay insns (entry_tags kind) slot in
          let h = told_at insns (entry_tags kind) table slot k x e in
          let b = breaks_none insns (entry_tags kind) slot i at k h (x.nothing slot) in
          let told = after_all i k (after k i) W h (λ w y. long_ways insns kind slot w y) (record { set = b UnsetRead; one = b MixedRead }) (record { tags = refl; bytes = λ byte. refl }) in
          covered_at (After i W) (IsWay insns (entry_tags kind) to) (after k i) (known_at table to) told (x.tells to) (way_on insns (entry_tags kind) slot to i x.unbroken at target);
      unbroken = λ operands n f e l.
          let a = along_all kind insns clean x.unbroken operands n f e l in
          let i = begins_some (insn_at insns f.slot) (leads_to_insn insns a.path f.slot clean program.some a.leads) in
          (i.0, i.1, steps_unbroken insns (entry_tags kind) (tags_long kind) clean x.unbroken f i.0 i.1 a);
      holds = λ operands n f e l.
          let a = along_all kind insns clean x.unbroken operands n f e l in
          holds_at (IsWay insns (entry_tags kind) f.slot) a.k f (known_at table f.slot) (x.tells f.slot) (way_of insns (entry_tags kind) f a) a.holds;
      sound = sound kind insns program.some clean x.unbroken;
    }

-- ---- refused

pub explained : (kind : Kind) (insns : List Insn) (error : VerifyError) → HasNoSlotFault insns
    → ExplainsTyping insns (entry_tags kind) error → ExplainsRefusal kind insns error
explained kind insns (errors.Fault fault) clean e = OfPaths clean e
explained kind insns errors.Memory clean e = clean
