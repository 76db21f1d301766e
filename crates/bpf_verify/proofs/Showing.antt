-- What is known of all ways to a slot, and what they show there.
use Rattle.std.proofs.Common.{◌≡◌, ◌<◌, ◌≤◌, ℕ, arith, Bool, true, false, not, List, sym, ◌∙◌, ap, refl}
use Rattle.std.proofs.Common.{subst, inl, inr}
use Rattle.std.specs.Prelude.{Option, Some}
use Rattle.std.specs.List.{list_any}
use Rattle.bpf_insn.specs.declared.insn.Width.TheVariants.{W64}
use Rattle.bpf_insn.specs.declared.insn.AluOp.TheVariants.{Add}
use Rattle.bpf_insn.specs.declared.insn.Operand.TheVariants.{Imm}
use Rattle.bpf_insn.specs.declared.insn.Insn.{Insn}
use Rattle.bpf_insn.specs.declared.insn.Insn.TheVariants.{Alu, Ldx, Ldsx, Stx, St}
use Rattle.bpf_insn.specs.declared.rule.CodeRule.{CodeRule}
use Rattle.bpf_insn.specs.declared.rule.CodeRule.TheVariants.{UnsetRead, MixedRead, NumberWanted, PlaceWanted, OutsideStack}
use Rattle.bpf_insn.specs.declared.rule.CodeRule.TheVariants.{UnstoredRead}
use Rattle.bpf_insn.specs.Rule.{rule_number, IsLowest}
use Rattle.bpf_insn.specs.Program.{insn_at}
use Rattle.bpf_insn.specs.Reads.{all_reads, number_reads, place_reads, byte_count, signed_byte_count, load_access}
use Rattle.bpf_verify.specs.declared.tag.Tag.{Tag}
use Rattle.bpf_verify.specs.declared.tag.Tag.TheVariants.{Unset, Number, Place, Mixed}
use Rattle.bpf_verify.specs.Tags.{Types, tag, is_unset_tag, is_mixed_tag, is_number_tag, is_place_tag, reaches_outside}
use Rattle.bpf_verify.specs.Tags.{leaves_stack, bytes_of, breaks, BreaksNone}
use Rattle.bpf_verify.specs.Paths.{IsIn, TellsTag, TellsByte, Tells, IsWay, ShowsOne, ShowsTwo, IsShown}
use Rattle.bpf_verify.proofs.Telling.{Leaves, Marks}
use Rattle.bpf_verify.proofs.After.{any_in, in_any, none_in, any_alike, number_read, place_read, SameReads, IsSettled, same_reads}
use Rattle.bpf_verify.proofs.After.{same_loads}

stack_same : (w k : Types) (i : Insn) → SameReads w k i → leaves_stack w.tags i ≡ leaves_stack k.tags i
stack_same w k (Alu W64 Add d (Imm n)) s = ap (λ t. reaches_outside t n 0) (s d (inl refl))
stack_same w k (Ldx z d b off) s = ap (λ t. reaches_outside t off (byte_count z)) (s b (inl refl))
stack_same w k (Ldsx z d b off) s = ap (λ t. reaches_outside t off (signed_byte_count z)) (s b (inl refl))
stack_same w k (Stx z b off q) s = ap (λ t. reaches_outside t off (byte_count z)) (s b (inr (inl refl)))
stack_same w k (St z b off n) s = ap (λ t. reaches_outside t off (byte_count z)) (s b (inl refl))
stack_same w k _ s = refl

-- the rules that speak of tags alone
abbrev is_of_tags : CodeRule → Bool
is_of_tags UnstoredRead = false
is_of_tags _ = true

alike : (rule : CodeRule) (w k : Types) (i : Insn) → is_of_tags rule ≡ true → SameReads w k i
    → breaks w i rule ≡ breaks k i rule
alike UnsetRead w k i o s = any_alike (λ r. is_unset_tag (tag w.tags r)) (λ r. is_unset_tag (tag k.tags r)) (all_reads i) (λ r h. ap is_unset_tag (s r h))
alike MixedRead w k i o s = any_alike (λ r. is_mixed_tag (tag w.tags r)) (λ r. is_mixed_tag (tag k.tags r)) (all_reads i) (λ r h. ap is_mixed_tag (s r h))
alike NumberWanted w k i o s = any_alike (λ r. is_place_tag (tag w.tags r)) (λ r. is_place_tag (tag k.tags r)) (number_reads i) (λ r h. ap is_place_tag (s r (number_read r i h)))
alike PlaceWanted w k i o s = any_alike (λ r. is_number_tag (tag w.tags r)) (λ r. is_number_tag (tag k.tags r)) (place_reads i) (λ r h. ap is_number_tag (s r (place_read r i h)))
alike OutsideStack w k i o s = stack_same w k i s
alike UnstoredRead w k i o s = absurd (cc)
alike _ w k i o s = refl

-- ---- bytes

byte_told : (W : Types → Type 0) (b : Bool) (byte : ℕ) → TellsByte b (Marks W byte) → b ≡ true → (w : Types) → W w
    → w.stored byte ≡ true
byte_told W true byte h e w v = h.1 (w.stored byte) (w, v, refl)
byte_told W false byte h e w v = absurd (cc)

not_false : (b : Bool) → not b ≡ false → b ≡ true
not_false true e = refl
not_false false e = absurd (cc)

not_true : (b : Bool) → not b ≡ true → b ≡ false
not_true true e = absurd (cc)
not_true false e = refl

-- what all ways have stored, each has
each_stored : (W : Types → Type 0) (k w : Types) (bytes : List ℕ) → Tells k W → W w
    → list_any (λ b. not (k.stored b)) bytes ≡ false → list_any (λ b. not (w.stored b)) bytes ≡ false
each_stored W k w bytes h v e = any_alike (λ b. not (w.stored b)) (λ b. not (k.stored b)) bytes (λ b here. let m : k.stored b ≡ true = not_false (k.stored b) (none_in (λ c. not (k.stored c)) b bytes e here) in ap not (byte_told W (k.stored b) b (h.bytes b) m w v ∙ sym m)) ∙ e

unstored_way : (W : Types → Type 0) (b : Bool) (byte : ℕ) → TellsByte b (Marks W byte) → b ≡ false → Marks W byte false
unstored_way W true byte h e = absurd (cc)
unstored_way W false byte h e = h

-- ---- one way

pub unbroken_way : (W : Types → Type 0) (k w : Types) (i : Insn) → Tells k W → W w → BreaksNone k i → BreaksNone w i
unbroken_way W k w i h v e = λ rule. step rule where
  same : SameReads w k i
  same = same_reads W k w i (record { set = e UnsetRead; one = e MixedRead }) h v

  step : (rule : CodeRule) → breaks w i rule ≡ false
  step UnstoredRead = ap (list_any (λ b. not (w.stored b))) (same_loads w k i same) ∙ each_stored W k w (bytes_of k.tags (load_access i)) h v (e UnstoredRead)
  step UnsetRead = alike UnsetRead w k i refl same ∙ e UnsetRead
  step MixedRead = alike MixedRead w k i refl same ∙ e MixedRead
  step NumberWanted = alike NumberWanted w k i refl same ∙ e NumberWanted
  step PlaceWanted = alike PlaceWanted w k i refl same ∙ e PlaceWanted
  step OutsideStack = alike OutsideStack w k i refl same ∙ e OutsideStack
  step _ = refl

-- ---- what is shown

same_insn : (o : Option Insn) (i j : Insn) → o ≡ Some i → o ≡ Some j → i ≡ j
same_insn o i j e f = cc

is_unset_means : (t : Tag) → is_unset_tag t ≡ true → t ≡ Unset
is_unset_means t e = grind arith

is_mixed_means : (t : Tag) → is_mixed_tag t ≡ true → t ≡ Mixed
is_mixed_means t e = grind arith

tells_unset : (a : Tag) (P : Tag → Type 0) → TellsTag a P → P Unset → is_unset_tag a ≡ true
tells_unset Unset P h p = refl
tells_unset Number P h p = let e = h.1 Unset p in absurd (cc)
tells_unset (Place o) P h p = let e = h.1 Unset p in absurd (cc)
tells_unset Mixed P h p = absurd (h.0 p)

not_both : (b : Bool) → b ≡ true → b ≡ false → ⊥
not_both b e f = cc

false_unless : (b : Bool) → (b ≡ true → ⊥) → b ≡ false
false_unless true f = absurd (f refl)
false_unless false f = refl

module _ (insns : List Insn) (entry : List Tag) (slot : ℕ) (i : Insn) (at : insn_at insns slot ≡ Some i) (k : Types) (h : Tells k (IsWay insns entry slot)) where
  no_unset : breaks k i UnsetRead ≡ false → ShowsOne insns entry slot UnsetRead → ⊥
  no_unset e s =
      let same : s.insn ≡ i = same_insn (insn_at insns slot) s.insn i s.here at in
      let x = any_in (λ r. is_unset_tag (tag s.way.tags r)) (all_reads s.insn) s.broken in
      let here : IsIn x.0 (all_reads i) = subst (λ j. IsIn x.0 (all_reads j)) same x.1 in
      not_both (is_unset_tag (tag k.tags x.0))
      (tells_unset (tag k.tags x.0) (Leaves (IsWay insns entry slot) x.0) (h.each x.0) (s.way, s.is_way, is_unset_means (tag s.way.tags x.0) x.2))
      (none_in (λ q. is_unset_tag (tag k.tags q)) x.0 (all_reads i) e here)

  no_two : IsSettled k i → ShowsTwo insns entry slot → ⊥
  no_two e s =
      let same : s.insn ≡ i = same_insn (insn_at insns slot) s.insn i s.here at in
      let here : IsIn s.reg (all_reads i) = subst (λ j. IsIn s.reg (all_reads j)) same s.read in
      s.differ (same_reads (IsWay insns entry slot) k s.left i e h s.left_way s.reg here ∙ sym (same_reads (IsWay insns entry slot) k s.right i e h s.right_way s.reg here))

  no_one : (rule : CodeRule) → is_of_tags rule ≡ true → IsSettled k i → breaks k i rule ≡ false → ShowsOne insns entry slot rule → ⊥
  no_one rule o e f s =
      let same : s.insn ≡ i = same_insn (insn_at insns slot) s.insn i s.here at in
      not_both (breaks k i rule) (sym (alike rule s.way k i o (same_reads (IsWay insns entry slot) k s.way i e h s.is_way)) ∙ ap (λ j. breaks s.way j rule) (sym same) ∙ s.broken) f

  no_unstored : IsSettled k i → breaks k i UnstoredRead ≡ false → ShowsOne insns entry slot UnstoredRead → ⊥
  no_unstored e f s =
      let same : s.insn ≡ i = same_insn (insn_at insns slot) s.insn i s.here at in
      let alike_there = same_loads s.way k i (same_reads (IsWay insns entry slot) k s.way i e h s.is_way) in
      not_both (breaks s.way i UnstoredRead)
      (ap (λ j. breaks s.way j UnstoredRead) (sym same) ∙ s.broken)
      (ap (list_any (λ b. not (s.way.stored b))) alike_there ∙ each_stored (IsWay insns entry slot) k s.way (bytes_of k.tags (load_access i)) h s.is_way f)

  -- a rule is not shown where it and all lower ones are not broken by what is known
  pub not_shown : (rule : CodeRule) → ((q : CodeRule) → rule_number q ≤ rule_number rule → breaks k i q ≡ false) → IsShown insns entry slot rule → ⊥
  not_shown UnsetRead f s = no_unset (f UnsetRead (omega arith)) s
  not_shown MixedRead f s = no_two (record { set = f UnsetRead (omega arith); one = f MixedRead (omega arith) }) s
  not_shown NumberWanted f s = no_one NumberWanted refl (record { set = f UnsetRead (omega arith); one = f MixedRead (omega arith) }) (f NumberWanted (omega arith)) s
  not_shown PlaceWanted f s = no_one PlaceWanted refl (record { set = f UnsetRead (omega arith); one = f MixedRead (omega arith) }) (f PlaceWanted (omega arith)) s
  not_shown OutsideStack f s = no_one OutsideStack refl (record { set = f UnsetRead (omega arith); one = f MixedRead (omega arith) }) (f OutsideStack (omega arith)) s
  not_shown UnstoredRead f s = no_unstored (record { set = f UnsetRead (omega arith); one = f MixedRead (omega arith) }) (f UnstoredRead (omega arith)) s
  not_shown _ f s = let b = s.broken in cc

  shows_unset : breaks k i UnsetRead ≡ true → ShowsOne insns entry slot UnsetRead
  shows_unset e =
      let x = any_in (λ r. is_unset_tag (tag k.tags r)) (all_reads i) e in
      let p : Leaves (IsWay insns entry slot) x.0 Unset = subst (λ a. TellsTag a (Leaves (IsWay insns entry slot) x.0)) (is_unset_means (tag k.tags x.0) x.2) (h.each x.0) in
      record { insn = i; here = at; way = p.0; is_way = p.1; broken = in_any (λ r. is_unset_tag (tag p.0.tags r)) x.0 (all_reads i) x.1 (ap is_unset_tag p.2) }

  shows_two : breaks k i MixedRead ≡ true → ShowsTwo insns entry slot
  shows_two e =
      let x = any_in (λ r. is_mixed_tag (tag k.tags r)) (all_reads i) e in
      let p : TellsTag Mixed (Leaves (IsWay insns entry slot) x.0) = subst (λ a. TellsTag a (Leaves (IsWay insns entry slot) x.0)) (is_mixed_means (tag k.tags x.0) x.2) (h.each x.0) in
      record {
        insn = i;
        here = at;
        reg = x.0;
        read = x.1;
        left = p.3.0;
        right = p.4.0;
        left_way = p.3.1;
        right_way = p.4.1;
        left_set = λ u. p.0 (p.3.0, p.3.1, u);
        right_set = λ u. p.0 (p.4.0, p.4.1, u);
        differ = λ u. p.5 (sym p.3.2 ∙ u ∙ p.4.2);
      }

  shows_one : (rule : CodeRule) → is_of_tags rule ≡ true → IsSettled k i → breaks k i rule ≡ true → ShowsOne insns entry slot rule
  shows_one rule o e f = record { insn = i; here = at; way = h.some.0; is_way = h.some.1; broken = alike rule h.some.0 k i o (same_reads (IsWay insns entry slot) k h.some.0 i e h h.some.1) ∙ f }

  shows_unstored : IsSettled k i → breaks k i UnstoredRead ≡ true → ShowsOne insns entry slot UnstoredRead
  shows_unstored e f =
      let x = any_in (λ b. not (k.stored b)) (bytes_of k.tags (load_access i)) f in
      let p = unstored_way (IsWay insns entry slot) (k.stored x.0) x.0 (h.bytes x.0) (not_true (k.stored x.0) x.2) in
      let same = same_loads p.0 k i (same_reads (IsWay insns entry slot) k p.0 i e h p.1) in
      record { insn = i; here = at; way = p.0; is_way = p.1; broken = ap (list_any (λ b. not (p.0.stored b))) same ∙ in_any (λ b. not (p.0.stored b)) x.0 (bytes_of k.tags (load_access i)) x.1 (ap not p.2) }

  -- the lowest rule that is broken by what is known is shown
  shown : (rule : CodeRule) → breaks k i rule ≡ true → ((q : CodeRule) → rule_number q < rule_number rule → breaks k i q ≡ false) → IsShown insns entry slot rule
  shown UnsetRead e f = shows_unset e
  shown MixedRead e f = shows_two e
  shown NumberWanted e f = shows_one NumberWanted refl (record { set = f UnsetRead (omega arith); one = f MixedRead (omega arith) }) e
  shown PlaceWanted e f = shows_one PlaceWanted refl (record { set = f UnsetRead (omega arith); one = f MixedRead (omega arith) }) e
  shown OutsideStack e f = shows_one OutsideStack refl (record { set = f UnsetRead (omega arith); one = f MixedRead (omega arith) }) e
  shown UnstoredRead e f = shows_unstored (record { set = f UnsetRead (omega arith); one = f MixedRead (omega arith) }) e
  shown _ e f = absurd (cc)

  pub lowest : (rule : CodeRule) → IsLowest (λ q. breaks k i q ≡ true) rule → IsLowest (IsShown insns entry slot) rule
  lowest rule l =
      let below : (q : CodeRule) → rule_number q < rule_number rule → breaks k i q ≡ false = λ q less. false_unless (breaks k i q) (l.lowest q less) in
      record {
        broken = shown rule l.broken below;
        lowest = λ q less. not_shown q (λ p most. below p (omega (arith, less, most)));
      }

  pub nothing_at : BreaksNone k i → (rule : CodeRule) → IsShown insns entry slot rule → ⊥
  nothing_at e rule = not_shown rule (λ q l. e q)

  -- where nothing is shown, what is known breaks no rule
  pub breaks_none : ((rule : CodeRule) → IsShown insns entry slot rule → ⊥) → BreaksNone k i
  breaks_none none = λ rule. step rule where
    settled : IsSettled k i
    settled = record { set = false_unless (breaks k i UnsetRead) (λ b. none UnsetRead (shows_unset b)); one = false_unless (breaks k i MixedRead) (λ b. none MixedRead (shows_two b)) }

    step : (rule : CodeRule) → breaks k i rule ≡ false
    step UnsetRead = settled.set
    step MixedRead = settled.one
    step NumberWanted = false_unless (breaks k i NumberWanted) (λ b. none NumberWanted (shows_one NumberWanted refl settled b))
    step PlaceWanted = false_unless (breaks k i PlaceWanted) (λ b. none PlaceWanted (shows_one PlaceWanted refl settled b))
    step OutsideStack = false_unless (breaks k i OutsideStack) (λ b. none OutsideStack (shows_one OutsideStack refl settled b))
    step UnstoredRead = false_unless (breaks k i UnstoredRead) (λ b. none UnstoredRead (shows_unstored settled b))
    step _ = refl
