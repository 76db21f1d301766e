-- The table that tells of the ways from below a slot, one slot more.
use Rattle.std.proofs.Common.{◌≡◌, ◌≢◌, ◌<◌, ◌+◌, ℕ, arith, Bool, true, false, List, [], ◌∷◌, length}
use Rattle.std.proofs.Common.{sym, ◌∙◌, ap, refl, subst, ◌⊎◌, inl, inr}
use Rattle.std.specs.Prelude.{Option, Some, None, ℤ, pos}
use Rattle.std.specs.List.{AllByRecursion}
use Rattle.std.proofs.lemmas.Bool.{cases_eq}
use Rattle.bpf_insn.specs.declared.reg.Reg.{Reg}
use Rattle.bpf_insn.specs.declared.insn.Width.TheVariants.{W64}
use Rattle.bpf_insn.specs.declared.insn.AluOp.TheVariants.{Add, Mov}
use Rattle.bpf_insn.specs.declared.insn.Operand.TheVariants.{Imm, Register}
use Rattle.bpf_insn.specs.declared.insn.Insn.{Insn}
use Rattle.bpf_insn.specs.declared.insn.Insn.TheVariants.{Alu}
use Rattle.bpf_insn.specs.declared.rule.CodeRule.{CodeRule}
use Rattle.bpf_insn.specs.declared.rule.CodeRule.TheVariants.{BadLength, UnknownOpcode, OutsideProfile, RegisterAboveTen}
use Rattle.bpf_insn.specs.declared.rule.CodeRule.TheVariants.{UnusedField, BrokenWideLoad, JumpsBack, JumpsNowhere, StackTopWritten}
use Rattle.bpf_insn.specs.declared.rule.CodeRule.TheVariants.{NoExitAtEnd, UnsetRead, MixedRead, NumberWanted, PlaceWanted}
use Rattle.bpf_insn.specs.declared.rule.CodeRule.TheVariants.{OutsideStack, UnstoredRead}
use Rattle.bpf_insn.specs.Rule.{IsLowest}
use Rattle.bpf_insn.specs.Program.{insn_at}
use Rattle.bpf_insn.specs.Reads.{written_reg, all_reads}
use Rattle.bpf_insn.specs.Machine.{begins}
use Rattle.bpf_verify.specs.declared.tag.Tag.{Tag}
use Rattle.bpf_verify.specs.declared.tag.Tag.TheVariants.{Unset, Number, Place, Mixed}
use Rattle.bpf_verify.specs.declared.facts.Facts.{Facts}
use Rattle.bpf_verify.specs.Tags.{Types, tag, is_mixed_tag, moved_tag, breaks, BreaksNone, new_tags, written_tag, after}
use Rattle.bpf_verify.specs.Paths.{IsIn, targets, MayLead, IsPath, IsKnown, IsWay, IsShown, NothingShown, TellsTag, TellsByte}
use Rattle.bpf_verify.specs.Paths.{Tells}
use Rattle.bpf_verify.specs.Table.{known_at}
use Rattle.bpf_verify.specs.inner.Pass.{IsGoodTarget}
use Rattle.bpf_verify.specs.inner.Pass.{
  IsAfter,
  AddsAll,
  IsClean,
  IsLastBelow,
  IsWayBelow,
  TellsSlot,
  IsExactBelow,
  IsExact,
  IsEntry,
}
use Rattle.bpf_verify.proofs.Telling.{Leaves, Marks, all_same, slot_same}
use Rattle.bpf_verify.proofs.After.{any_in, After, after_all, length_new, same_or_not, set_here, set_there}
use Rattle.bpf_verify.proofs.Adding.{adds_all}
use Rattle.bpf_verify.proofs.Showing.{unbroken_way, lowest, nothing_at}

in_all : (P : ℤ → Type 0) (x : ℤ) (xs : List ℤ) → AllByRecursion P xs → IsIn x xs → P x
in_all P x [] a h = absurd h
in_all P x (y ∷ ys) a (inl e) = subst P (sym e) a.0
in_all P x (y ∷ ys) a (inr h) = in_all P x ys a.1 h

same_place : (m n : ℕ) → pos m ≡ pos n → m ≡ n
same_place m n e = cc

pub same_insn : (o : Option Insn) (i j : Insn) → o ≡ Some i → o ≡ Some j → i ≡ j
same_insn o i j e f = cc

-- a target is above, and begins an instruction
pub target_of : (insns : List Insn) (from to : ℕ) → IsClean insns → MayLead insns from to
    → (from < to) × (begins insns to ≡ true)
target_of insns from to clean m =
    let g = in_all (IsGoodTarget insns from) (pos to) (targets from m.insn) (clean from m.insn m.here).targets_good m.target in
    let e : to ≡ g.destination = same_place to g.destination g.is_place in
    (omega (arith, g.above, e), ap (begins insns) e ∙ g.begin)

last_below : (insns : List Insn) (path : List ℕ) (slot : ℕ) → IsClean insns → IsPath insns path slot
    → IsLastBelow slot path
last_below insns [] slot clean h = tt
last_below insns (from ∷ path) slot clean h = (target_of insns from slot clean h.1).0

way_below : (insns : List Insn) (entry : List Tag) (slot : ℕ) (k : Types) → IsClean insns → IsWay insns entry slot k
    → IsWayBelow slot insns entry slot k
way_below insns entry slot k clean w =
    record { path = w.path; leads = w.leads; known = w.known; last = last_below insns w.path slot clean w.leads }

way_of : (n : ℕ) (insns : List Insn) (entry : List Tag) (slot : ℕ) (k : Types) → IsWayBelow n insns entry slot k
    → IsWay insns entry slot k
way_of n insns entry slot k w = record { path = w.path; leads = w.leads; known = w.known }

-- eleven tags along each path
pub eleven_on : (insns : List Insn) (entry : List Tag) (path : List ℕ) (k : Types) → length entry ≡ 11
    → IsKnown insns entry path k → length k.tags ≡ 11
eleven_on insns entry [] k long e = ap (λ w. length w.tags) e ∙ long
eleven_on insns entry (from ∷ path) k long (before, h, g) = ap (λ w. length w.tags) g.same ∙ length_new before.tags (written_reg g.insn) (written_tag before.tags g.insn) ∙ eleven_on insns entry path before long h

-- ---- no path leaves a register mixed

plain_moved : (a : Tag) (n : ℤ) → a ≢ Mixed → moved_tag a n ≢ Mixed
plain_moved Unset n f e = cc
plain_moved Number n f e = cc
plain_moved (Place o) n f e = cc
plain_moved Mixed n f e = f refl

plain_written : (ts : List Tag) (i : Insn) → ((r : Reg) → tag ts r ≢ Mixed) → written_tag ts i ≢ Mixed
plain_written ts (Alu W64 Add d (Imm n)) f = plain_moved (tag ts d) n (f d)
plain_written ts (Alu W64 Mov d (Register q)) f = f q
plain_written ts _ f = λ e. cc

plain_new : (ts : List Tag) (o : Option Reg) (t : Tag) → length ts ≡ 11 → ((r : Reg) → tag ts r ≢ Mixed) → t ≢ Mixed
    → (r : Reg) → tag (new_tags ts o t) r ≢ Mixed
plain_new ts None t long f n r = f r
plain_new ts (Some d) t long f n r = elim (same_or_not r d) [
  | inl e ↦ λ m. n (sym (set_here ts d r t long e) ∙ m)
  | inr d' ↦ λ m. f r (sym (set_there ts d r t d') ∙ m)
]

plain_on : (insns : List Insn) (entry : List Tag) (path : List ℕ) (k : Types) → IsEntry entry → IsKnown insns entry path k
    → (r : Reg) → tag k.tags r ≢ Mixed
plain_on insns entry [] k fit e r = λ m. fit.plain r (ap (λ w. tag w.tags r) (sym e) ∙ m)
plain_on insns entry (from ∷ path) k fit (before, h, g) r =
    let plain = λ (q : Reg). plain_on insns entry path before fit h q in
    λ m. plain_new before.tags (written_reg g.insn) (written_tag before.tags g.insn) (eleven_on insns entry path before fit.eleven h) plain (plain_written before.tags g.insn plain) r (ap (λ w. tag w.tags r) (sym g.same) ∙ m)

is_mixed_means : (t : Tag) → is_mixed_tag t ≡ true → t ≡ Mixed
is_mixed_means t e = grind arith

plain_reads : (k : Types) (i : Insn) → ((r : Reg) → tag k.tags r ≢ Mixed) → breaks k i MixedRead ≡ true → ⊥
plain_reads k i f b =
    let x = any_in (λ r. is_mixed_tag (tag k.tags r)) (all_reads i) b in f x.0 (is_mixed_means (tag k.tags x.0) x.2)

false_unless : (b : Bool) → (b ≡ true → ⊥) → b ≡ false
false_unless true f = absurd (f refl)
false_unless false f = refl

-- the instruction at a slot where something is shown
shown_at : (insns : List Insn) (entry : List Tag) (slot : ℕ) (rule : CodeRule) → IsShown insns entry slot rule
    → (i : Insn) × (insn_at insns slot ≡ Some i) × (k : Types) × IsWay insns entry slot k
shown_at insns entry slot MixedRead s = (s.insn, s.here, s.left, s.left_way)
shown_at insns entry slot _ s = (s.insn, s.here, s.way, s.is_way)

-- ---- paths from one slot more

module _ (n : ℕ) (insns : List Insn) (entry : List Tag) where
  more : (slot : ℕ) (k : Types) → IsWayBelow n insns entry slot k → IsWayBelow (n + 1) insns entry slot k
  more slot k w = record { path = w.path; leads = w.leads; known = w.known; last = step w.path w.last } where
    step : (p : List ℕ) → IsLastBelow n p → IsLastBelow (n + 1) p
    step [] h = tt
    step (from ∷ p) h = omega arith

  -- ways whose latest slot is n
  pub record IsThrough (slot : ℕ) (k : Types) : Type 0 where
    pub insn : Insn
    pub here : insn_at insns n ≡ Some insn
    pub old : Types
    pub way : IsWayBelow n insns entry n old
    pub target : IsIn (pos slot) (targets n insn)
    pub unbroken : BreaksNone old insn
    pub same : k ≡ after old insn

  through_last : (slot : ℕ) (k : Types) (path : List ℕ) → IsClean insns → IsPath insns (n ∷ path) slot → IsKnown insns entry (n ∷ path) k → IsThrough slot k
  through_last slot k path clean (h, m) (old, w, g) =
      let same : m.insn ≡ g.insn = same_insn (insn_at insns n) m.insn g.insn m.here g.here in
      record {
        insn = g.insn;
        here = g.here;
        old = old;
        way = record { path = path; leads = h; known = w; last = last_below insns path n clean h };
        target = subst (λ i. IsIn (pos slot) (targets n i)) same m.target;
        unbroken = g.unbroken;
        same = g.same;
      }

  split : (slot : ℕ) (k : Types) → IsClean insns → IsWayBelow (n + 1) insns entry slot k → IsWayBelow n insns entry slot k ⊎ IsThrough slot k
  split slot k clean w = step w.path w.leads w.known w.last where
    step : (p : List ℕ) → IsPath insns p slot → IsKnown insns entry p k → IsLastBelow (n + 1) p → IsWayBelow n insns entry slot k ⊎ IsThrough slot k
    step [] h e l = inl (record { path = []; leads = h; known = e; last = tt })
    step (from ∷ p) h e l = elim (cases_eq from n) [
      | inl s ↦ inr (through_last slot k p clean (subst (λ m. IsPath insns (m ∷ p) slot) s h) (subst (λ m. IsKnown insns entry (m ∷ p) k) s e))
      | inr d ↦ inl (record { path = from ∷ p; leads = h; known = e; last = (let x : from < n = omega arith in x) })
    ]

  join_path : (slot : ℕ) (k : Types) → IsThrough slot k → IsWayBelow (n + 1) insns entry slot k
  join_path slot k t = record {
    path = n ∷ t.way.path;
    leads = (t.way.leads, record { insn = t.insn; here = t.here; target = t.target });
    known = (t.old, t.way.known, record { insn = t.insn; here = t.here; unbroken = t.unbroken; same = t.same });
    last = (let x : n < n + 1 = omega arith in x);
  }

  -- ---- the slot is not reached, or begins nothing
  pub exact_skipped : (table : List (Option Facts)) → IsClean insns → ((i : Insn) (k : Types) → insn_at insns n ≡ Some i → known_at table n ≡ Some k → ⊥) → IsExactBelow n insns entry table → IsExactBelow (n + 1) insns entry table
  exact_skipped table clean none x =
      let nowhere : (i : Insn) (k : Types) → insn_at insns n ≡ Some i → IsWayBelow n insns entry n k → ⊥ = λ i k at w. unknown (known_at table n) i k (λ us e. none i us at e) (x.tells n) w in
      record {
        tells = λ slot. slot_same (IsWayBelow n insns entry slot) (IsWayBelow (n + 1) insns entry slot) (more slot) (λ k w. elim (split slot k clean w) [ inl y ↦ y | inr t ↦ absurd (nowhere t.insn t.old t.here t.way) ]) (known_at table slot) (x.tells slot);
        nothing = λ slot rule h. elim (cases_eq slot n) [
          | inl e ↦ λ s. let y = shown_at insns entry n rule (subst (λ m. IsShown insns entry m rule) e s) in nowhere y.0 y.2 y.1 (way_below insns entry n y.2 clean y.3)
          | inr d ↦ x.nothing slot rule (omega arith)
        ];
      } where
        unknown : (o : Option Types) (i : Insn) (k : Types) → ((us : Types) → o ≡ Some us → ⊥) → TellsSlot o (IsWayBelow n insns entry n) → IsWayBelow n insns entry n k → ⊥
        unknown (Some us) i k f h w = f us refl
        unknown None i k f h w = h k w

  -- ---- the slot is reached
  told_here : (table : List (Option Facts)) (k : Types) → known_at table n ≡ Some k → IsExactBelow n insns entry table → Tells k (IsWayBelow n insns entry n)
  told_here table k was x = subst (λ o. TellsSlot o (IsWayBelow n insns entry n)) was (x.tells n)

  told_ways : (k : Types) → IsClean insns → Tells k (IsWayBelow n insns entry n) → Tells k (IsWay insns entry n)
  told_ways k clean h = all_same (IsWayBelow n insns entry n) (IsWay insns entry n) (way_of n insns entry n) (λ w y. way_below insns entry n w clean y) k h

  pub exact_refused : (table : List (Option Facts)) (i : Insn) (k : Types) (rule : CodeRule) → IsClean insns → insn_at insns n ≡ Some i → known_at table n ≡ Some k → IsExactBelow n insns entry table → IsLowest (λ q. breaks k i q ≡ true) rule → IsLowest (IsShown insns entry n) rule
  exact_refused table i k rule clean at was x l = lowest insns entry n i at k (told_ways k clean (told_here table k was x)) rule l

  pub exact_step : (old new : List (Option Facts)) (i : Insn) (k next : Types) → IsClean insns → length entry ≡ 11 → insn_at insns n ≡ Some i → known_at old n ≡ Some k → IsExactBelow n insns entry old → BreaksNone k i → IsAfter k i next → AddsAll (targets n i) next old new → IsExactBelow (n + 1) insns entry new
  exact_step old new i k next clean long at was x e a adds =
      let h = told_here old k was x in
      let told = after_all i k next (IsWayBelow n insns entry n) h (λ w y. eleven_on insns entry y.path w long y.known) (record { set = e UnsetRead; one = e MixedRead }) a in
      let unbroken : (w : Types) → IsWayBelow n insns entry n w → BreaksNone w i = λ w y. unbroken_way (IsWayBelow n insns entry n) k w i h y e in
      let flows = adds_all (targets n i) (λ slot. IsWayBelow n insns entry slot) (After i (IsWayBelow n insns entry n)) next old new x.tells told adds in
      record {
        tells = λ slot. slot_same (λ w. IsWayBelow n insns entry slot w ⊎ (IsIn (pos slot) (targets n i) × After i (IsWayBelow n insns entry n) w)) (IsWayBelow (n + 1) insns entry slot)
            (λ w y. elim y [ inl z ↦ more slot w z | inr z ↦ join_path slot w (record { insn = i; here = at; old = z.1.0; way = z.1.1; target = z.0; unbroken = unbroken z.1.0 z.1.1; same = z.1.2 }) ])
            (λ w y. elim (split slot w clean y) [
              | inl z ↦ inl z
              | inr t ↦ inr (let same : t.insn ≡ i = same_insn (insn_at insns n) t.insn i t.here at in (subst (λ j. IsIn (pos slot) (targets n j)) same t.target, (t.old, t.way, t.same ∙ ap (after t.old) same)))
            ])
            (known_at new slot) (flows slot);
        nothing = λ slot rule l. elim (cases_eq slot n) [
          | inl s ↦ λ y. nothing_at insns entry n i at k (told_ways k clean h) e rule (subst (λ m. IsShown insns entry m rule) s y)
          | inr d ↦ x.nothing slot rule (omega arith)
        ];
      }

-- ---- all slots

module _ (n : ℕ) (insns : List Insn) (entry : List Tag) (table : List (Option Facts)) (inside : (slot : ℕ) (i : Insn) → insn_at insns slot ≡ Some i → slot < n) (x : IsExactBelow n insns entry table) where
  all_below : (slot : ℕ) (k : Types) → IsWay insns entry slot k → IsWayBelow n insns entry slot k
  all_below slot k w = record { path = w.path; leads = w.leads; known = w.known; last = step w.path w.leads } where
    step : (p : List ℕ) → IsPath insns p slot → IsLastBelow n p
    step [] h = tt
    step (from ∷ p) h = inside from h.1.insn h.1.here

  nothing_shown : NothingShown insns entry
  nothing_shown slot rule s = let y = shown_at insns entry slot rule s in x.nothing slot rule (inside slot y.0 y.1) s

  all_told : (slot : ℕ) → TellsSlot (known_at table slot) (IsWay insns entry slot)
  all_told slot = slot_same (IsWayBelow n insns entry slot) (IsWay insns entry slot) (way_of n insns entry slot) (all_below slot) (known_at table slot) (x.tells slot)

  -- what breaks a rule along a way is shown
  pub exact_all : IsEntry entry → IsExact insns entry table
  exact_all fit = record { tells = all_told; nothing = nothing_shown; unbroken = λ slot i k at w rule. false_unless (breaks k i rule) (λ b. step slot i k at w rule b) } where
    step : (slot : ℕ) (i : Insn) (k : Types) → insn_at insns slot ≡ Some i → IsWay insns entry slot k → (rule : CodeRule) → breaks k i rule ≡ true → ⊥
    step slot i k at w MixedRead b = plain_reads k i (λ r. plain_on insns entry w.path k fit w.known r) b
    step slot i k at w BadLength b = cc
    step slot i k at w UnknownOpcode b = cc
    step slot i k at w OutsideProfile b = cc
    step slot i k at w RegisterAboveTen b = cc
    step slot i k at w UnusedField b = cc
    step slot i k at w BrokenWideLoad b = cc
    step slot i k at w JumpsBack b = cc
    step slot i k at w JumpsNowhere b = cc
    step slot i k at w StackTopWritten b = cc
    step slot i k at w NoExitAtEnd b = cc
    step slot i k at w UnsetRead b = nothing_shown slot UnsetRead (record { insn = i; here = at; way = k; is_way = w; broken = b })
    step slot i k at w NumberWanted b = nothing_shown slot NumberWanted (record { insn = i; here = at; way = k; is_way = w; broken = b })
    step slot i k at w PlaceWanted b = nothing_shown slot PlaceWanted (record { insn = i; here = at; way = k; is_way = w; broken = b })
    step slot i k at w OutsideStack b = nothing_shown slot OutsideStack (record { insn = i; here = at; way = k; is_way = w; broken = b })
    step slot i k at w UnstoredRead b = nothing_shown slot UnstoredRead (record { insn = i; here = at; way = k; is_way = w; broken = b })

-- ---- before the first slot

pub exact_start : (insns : List Insn) (entry : List Tag) (table : List (Option Facts)) (first : Types) → IsEntry entry
    → known_at table 0 ≡ Some first → first.tags ≡ entry → ((byte : ℕ) → first.stored byte ≡ false)
    → ((slot : ℕ) (k : Types) → slot ≢ 0 → known_at table slot ≡ Some k → ⊥) → IsExactBelow 0 insns entry table
exact_start insns entry table first fit start tags bytes rest =
    record { tells = λ slot. tells_at slot (cases_eq slot 0); nothing = λ slot rule h. absurd (omega arith) } where
      begun : Types
      begun = record { tags = entry; stored = λ byte. false }

      only : (slot : ℕ) (k : Types) (w : IsWayBelow 0 insns entry slot k) → (slot ≡ 0) × (k ≡ begun)
      only slot k w = step w.path w.leads w.known w.last where
        step : (p : List ℕ) → IsPath insns p slot → IsKnown insns entry p k → IsLastBelow 0 p → (slot ≡ 0) × (k ≡ begun)
        step [] h e l = (h, e)
        step (from ∷ p) h e l = absurd (omega arith)

      starts : IsWayBelow 0 insns entry 0 begun
      starts = record { path = []; leads = refl; known = refl; last = tt }

      none : (slot : ℕ) (o : Option Types) → known_at table slot ≡ o → slot ≢ 0 → TellsSlot o (IsWayBelow 0 insns entry slot)
      none slot (Some k) e n = absurd (rest slot k n e)
      none slot None e n = λ w y. n (only slot w y).0

      W : Types → Type 0
      W = IsWayBelow 0 insns entry 0

      tells_entry : (a : Tag) (r : Reg) → tag entry r ≡ a → TellsTag a (Leaves W r)
      tells_entry Unset r e = (begun, starts, e)
      tells_entry Number r e = ((begun, starts, e), λ t x. sym x.2 ∙ ap (λ y. tag y.tags r) (only 0 x.0 x.1).1 ∙ e)
      tells_entry (Place o) r e = ((begun, starts, e), λ t x. sym x.2 ∙ ap (λ y. tag y.tags r) (only 0 x.0 x.1).1 ∙ e)
      tells_entry Mixed r e = absurd (fit.plain r e)

      tells_first : Tells first W
      tells_first = record {
        eleven = ap length tags ∙ fit.eleven;
        some = (begun, starts);
        each = λ r. tells_entry (tag first.tags r) r (ap (λ ts. tag ts r) (sym tags));
        bytes = λ byte. subst (λ b. TellsByte b (Marks W byte)) (sym (bytes byte)) (begun, starts, refl);
      }

      tells_at : (slot : ℕ) → (slot ≡ 0) ⊎ (slot ≢ 0) → TellsSlot (known_at table slot) (IsWayBelow 0 insns entry slot)
      tells_at slot (inl e) = subst (λ m. TellsSlot (known_at table m) (IsWayBelow 0 insns entry m)) (sym e) (subst (λ o. TellsSlot o W) (sym start) tells_first)
      tells_at slot (inr n) = none slot (known_at table slot) refl n
