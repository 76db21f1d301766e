-- A text and a program have one fault at most, and none where they are accepted; and of an accepted program's registers one thing
-- is known at each slot.
use Rattle.std.proofs.Common.{◌≡◌, ◌<◌, ℕ, zero, suc, List, Option, Some, None, option_map, slice_index_or, ext_get_or, inl, inr, refl, sym, ap, ◌∙◌, subst, arith}
use Rattle.std.proofs.lemmas.Bool.{cases_lt, cases_order}
use Rattle.std.specs.Str.Lines.{lines}
use Rattle.matrix_market.specs.declared.rule.MarketRule.{MarketRule}
use Rattle.matrix_market.specs.Market.{IsFault as IsMarketFault, rules_at, first_rule}
use Rattle.bpf_insn.specs.declared.insn.Insn.{Insn}
use Rattle.bpf_insn.specs.declared.fault.Fault.{Fault}
use Rattle.bpf_insn.specs.declared.operands.Kind.{Kind}
use Rattle.bpf_insn.specs.declared.reg.Reg.{Reg}
use Rattle.bpf_insn.specs.declared.reg.Reg.TheVariants.{R0, R1, R2, R3, R4, R5, R6, R7, R8, R9, R10}
use Rattle.bpf_insn.specs.declared.rule.CodeRule.{CodeRule}
use Rattle.bpf_insn.specs.Rule.{IsLowest}
use Rattle.bpf_insn.specs.Spelling.{number_of_reg}
use Rattle.bpf_insn.specs.Program.{insn_at, slot_count}
use Rattle.bpf_insn.proofs.Lowest.{lowest-one}
use Rattle.bpf_insn.proofs.Slots.{begins_nowhere}
use Rattle.bpf_verify.specs.declared.tag.Tag.{Tag}
use Rattle.bpf_verify.specs.declared.tag.Tag.TheVariants.{Unset, Number, Place, Mixed}
use Rattle.bpf_verify.specs.Slots.{slot_rule, IsSlotFault, HasNoSlotFault}
use Rattle.bpf_verify.specs.Tags.{Types, tag}
use Rattle.bpf_verify.specs.Paths.{IsShown, IsFirstShown, TellsTag, Tells, IsWay}
use Rattle.bpf_verify.specs.Accepted.{IsAcceptable, IsFault, OfSlot, OfPaths, IsTyping, entry_tags}

some_same : {X : Type 0} (x y : X) → Some x ≡ Some y → x ≡ y
some_same x y e = cc

none_some : {X : Type 0} (x : X) → None ≡ Some x → ⊥
none_some x e = cc

-- ---- matrix text

pub one_market_fault : (text : List ℕ) (n m : ℕ) (q r : MarketRule) → IsMarketFault text n q → IsMarketFault text m r → (n ≡ m) × (q ≡ r)
one_market_fault text n m q r f g = elim (cases_order n m) [
  | inl e ↦ (e, some_same q r (sym f.fault ∙ (ap (λ k. first_rule (rules_at (lines text) k)) e ∙ g.fault)))
  | inr d ↦ elim d [
    | inl less ↦ absurd (none_some q (ap first_rule (sym (g.none_before n f.line.0 less)) ∙ f.fault))
    | inr more ↦ absurd (none_some r (ap first_rule (sym (f.none_before m g.line.0 more)) ∙ g.fault))
  ]
]

-- ---- programs

no_slot_fault : (insns : List Insn) (slot : ℕ) (rule : CodeRule) → HasNoSlotFault insns → IsSlotFault insns slot rule → ⊥
no_slot_fault insns slot rule clean f = elim (cases_lt slot (slot_count insns)) [
  | inl less ↦ none_some rule (sym (clean slot f.insn less f.here) ∙ f.broken)
  | inr most ↦ none_some f.insn (sym (begins_nowhere insns slot most) ∙ f.here)
]

pub no_operator_fault : (kind : Kind) (insns : List Insn) (f : Fault) → IsAcceptable kind insns → IsFault kind insns f → ⊥
no_operator_fault kind insns f a (OfSlot s) = no_slot_fault insns f.slot f.rule a.clean s
no_operator_fault kind insns f a (OfPaths clean s) = a.nothing f.slot f.rule s.shown.broken

fault_is : (f g : Fault) → (f.slot ≡ g.slot) × (f.rule ≡ g.rule) → f ≡ g
fault_is f g e = λ i. record { slot = e.0 i; rule = e.1 i }

one_slot_fault : (insns : List Insn) (n m : ℕ) (q r : CodeRule) → IsSlotFault insns n q → IsSlotFault insns m r → (n ≡ m) × (q ≡ r)
one_slot_fault insns n m q r f g = elim (cases_order n m) [
  | inl e ↦
      let same : f.insn ≡ g.insn = some_same f.insn g.insn (sym f.here ∙ (ap (insn_at insns) e ∙ g.here)) in
      (e, some_same q r (sym f.broken ∙ ((λ i. slot_rule insns (e i) (same i)) ∙ g.broken)))
  | inr d ↦ elim d [
    | inl less ↦ absurd (none_some q (sym (g.before n f.insn less f.here) ∙ f.broken))
    | inr more ↦ absurd (none_some r (sym (f.before m g.insn more g.here) ∙ g.broken))
  ]
]

one_shown_fault : (insns : List Insn) (entry : List Tag) (n m : ℕ) (q r : CodeRule) → IsFirstShown insns entry n q → IsFirstShown insns entry m r → (n ≡ m) × (q ≡ r)
one_shown_fault insns entry n m q r f g = elim (cases_order n m) [
  | inl e ↦ (e, lowest-one (IsShown insns entry m) q r (subst (λ (k : ℕ). IsLowest (IsShown insns entry k) q) e f.shown) g.shown)
  | inr d ↦ elim d [
    | inl less ↦ absurd (g.before n q less f.shown.broken)
    | inr more ↦ absurd (f.before m r more g.shown.broken)
  ]
]

pub one_operator_fault : (kind : Kind) (insns : List Insn) (f g : Fault) → IsFault kind insns f → IsFault kind insns g → f ≡ g
one_operator_fault kind insns f g (OfSlot a) (OfSlot b) = fault_is f g (one_slot_fault insns f.slot g.slot f.rule g.rule a b)
one_operator_fault kind insns f g (OfSlot a) (OfPaths clean b) = absurd (no_slot_fault insns f.slot f.rule clean a)
one_operator_fault kind insns f g (OfPaths clean a) (OfSlot b) = absurd (no_slot_fault insns g.slot g.rule clean b)
one_operator_fault kind insns f g (OfPaths clean a) (OfPaths other b) =
    fault_is f g (one_shown_fault insns (entry_tags kind) f.slot g.slot f.rule g.rule a b)

-- ---- what is known of registers

tag_one : (a b : Tag) (P : Tag → Type 0) → TellsTag a P → TellsTag b P → a ≡ b
tag_one Unset Unset P h k = refl
tag_one Unset Number P h k = k.1 Unset h
tag_one Unset (Place o) P h k = k.1 Unset h
tag_one Unset Mixed P h k = absurd (k.0 h)
tag_one Number Unset P h k = sym (h.1 Unset k)
tag_one Number Number P h k = refl
tag_one Number (Place o) P h k = k.1 Number h.0
tag_one Number Mixed P h k = absurd (k.5 (h.1 k.1 k.3 ∙ sym (h.1 k.2 k.4)))
tag_one (Place o) Unset P h k = sym (h.1 Unset k)
tag_one (Place o) Number P h k = sym (h.1 Number k.0)
tag_one (Place o) (Place p) P h k = k.1 (Place o) h.0
tag_one (Place o) Mixed P h k = absurd (k.5 (h.1 k.1 k.3 ∙ sym (h.1 k.2 k.4)))
tag_one Mixed Unset P h k = absurd (h.0 k)
tag_one Mixed Number P h k = absurd (h.5 (k.1 h.1 h.3 ∙ sym (k.1 h.2 h.4)))
tag_one Mixed (Place o) P h k = absurd (h.5 (k.1 h.1 h.3 ∙ sym (k.1 h.2 h.4)))
tag_one Mixed Mixed P h k = refl

-- each number below 11 is that of a register
register : (n : ℕ) → n < 11 → (r : Reg) × (number_of_reg r ≡ n)
register zero h = (R0, refl)
register (suc zero) h = (R1, refl)
register (suc (suc zero)) h = (R2, refl)
register (suc (suc (suc zero))) h = (R3, refl)
register (suc (suc (suc (suc zero)))) h = (R4, refl)
register (suc (suc (suc (suc (suc zero))))) h = (R5, refl)
register (suc (suc (suc (suc (suc (suc zero)))))) h = (R6, refl)
register (suc (suc (suc (suc (suc (suc (suc zero))))))) h = (R7, refl)
register (suc (suc (suc (suc (suc (suc (suc (suc zero)))))))) h = (R8, refl)
register (suc (suc (suc (suc (suc (suc (suc (suc (suc zero))))))))) h = (R9, refl)
register (suc (suc (suc (suc (suc (suc (suc (suc (suc (suc zero)))))))))) h = (R10, refl)
register (suc (suc (suc (suc (suc (suc (suc (suc (suc (suc (suc n))))))))))) h = absurd (omega (arith, h))

tags_one : (W : Types → Type 0) (k l : Types) → Tells k W → Tells l W → k.tags ≡ l.tags
tags_one W k l h g =
    let eleven = h.eleven in
    ext_get_or Unset k.tags l.tags (eleven ∙ sym g.eleven) (λ i less.
    let r = register i (omega (arith, less, eleven)) in
    let same : tag k.tags r.0 ≡ tag l.tags r.0 = tag_one (tag k.tags r.0) (tag l.tags r.0) (λ t. (w : Types) × W w × (tag w.tags r.0 ≡ t)) (h.each r.0) (g.each r.0) in
    ap (λ n. slice_index_or k.tags n Unset) (sym r.1) ∙ (same ∙ ap (λ n. slice_index_or l.tags n Unset) r.1))

abbrev tags_in : Option Types → Option (List Tag)
tags_in o = option_map (λ (k : Types). k.tags) o

-- the tags at a slot
pub typing_one : (insns : List Insn) (entry : List Tag) (slot : ℕ) (o p : Option Types) → IsTyping insns entry slot o → IsTyping insns entry slot p
    → option_map (λ (k : Types). k.tags) o ≡ option_map (λ (k : Types). k.tags) p
typing_one insns entry slot None None h g = refl
typing_one insns entry slot None (Some l) h g = let way = g.0.some.1 in absurd (h way.path way.leads)
typing_one insns entry slot (Some k) None h g = let way = h.0.some.1 in absurd (g way.path way.leads)
typing_one insns entry slot (Some k) (Some l) h g = ap Some (tags_one (IsWay insns entry slot) k l h.0 g.0)
