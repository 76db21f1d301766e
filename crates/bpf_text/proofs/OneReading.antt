-- A text is read in one way.
use Rattle.std.proofs.Common.{◌≡◌, ◌<◌, ◌+◌, ℕ, List, [], ◌∷◌, ◌++◌, ⊎_elim, length, refl, sym, ap, ◌∙◌, subst, arith}
use Rattle.std.specs.Str.Lines.{lines}
use Rattle.bpf_insn.specs.declared.insn.Insn.{Insn}
use Rattle.bpf_insn.specs.Program.{slot_count}
use Rattle.bpf_text.specs.declared.rule.AsmRule.{AsmRule}
use Rattle.bpf_text.specs.declared.rule.AsmRule.TheVariants.{LineTooLong, UnknownMnemonic, MalformedOperands, UnknownRegister, NumberOutOfRange, BadLength}
use Rattle.bpf_text.specs.declared.fault.AsmFault.{AsmFault}
use Rattle.bpf_text.specs.Rule.{rule_number}
use Rattle.bpf_text.specs.Text.{AreFaultless, IsTextOf, IsLowestBroken, IsFaultyLine, HasNoInstruction, IsTextFault, HasOneReading}
use Rattle.bpf_text.proofs.Standing.{faultless_unique, unbroken}

number-injective : (r s : AsmRule) → rule_number r ≡ rule_number s → r ≡ s
number-injective LineTooLong LineTooLong e = refl
number-injective LineTooLong _ e = absurd (omega arith)
number-injective UnknownMnemonic UnknownMnemonic e = refl
number-injective UnknownMnemonic _ e = absurd (omega arith)
number-injective MalformedOperands MalformedOperands e = refl
number-injective MalformedOperands _ e = absurd (omega arith)
number-injective UnknownRegister UnknownRegister e = refl
number-injective UnknownRegister _ e = absurd (omega arith)
number-injective NumberOutOfRange NumberOutOfRange e = refl
number-injective NumberOutOfRange _ e = absurd (omega arith)
number-injective BadLength BadLength e = refl
number-injective BadLength _ e = absurd (omega arith)

lowest_unique : (is : List Insn) (l : List ℕ) (r s : AsmRule) → IsLowestBroken is l r → IsLowestBroken is l s → r ≡ s
lowest_unique is l r s f g =
    number-injective r s (let below : rule_number r < rule_number s → ⊥ = λ h. g.lowest r h f.broken in
    let above : rule_number s < rule_number r → ⊥ = λ h. f.lowest s h g.broken in omega arith)

-- how two cuts of one list lie
data Cuts {X : Type 0} (a : List X) (x : X) (b : List X) (y : X) : Type 0 where
  same : a ≡ b → x ≡ y → Cuts a x b y
  first : (m : List X) → b ≡ a ++ x ∷ m → Cuts a x b y
  second : (m : List X) → a ≡ b ++ y ∷ m → Cuts a x b y

cuts : {X : Type 0} (a : List X) (x : X) (r : List X) (b : List X) (y : X) (s : List X) → a ++ x ∷ r ≡ b ++ y ∷ s → Cuts a x b y
cuts [] x r [] y s e = same refl (cc)
cuts [] x r (c ∷ b) y s e = first b (let h : x ≡ c = cc in ap (λ z. z ∷ b) (sym h))
cuts (c ∷ a) x r [] y s e = second a (let h : c ≡ y = cc in ap (λ z. z ∷ a) h)
cuts (c ∷ a) x r (d ∷ b) y s e =
    let h : c ≡ d = cc in
    let t : a ++ x ∷ r ≡ b ++ y ∷ s = cc in
    more h (cuts a x r b y s t)
  where
    more : c ≡ d → Cuts a x b y → Cuts (c ∷ a) x (d ∷ b) y
    more h (same e f) = same (λ i. h i ∷ e i) f
    more h (first m e) = first m (λ i. sym h i ∷ e i)
    more h (second m e) = second m (λ i. h i ∷ e i)

same_fault : (f g : AsmFault) → f.line ≡ g.line → f.rule ≡ g.rule → f ≡ g
same_fault f g e r = (λ i. record { line = e i; rule = r i })

-- a line among lines without fault is not the faulty one
not_among : (text : List ℕ) (f : AsmFault) (ls : List (List ℕ)) (is : List Insn) → (p : IsFaultyLine text f) → (m : List (List ℕ)) → ls ≡ p.before ++ p.line ∷ m → AreFaultless ls is → ⊥
not_among text f ls is p m e g =
    unbroken p.before p.line m is p.insns (subst (λ (xs : List (List ℕ)). AreFaultless xs is) e g) p.faultless f.rule (let broken = p.fault in broken.broken)

no_fault : (text : List ℕ) (is : List Insn) (f : AsmFault) → IsTextOf text is → IsTextFault text f → ⊥
no_fault text is f t fault = ⊎_elim
    (λ (p : IsFaultyLine text f). not_among text f (lines text) is p p.behind p.cut t.faultless)
    (λ (p : HasNoInstruction text f). let same = ap slot_count (faultless_unique (lines text) is [] t.faultless p.faultless) in let some = t.program.some in omega arith)
    fault

one_line : (text : List ℕ) (f g : AsmFault) → (p : IsFaultyLine text f) → (q : IsFaultyLine text g) → Cuts p.before p.line q.before q.line → f ≡ g
one_line text f g p q (same b l) =
    let numbered = p.numbered ∙ (ap (λ (x : List (List ℕ)). length x + 1) b ∙ sym q.numbered) in
    let insns : p.insns ≡ q.insns = faultless_unique q.before p.insns q.insns (subst (λ (x : List (List ℕ)). AreFaultless x p.insns) b p.faultless) q.faultless in
    let lowest : IsLowestBroken q.insns q.line f.rule = subst (λ (x : List Insn). IsLowestBroken x q.line f.rule) insns (subst (λ (x : List ℕ). IsLowestBroken p.insns x f.rule) l p.fault) in
    same_fault f g numbered (lowest_unique q.insns q.line f.rule g.rule lowest q.fault)
one_line text f g p q (first m e) = absurd (not_among text f q.before q.insns p m e q.faultless)
one_line text f g p q (second m e) = absurd (not_among text g p.before p.insns q m e p.faultless)

one_fault : (text : List ℕ) (f g : AsmFault) → IsTextFault text f → IsTextFault text g → f ≡ g
one_fault text f g a b = ⊎_elim
    (λ (p : IsFaultyLine text f). ⊎_elim
    (λ (q : IsFaultyLine text g). one_line text f g p q (cuts p.before p.line p.behind q.before q.line q.behind (sym p.cut ∙ q.cut)))
    (λ (q : HasNoInstruction text g). absurd (not_among text f (lines text) [] p p.behind p.cut q.faultless)) b)
    (λ (p : HasNoInstruction text f). ⊎_elim
    (λ (q : IsFaultyLine text g). absurd (not_among text g (lines text) [] q q.behind q.cut p.faultless))
    (λ (q : HasNoInstruction text g). same_fault f g (p.numbered ∙ sym q.numbered) (p.name ∙ sym q.name)) b) a

pub one_reading : (text : List ℕ) → HasOneReading text
one_reading text = record {
  one_program = λ a b s t. faultless_unique (lines text) a b s.faultless t.faultless;
  no_fault = no_fault text;
  one_fault = one_fault text;
}
