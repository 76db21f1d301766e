-- The instructions that begin in the first slots of a program.
use Rattle.std.proofs.Common.{◌≡◌, ◌+◌, ℕ, zero, suc, List, [], ◌∷◌, ◌++◌, None, Some, refl, sym, ap, ◌∙◌, arith}
use Rattle.std.specs.Option.{option_to_list}
use Rattle.std.specs.List.{flat_map}
use Rattle.std.proofs.lemmas.List.{append-nil}
use Rattle.std.proofs.lemmas.List.Concat.{flat_map-append}
use Rattle.bpf_insn.specs.declared.insn.Insn.{Insn}
use Rattle.bpf_insn.specs.declared.insn.Insn.TheVariants as insns
use Rattle.bpf_insn.specs.Program.{slot_count, insn_at}
use Rattle.bpf_text.specs.Canonical.{canonical_line, canonical_text}

pub upto : List Insn → ℕ → List Insn
upto is zero = []
upto is (suc k) = upto is k ++ option_to_list (insn_at is k)

pub upto-none : (is : List Insn) → upto is 0 ≡ []
unfolding upto
upto-none is = refl

pub upto-more : (is : List Insn) (k : ℕ) → upto is (k + 1) ≡ upto is k ++ option_to_list (insn_at is k)
unfolding upto
upto-more is k = ap (upto is) (let e : k + 1 ≡ suc k = omega arith in e)

one_slot : (i : Insn) (is : List Insn) → insn_at (i ∷ is) zero ≡ Some i → ((k : ℕ) → insn_at (i ∷ is) (suc k) ≡ insn_at is k) → (k : ℕ) → upto (i ∷ is) (suc k) ≡ i ∷ upto is k
unfolding upto
one_slot i is first more zero = ap option_to_list first
one_slot i is first more (suc k) = (λ j. one_slot i is first more k j ++ option_to_list (more k j))

two_slots : (i : Insn) (is : List Insn) → insn_at (i ∷ is) zero ≡ Some i → insn_at (i ∷ is) (suc zero) ≡ None → ((k : ℕ) → insn_at (i ∷ is) (suc (suc k)) ≡ insn_at is k) → (k : ℕ) → upto (i ∷ is) (suc (suc k)) ≡ i ∷ upto is k
unfolding upto
two_slots i is first second more zero = (λ j. option_to_list (first j) ++ option_to_list (second j))
two_slots i is first second more (suc k) = (λ j. two_slots i is first second more k j ++ option_to_list (more k j))

at_one : (i : Insn) (is : List Insn) → insn_at (i ∷ is) zero ≡ Some i → ((k : ℕ) → insn_at (i ∷ is) (suc k) ≡ insn_at is k)
    → upto is (slot_count is) ≡ is → upto (i ∷ is) (1 + slot_count is) ≡ i ∷ is
at_one i is first more all =
    ap (upto (i ∷ is)) (let e : 1 + slot_count is ≡ suc (slot_count is) = omega arith in e)
    ∙ (one_slot i is first more (slot_count is) ∙ ap (λ js. i ∷ js) all)

at_two : (i : Insn) (is : List Insn) → insn_at (i ∷ is) zero ≡ Some i → insn_at (i ∷ is) (suc zero) ≡ None → ((k : ℕ) → insn_at (i ∷ is) (suc (suc k)) ≡ insn_at is k)
    → upto is (slot_count is) ≡ is → upto (i ∷ is) (2 + slot_count is) ≡ i ∷ is
at_two i is first second more all =
    ap (upto (i ∷ is)) (let e : 2 + slot_count is ≡ suc (suc (slot_count is)) = omega arith in e)
    ∙ (two_slots i is first second more (slot_count is) ∙ ap (λ js. i ∷ js) all)

with_first : (i : Insn) (is : List Insn) → upto is (slot_count is) ≡ is → upto (i ∷ is) (slot_count (i ∷ is)) ≡ i ∷ is
with_first (insns.Wide d v) is all = at_two (insns.Wide d v) is refl refl (λ k. refl) all
with_first (insns.Alu w op d s) is all = at_one (insns.Alu w op d s) is refl (λ k. refl) all
with_first (insns.Neg w d) is all = at_one (insns.Neg w d) is refl (λ k. refl) all
with_first (insns.Movsx e d s) is all = at_one (insns.Movsx e d s) is refl (λ k. refl) all
with_first (insns.End o z d) is all = at_one (insns.End o z d) is refl (λ k. refl) all
with_first (insns.Ja off) is all = at_one (insns.Ja off) is refl (λ k. refl) all
with_first (insns.Ja32 off) is all = at_one (insns.Ja32 off) is refl (λ k. refl) all
with_first (insns.Jump w c l r off) is all = at_one (insns.Jump w c l r off) is refl (λ k. refl) all
with_first insns.Exit is all = at_one insns.Exit is refl (λ k. refl) all
with_first (insns.Ldx z d b off) is all = at_one (insns.Ldx z d b off) is refl (λ k. refl) all
with_first (insns.Ldsx z d b off) is all = at_one (insns.Ldsx z d b off) is refl (λ k. refl) all
with_first (insns.Stx z b off s) is all = at_one (insns.Stx z b off s) is refl (λ k. refl) all
with_first (insns.St z b off n) is all = at_one (insns.St z b off n) is refl (λ k. refl) all

pub upto-all : (is : List Insn) → upto is (slot_count is) ≡ is
upto-all [] = upto-none []
upto-all (i ∷ is) = with_first i is (upto-all is)

-- what was written, one slot further

pub written_insn : (is : List Insn) (k : ℕ) (old new : List ℕ) (i : Insn) → insn_at is k ≡ Some i → old ≡ flat_map canonical_line (upto is k) → new ≡ old ++ canonical_line i
    → new ≡ flat_map canonical_line (upto is (k + 1))
written_insn is k old new i at e f =
    let more : upto is (k + 1) ≡ upto is k ++ i ∷ [] = upto-more is k ∙ ap (λ o. upto is k ++ option_to_list o) at in
    f ∙ (ap (λ t. t ++ canonical_line i) e ∙ sym (ap (flat_map canonical_line) more ∙ (flat_map-append canonical_line (upto is k) (i ∷ [])
    ∙ ap (λ t. flat_map canonical_line (upto is k) ++ t) (append-nil (canonical_line i)))))

pub written_nothing : (is : List Insn) (k : ℕ) (old : List ℕ) → insn_at is k ≡ None → old ≡ flat_map canonical_line (upto is k) → old ≡ flat_map canonical_line (upto is (k + 1))
written_nothing is k old at e =
    let same : upto is (k + 1) ≡ upto is k = upto-more is k ∙ (ap (λ o. upto is k ++ option_to_list o) at ∙ append-nil (upto is k)) in
    e ∙ ap (flat_map canonical_line) (sym same)

pub written_all : (is : List Insn) (k : ℕ) (text : List ℕ) → k ≡ slot_count is → text ≡ flat_map canonical_line (upto is k) → text ≡ canonical_text is
unfolding canonical_text
written_all is k text all e = e ∙ ap (flat_map canonical_line) (ap (upto is) all ∙ upto-all is)
