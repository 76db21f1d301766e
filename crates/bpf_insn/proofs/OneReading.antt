-- Code is that of one program at most, or has one fault.
use Rattle.std.proofs.Common.{◌≡◌, ◌≤◌, ◌*◌, ℕ, arith, Bool, true, false, List, [], ◌∷◌, ◌++◌, length}
use Rattle.std.proofs.Common.{sym, ◌∙◌, ap, refl, append_assoc, length-append, inl, inr, subst}
use Rattle.std.specs.Prelude.{Result, Ok, Err, IfOk, IfErr, MatchResult}
use Rattle.std.specs.List.{AllByRecursion}
use Rattle.bpf_insn.specs.declared.slot.Slot.{Slot}
use Rattle.bpf_insn.specs.declared.fault.Fault.{Fault}
use Rattle.bpf_insn.specs.declared.fault.DecodeError.{DecodeError}
use Rattle.bpf_insn.specs.declared.fault.DecodeError.TheVariants as errors
use Rattle.bpf_insn.specs.declared.rule.CodeRule.{CodeRule}
use Rattle.bpf_insn.specs.declared.insn.Insn.{Insn}
use Rattle.bpf_insn.specs.Rule.{IsLowest}
use Rattle.bpf_insn.specs.Spelling.{spelling, slot_bytes, Fits}
use Rattle.bpf_insn.specs.Broken.{SlotBreaks, IsBrokenAtFront}
use Rattle.bpf_insn.specs.Program.{slot_count, slots_of}
use Rattle.bpf_insn.specs.Code.{code_of, Spells, IsCodeFault, ExplainsRefusal, HasOneReading, IsOnlyCodeOf, has_bad_length}
use Rattle.bpf_insn.proofs.Lowest.{lowest-one}
use Rattle.bpf_insn.proofs.Layouts.{length-code_of, length-spelling, slots_of-some}
use Rattle.bpf_insn.proofs.Inverse.{same_fields}
use Rattle.bpf_insn.proofs.Reading.{spelling-injective}
use Rattle.bpf_insn.proofs.Unbroken.{spelled-unbroken}

-- no instruction is spelled by no bytes
spelled-some : (i : Insn) (x : List ℕ) → [] ≡ spelling i ++ x → ⊥
spelled-some i x e =
    let n : 0 ≡ length (spelling i ++ x) = ap length e in
    absurd (omega (arith, length-append (spelling i) x, length-spelling i, slots_of-some i))

code_of-injective : (a b : List Insn) → AllByRecursion Fits a → AllByRecursion Fits b → code_of a ≡ code_of b → a ≡ b
code_of-injective [] [] f g e = refl
code_of-injective [] (j ∷ b) f g e = absurd (spelled-some j (code_of b) e)
code_of-injective (i ∷ a) [] f g e = absurd (spelled-some i (code_of a) (sym e))
code_of-injective (i ∷ a) (j ∷ b) f g e =
    let h = spelling-injective i j (code_of a) (code_of b) f.0 g.0 e in
    let t : a ≡ b = code_of-injective a b f.1 g.1 h.1 in
    let s : i ≡ j = h.0 in
    cc

pub Spells-one : (code : List ℕ) (a b : List Insn) → Spells code a → Spells code b → a ≡ b
Spells-one code a b s t = code_of-injective a b s.program.fits t.program.fits (sym s.same ∙ t.same)

-- nothing is broken where nothing is left
broken-some : (rule : CodeRule) → IsBrokenAtFront [] rule → ⊥
broken-some rule b = let e = b.read in cc

spelled-no_fault : (is before : List Insn) (rest : List ℕ) (rule : CodeRule) → AllByRecursion Fits is
    → AllByRecursion Fits before → code_of is ≡ code_of before ++ rest → IsBrokenAtFront rest rule → ⊥
spelled-no_fault [] [] rest rule f g e b =
    let P : List ℕ → Type 0 = λ z. IsBrokenAtFront z rule in broken-some rule (subst P (sym e) b)
spelled-no_fault (i ∷ is) [] rest rule f g e b =
    let P : List ℕ → Type 0 = λ z. IsBrokenAtFront z rule in spelled-unbroken i (code_of is) rule f.0 (subst P (sym e) b)
spelled-no_fault [] (j ∷ before) rest rule f g e b =
    spelled-some j (code_of before ++ rest) (e ∙ append_assoc (spelling j) (code_of before) rest)
spelled-no_fault (i ∷ is) (j ∷ before) rest rule f g e b =
    let h = spelling-injective i j (code_of is) (code_of before ++ rest) f.0 g.0 (e ∙ append_assoc (spelling j) (code_of before) rest) in
    spelled-no_fault is before rest rule f.1 g.1 h.1 b

good_length : (n : ℕ) → 1 ≤ n → n ≤ 4096 → has_bad_length (8 * n) ≡ false
good_length n h k = grind arith

pub spelled-length : (code : List ℕ) (is : List Insn) → Spells code is → has_bad_length (length code) ≡ false
spelled-length code is s =
    ap has_bad_length (ap length s.same ∙ length-code_of is) ∙ good_length (slot_count is) s.program.some s.program.few

not_both : (b : Bool) → b ≡ true → b ≡ false → ⊥
not_both b e f = cc

pub Spells-no_fault : (code : List ℕ) (is : List Insn) (f : Fault) → Spells code is → IsCodeFault code f → ⊥
Spells-no_fault code is f s c =
    elim c [
      | inl bad ↦ not_both _ bad.bad (spelled-length code is s)
      | inr broken ↦ let b = broken.1 in spelled-no_fault is b.before b.rest f.rule s.program.fits b.fits (sym s.same ∙ b.cut) b.fault
    ]

front-one : (bytes : List ℕ) (q r : CodeRule) → IsBrokenAtFront bytes q → IsBrokenAtFront bytes r → q ≡ r
front-one bytes q r a b =
    let read : slot_bytes b.slot ++ [] ≡ slot_bytes a.slot ++ [] = ap (λ z. z ++ []) (b.read ∙ sym a.read) in
    let same : b.slot ≡ a.slot = (same_fields b.slot a.slot [] [] b.fits a.fits read).0 in
    let P : Slot → Type 0 = λ s. IsLowest (SlotBreaks s bytes) r in
    lowest-one (SlotBreaks a.slot bytes) q r a.fault (subst P same b.fault)

broken-one : (a b : List Insn) (x y : List ℕ) (q r : CodeRule) → AllByRecursion Fits a → AllByRecursion Fits b
    → code_of a ++ x ≡ code_of b ++ y → IsBrokenAtFront x q → IsBrokenAtFront y r
    → (slot_count a ≡ slot_count b) × (q ≡ r)
broken-one [] [] x y q r f g e s t =
    let P : List ℕ → Type 0 = λ z. IsBrokenAtFront z r in (refl, front-one x q r s (subst P (sym e) t))
broken-one [] (j ∷ b) x y q r f g e s t =
    let P : List ℕ → Type 0 = λ z. IsBrokenAtFront z q in
    absurd (spelled-unbroken j (code_of b ++ y) q g.0 (subst P (e ∙ append_assoc (spelling j) (code_of b) y) s))
broken-one (i ∷ a) [] x y q r f g e s t =
    let P : List ℕ → Type 0 = λ z. IsBrokenAtFront z r in
    absurd (spelled-unbroken i (code_of a ++ x) r f.0 (subst P (sym e ∙ append_assoc (spelling i) (code_of a) x) t))
broken-one (i ∷ a) (j ∷ b) x y q r f g e s t =
    let h = spelling-injective i j (code_of a ++ x) (code_of b ++ y) f.0 g.0 (sym (append_assoc (spelling i) (code_of a) x) ∙ e ∙ append_assoc (spelling j) (code_of b) y) in
    let k = broken-one a b x y q r f.1 g.1 h.1 s t in
    let n : slots_of i ≡ slots_of j = ap slots_of h.0 in
    (omega (arith, k.0), k.1)

fault_of : ℕ → CodeRule → Fault
fault_of slot rule = record { slot = slot; rule = rule }

same_fault : (f g : Fault) → f.slot ≡ g.slot → f.rule ≡ g.rule → f ≡ g
unfolding fault_of
same_fault f g s r = let h : fault_of f.slot f.rule ≡ fault_of g.slot g.rule = rw (s, r) refl in h

pub IsCodeFault-one : (code : List ℕ) (f g : Fault) → IsCodeFault code f → IsCodeFault code g → f ≡ g
IsCodeFault-one code f g (inl a) (inl b) = same_fault f g (a.at ∙ sym b.at) (a.name ∙ sym b.name)
IsCodeFault-one code f g (inl a) (inr b) = absurd (not_both _ a.bad b.0)
IsCodeFault-one code f g (inr a) (inl b) = absurd (not_both _ b.bad a.0)
IsCodeFault-one code f g (inr a) (inr b) =
    let p = a.1 in
    let q = b.1 in
    let h = broken-one p.before q.before p.rest q.rest f.rule g.rule p.fits q.fits (sym p.cut ∙ q.cut) p.fault q.fault in
    same_fault f g (sym p.at ∙ h.0 ∙ q.at) h.1

pub one_reading : (code : List ℕ) → HasOneReading code
one_reading code = record { one_program = Spells-one code; no_fault = Spells-no_fault code; one_fault = IsCodeFault-one code }

pub Spells-only : (code : List ℕ) (is : List Insn) → Spells code is → IsOnlyCodeOf code is
Spells-only code is s =
    record { spells = s; one_program = λ other t. Spells-one code other is t s; one_code = λ other t. t.same ∙ sym s.same }

-- where the code is that of a program, it is refused where memory is out, and only there
pub refused-memory : (code : List ℕ) (is : List Insn) (e : DecodeError) → Spells code is → ExplainsRefusal code e
    → e ≡ errors.Memory
refused-memory code is (errors.Fault f) s x = absurd (Spells-no_fault code is f s x)
refused-memory code is errors.Memory s x = refl

-- of code that spells a program the answer is that program, or Memory
pub read_exact : (code : List ℕ) (p : List Insn) (r : Result (List Insn) DecodeError) → Spells code p → IfOk r (Spells code)
    → IfErr r (ExplainsRefusal code) → MatchResult r (λ q. q ≡ p) (λ e. e ≡ errors.Memory)
read_exact code p (Ok q) s ok err = Spells-one code q p ok s
read_exact code p (Err e) s ok err = refused-memory code p e s err
