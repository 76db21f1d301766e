-- A program of which nothing is shown is never stuck: its run follows a path, and what is known along it holds.
use Rattle.std.proofs.Common.{◌≡◌, ◌<◌, ◌≤◌, ◌+◌, ℕ, zero, suc, arith, Bool, true, false, not, List, []}
use Rattle.std.proofs.Common.{◌∷◌, length, sym, ◌∙◌, ap, refl, subst, ◌⊎◌, inl, inr, if◌then◌else◌}
use Rattle.std.specs.Prelude.{Option, Some, None, ℤ, pos, ◌+ℤ◌, is_some, replicate}
use Rattle.std.specs.List.{AllByRecursion}
use Rattle.bpf_insn.specs.declared.reg.Reg.{Reg}
use Rattle.bpf_insn.specs.declared.reg.Reg.TheVariants.{R0, R1, R10}
use Rattle.bpf_insn.specs.declared.insn.Insn.{Insn}
use Rattle.bpf_insn.specs.declared.insn.Insn.TheVariants.{Ja, Ja32, Jump, Exit, Wide}
use Rattle.bpf_insn.specs.declared.rule.CodeRule.{CodeRule}
use Rattle.bpf_insn.specs.declared.rule.CodeRule.TheVariants.{JumpsBack, JumpsNowhere, StackTopWritten, UnsetRead, NumberWanted}
use Rattle.bpf_insn.specs.declared.rule.CodeRule.TheVariants.{PlaceWanted, OutsideStack, UnstoredRead}
use Rattle.bpf_insn.specs.declared.operands.Kind.{Kind}
use Rattle.bpf_insn.specs.declared.operands.Kind.TheVariants as kinds
use Rattle.bpf_insn.specs.declared.operands.Operands.{Operands}
use Rattle.bpf_insn.specs.declared.operands.Operands.TheVariants.{Unary, Binary, Index}
use Rattle.bpf_insn.specs.declared.frame.Frame.{Frame}
use Rattle.bpf_insn.specs.declared.fault.Fault.{Fault}
use Rattle.bpf_insn.specs.declared.machine.run.Ran.TheVariants as outcomes
use Rattle.bpf_insn.specs.Program.{insn_at, slot_count}
use Rattle.bpf_insn.specs.Arithmetic.{holds}
use Rattle.bpf_insn.specs.Reads.{content, are_numbers, number_reads}
use Rattle.bpf_insn.specs.Effects.{number, operand, next_slot, written, new_registers, new_stack}
use Rattle.bpf_insn.specs.Machine as machine
use Rattle.bpf_insn.specs.Machine.{State, Running, Done, kind_of, enter, entry_registers, goes_back, goes_nowhere, begins, IsAfter}
use Rattle.bpf_insn.specs.Machine.{IsStep}
use Rattle.bpf_insn.specs.Run.{Leads}
use Rattle.bpf_insn.proofs.Steps.{no_next}
use Rattle.bpf_insn.proofs.Steps as steps
use Rattle.bpf_insn.proofs.Runs.{all_within, one_outcome}
use Rattle.bpf_insn.proofs.Slots.{begins_first}
use Rattle.bpf_verify.specs.declared.tag.Tag.{Tag}
use Rattle.bpf_verify.specs.Tags as tags
use Rattle.bpf_verify.specs.Tags.{Types, tag, after}
use Rattle.bpf_verify.specs.Paths.{IsIn, targets, IsPath, IsKnown, IsWay}
use Rattle.bpf_verify.specs.Holds.{Agrees, HoldsOf}
use Rattle.bpf_verify.specs.Accepted.{entry_tags, IsSound}
use Rattle.bpf_verify.specs.inner.Pass.{IsGoodTarget}
use Rattle.bpf_verify.specs.inner.Pass.{IsClean}
use Rattle.bpf_verify.proofs.SlotPass.{begins_inside}
use Rattle.bpf_verify.proofs.Stepping.{eleven_on}
use Rattle.bpf_verify.proofs.Agreeing.{reads_set, reads_numbers, reads_places, stays_inside, loads_stored, holds_after}

-- ---- where the machine goes is a target

one_target : (x to : ℤ) (xs : List ℤ) → IsIn x xs → Some x ≡ Some to → IsIn to xs
one_target x to xs h e = let same : x ≡ to = cc in subst (λ y. IsIn y xs) same h

jump_target : (b h : Bool) (x y to : ℤ) → (if b then (if h then Some y else Some x) else None) ≡ Some to
    → IsIn to (x ∷ y ∷ [])
jump_target true true x y to e = one_target y to (x ∷ y ∷ []) (inr (inl refl)) e
jump_target true false x y to e = one_target x to (x ∷ y ∷ []) (inl refl) e
jump_target false h x y to e = absurd (cc)

next_target : (f : Frame) (i : Insn) (to : ℤ) → next_slot f.registers f.slot i ≡ Some to → IsIn to (targets f.slot i)
next_target f Exit to e = absurd (cc)
next_target f (Jump w c l r off) to e = jump_target (are_numbers f.registers (number_reads (Jump w c l r off))) (holds w c (number (content f.registers l)) (operand f.registers r)) (pos (f.slot + 1)) (pos (f.slot + 1) +ℤ off) to e
next_target f (Ja off) to e = one_target (pos (f.slot + 1) +ℤ off) to (targets f.slot (Ja off)) (inl refl) e
next_target f (Ja32 off) to e = one_target (pos (f.slot + 1) +ℤ off) to (targets f.slot (Ja32 off)) (inl refl) e
next_target f (Wide d v) to e = one_target (pos (f.slot + 2)) to (targets f.slot (Wide d v)) (inl refl) e
next_target f i to e = one_target (pos (f.slot + 1)) to (pos (f.slot + 1) ∷ []) (inl refl) e

in_all : (P : ℤ → Type 0) (x : ℤ) (xs : List ℤ) → AllByRecursion P xs → IsIn x xs → P x
in_all P x [] a h = absurd h
in_all P x (y ∷ ys) a (inl e) = subst P (sym e) a.0
in_all P x (y ∷ ys) a (inr h) = in_all P x ys a.1 h

back_none : (insns : List Insn) (slot : ℕ) (o : Option ℤ) → ((to : ℤ) → o ≡ Some to → IsGoodTarget insns slot to)
    → goes_back slot o ≡ false
back_none insns slot None g = refl
back_none insns slot (Some to) g = let t = g to refl in rw t.is_place (let h = t.above in grind arith)

nowhere_none : (insns : List Insn) (slot : ℕ) (o : Option ℤ) → ((to : ℤ) → o ≡ Some to → IsGoodTarget insns slot to)
    → goes_nowhere insns o ≡ false
nowhere_none insns slot None g = refl
nowhere_none insns slot (Some to) g = let t = g to refl in rw t.is_place (ap not t.begin)

pub begins_some : (o : Option Insn) → is_some o ≡ true → (i : Insn) × (o ≡ Some i)
begins_some None e = absurd (cc)
begins_some (Some i) e = (i, refl)

begins_at : (insns : List Insn) (slot : ℕ) (i : Insn) → insn_at insns slot ≡ Some i → begins insns slot ≡ true
begins_at insns slot i e = rw e refl

-- along no way an instruction breaks a rule
abbrev pub NeverBreaks : List Insn → List Tag → Type 0
NeverBreaks insns entry =
    (slot : ℕ) (i : Insn) (k : Types) → insn_at insns slot ≡ Some i → IsWay insns entry slot k → tags.BreaksNone k i

-- a running machine has come along a path, and what is known along it holds of it
pub record IsAlong (insns : List Insn) (entry : List Tag) (f : Frame) : Type 0 where
  pub path : List ℕ
  pub leads : IsPath insns path f.slot
  pub k : Types
  pub known : IsKnown insns entry path k
  pub holds : HoldsOf k f

pub way_of : (insns : List Insn) (entry : List Tag) (f : Frame) (a : IsAlong insns entry f) → IsWay insns entry f.slot a.k
way_of insns entry f a = record { path = a.path; leads = a.leads; known = a.known }

module _ (insns : List Insn) (entry : List Tag) (long : length entry ≡ 11) (clean : IsClean insns) (never : NeverBreaks insns entry) where
  pub steps_unbroken : (f : Frame) (i : Insn) → insn_at insns f.slot ≡ Some i → IsAlong insns entry f → machine.BreaksNone insns f i
  steps_unbroken f i at a = step where
    e : tags.BreaksNone a.k i
    e = never f.slot i a.k at (way_of insns entry f a)

    good : (to : ℤ) → next_slot f.registers f.slot i ≡ Some to → IsGoodTarget insns f.slot to
    good to n = in_all (IsGoodTarget insns f.slot) to (targets f.slot i) (clean f.slot i at).targets_good (next_target f i to n)

    step : (rule : CodeRule) → machine.breaks insns f i rule ≡ false
    step JumpsBack = back_none insns f.slot (next_slot f.registers f.slot i) good
    step JumpsNowhere = nowhere_none insns f.slot (next_slot f.registers f.slot i) good
    step StackTopWritten = (clean f.slot i at).kept
    step UnsetRead = reads_set a.k f i a.holds e
    step NumberWanted = reads_numbers a.k f i a.holds e
    step PlaceWanted = reads_places a.k f i a.holds e
    step OutsideStack = stays_inside a.k f i a.holds e
    step UnstoredRead = loads_stored a.k f i a.holds e
    step _ = refl

  same_insn : (o : Option Insn) (i j : Insn) → o ≡ Some i → o ≡ Some j → i ≡ j
  same_insn o i j e g = cc

  -- a step goes along the path
  pub along_step : (f g : Frame) → IsAlong insns entry f → IsStep insns (Running f) (Running g) → IsAlong insns entry g
  along_step f g a s =
      let i = s.insn in
      let e = never f.slot i a.k s.here (way_of insns entry f a) in
      record {
        path = f.slot ∷ a.path;
        leads = (a.leads, record { insn = i; here = s.here; target = next_target f i (pos g.slot) s.leads.slot });
        k = after a.k i;
        known = (a.k, a.known, record { insn = i; here = s.here; unbroken = e; same = refl });
        holds = holds_after a.k f g i (eleven_on insns entry a.path a.k long a.known) a.holds e s.leads.registers s.leads.stack;
      }

  -- there is a step: the machine is done, or goes up
  abbrev Steps : Frame → Type 0
  Steps f = ((v : ℕ) × IsStep insns (Running f) (Done v)) ⊎ ((g : Frame) × IsStep insns (Running f) (Running g) × (f.slot < g.slot))

  steps_on : (f : Frame) (i : Insn) → insn_at insns f.slot ≡ Some i → IsAlong insns entry f → (o : Option ℤ) → next_slot f.registers f.slot i ≡ o → Steps f
  steps_on f i at a None n =
      let unbroken = steps_unbroken f i at a in
      inl (number (content f.registers R0), record { insn = i; here = at; unbroken = unbroken; leads = (no_next f i (steps.reads_numbers insns f i unbroken) n, refl) })
  steps_on f i at a (Some to) n =
      let t = in_all (IsGoodTarget insns f.slot) to (targets f.slot i) (clean f.slot i at).targets_good (next_target f i to n) in
      let g : Frame = record { slot = t.destination; registers = new_registers f.registers (written f.registers f.stack i); stack = new_stack f.registers f.stack i } in
      inr (g, record { insn = i; here = at; unbroken = steps_unbroken f i at a; leads = record { slot = n ∙ ap Some t.is_place; registers = refl; stack = refl } }, t.above)

  -- the machine comes to an end
  ends : (m : ℕ) (f : Frame) → IsAlong insns entry f → begins insns f.slot ≡ true → slot_count insns ≤ m + f.slot → (v : ℕ) × (n : ℕ) × Leads insns n (Running f) (Done v)
  ends zero f a b h = absurd (omega (arith, begins_inside insns f.slot b))
  ends (suc m) f a b h =
      let i = begins_some (insn_at insns f.slot) b in
      elim (steps_on f i.0 i.1 a (next_slot f.registers f.slot i.0) refl) [
        | inl x ↦ (x.0, 1, (Done x.0, x.1, refl))
        | inr x ↦
            let g = x.0 in
            let up = steps.goes_up insns f g x.1 in
            let r = ends m g (along_step f g a x.1) up.1 (omega (arith, up.0, h)) in
            (r.0, suc r.1, (Running g, x.1, r.2))
      ]

  -- wherever steps lead
  pub along_run : (n : ℕ) (f g : Frame) → IsAlong insns entry f → Leads insns n (Running f) (Running g) → IsAlong insns entry g
  along_run zero f g a l = let same : f ≡ g = cc in subst (λ h. IsAlong insns entry h) same a
  along_run (suc n) f g a (Running h, s, l) = along_run n h g (along_step f h a s) l
  along_run (suc zero) f g a (Done v, s, l) = absurd (cc)
  along_run (suc (suc n)) f g a (Done v, s, l) = absurd l.1

-- ---- the entry

entry_agrees : (operands : Operands) (kind : Kind) → kind_of operands ≡ kind → (r : Reg)
    → Agrees (tag (entry_tags kind) r) (content (entry_registers operands) r)
entry_agrees operands kind e =
    subst (λ q. (r : Reg) → Agrees (tag (entry_tags q) r) (content (entry_registers operands) r)) e (step operands) where
      step : (operands : Operands) (r : Reg) → Agrees (tag (entry_tags (kind_of operands)) r) (content (entry_registers operands) r)
      step (Unary x) R0 = tt
      step (Unary x) R1 = tt
      step (Unary x) R10 = refl
      step (Unary x) _ = tt
      step (Binary x y) R0 = tt
      step (Binary x y) R1 = tt
      step (Binary x y) R10 = refl
      step (Binary x y) _ = tt
      step (Index x row column thunk) R10 = refl
      step (Index x row column thunk) _ = tt

entry_long : (operands : Operands) → length (entry_registers operands) ≡ 11
entry_long (Unary x) = refl
entry_long (Binary x y) = refl
entry_long (Index x row column thunk) = refl

abbrev entry_frame : Operands → Frame
entry_frame operands = record { slot = 0; registers = entry_registers operands; stack = replicate 512 None }

along_entry : (insns : List Insn) (kind : Kind) (operands : Operands) → kind_of operands ≡ kind
    → IsAlong insns (entry_tags kind) (entry_frame operands)
along_entry insns kind operands e = record {
  path = [];
  leads = refl;
  k = record { tags = entry_tags kind; stored = λ byte. false };
  known = refl;
  holds = record { registers = entry_agrees operands kind e; bytes = λ byte s. absurd (cc); eleven = entry_long operands; whole = refl };
}

pub tags_long : (kind : Kind) → length (entry_tags kind) ≡ 11
tags_long kinds.Unary = refl
tags_long kinds.Binary = refl
tags_long kinds.Index = refl

done_not_stuck : (v n : ℕ) (fault : Fault) → outcomes.Stuck fault ≡ outcomes.Done v n → ⊥
done_not_stuck v n fault e = cc

pub sound : (kind : Kind) (insns : List Insn) → 1 ≤ slot_count insns → IsClean insns → NeverBreaks insns (entry_tags kind)
    → IsSound kind insns
sound kind insns some clean never = λ operands e.
    let a = along_entry insns kind operands e in
    let r = ends insns (entry_tags kind) (tags_long kind) clean never (slot_count insns) (entry_frame operands) a (begins_first insns some) (omega arith) in (
      (r.0, r.1, r.2, all_within insns operands some r.1 (Done r.0) r.2),
      λ fault s. done_not_stuck r.0 r.1 fault (one_outcome insns operands (outcomes.Done r.0 r.1) (outcomes.Stuck fault) r.2 s),
    )

pub along_all : (kind : Kind) (insns : List Insn) → IsClean insns → NeverBreaks insns (entry_tags kind)
    → (operands : Operands) (n : ℕ) (f : Frame) → kind_of operands ≡ kind → Leads insns n (enter operands) (Running f)
    → IsAlong insns (entry_tags kind) f
along_all kind insns clean never operands n f e l =
    along_run insns (entry_tags kind) (tags_long kind) clean never n (entry_frame operands) f (along_entry insns kind operands e) l
