-- The calls of a job take no more steps than their operators have instructions.
use Rattle.std.proofs.Common.{◌≡◌, ◌≤◌, ◌&&◌, ℕ, zero, suc, Bool, true, false, cond, List, [], ◌∷◌, ◌++◌, Option, None, Some}
use Rattle.std.proofs.Common.{refl, ◌∙◌, arith}
use Rattle.std.specs.FinMap.{get}
use Rattle.std.specs.List.{AllByRecursion}
use Rattle.bpf_insn.specs.declared.operands.Operands.{Operands}
use Rattle.bpf_insn.specs.declared.operands.Operands.TheVariants.{Binary}
use Rattle.bpf_insn.specs.declared.operands.Kind.{Kind}
use Rattle.bpf_insn.specs.declared.operands.Kind.TheVariants as kinds
use Rattle.bpf_insn.specs.Machine.{kind_of}
use Rattle.bpf_verify.specs.Accepted.{Accepted, IsAccepted}
use Rattle.bpf_run.specs.Calls.{Call, call_of, steps_of, bound_of}
use Rattle.bpf_run.specs.Meaning.{value_of}
use Rattle.bpf_run.specs.Fold.{fold_calls, fold_calls_from}
use Rattle.bpf_run.proofs.Charging.{steps-append}
use Rattle.bpf_run.proofs.Meaning.{has_value}
use Rattle.csr_store.specs.Grid.{Grid, Position, Cell, row_of}
use Rattle.csr_store.specs.Along.{along}
use Rattle.csr_store.specs.Mask.{passes, cut_list}
use Rattle.job_forms.specs.Forms as entry
use Rattle.job_forms.specs.Product.{term_calls, terms, mul_calls}
use Rattle.job_plan.specs.Job.{Form, Job, Apply, Select, Union, Both, Product, Reduce}
use Rattle.job_plan.specs.Kept.{IsForm}
use Rattle.job_plan.specs.Forms.{operation, same_kind, is_of, kind_with}
use Rattle.job_plan.specs.Refusal.{IsPriced}
use Rattle.job_plan.specs.inner.Refusal.{Passes}
use Rattle.job_plan.specs.Meaning.{steps_in, bound_in}
use Rattle.job_plan.specs.Price.{IsWithinPrice}
use Rattle.job_plan.proofs.Bounds.{bound-append, bound_within}
use Rattle.job_plan.proofs.Faults.{passes as all_pass}

-- calls that take no more steps than their bound
abbrev AreCheap : List Call → Type 0
AreCheap cs = steps_of cs ≤ bound_of cs

cheap-append : (cs ds : List Call) → AreCheap cs → AreCheap ds → AreCheap (cs ++ ds)
cheap-append cs ds h k = omega (arith, steps-append cs ds, bound-append cs ds)

cheap_along : (calls : ℕ → List Call) (from n : ℕ) → ((i : ℕ) → AreCheap (calls i)) → AreCheap (along calls from n)
cheap_along calls from zero h = omega arith
cheap_along calls from (suc n) h = cheap-append (calls from) (along calls (suc from) n) (h from) (cheap_along calls (suc from) n h)

-- an operator that may be called on operands
cheap_call : (f : Accepted) (operands : Operands) → IsAccepted f → kind_of operands ≡ f.kind → AreCheap (call_of f operands ∷ [])
cheap_call f operands a k = let h = (has_value f operands a k).1 in omega arith

pub same_kind-is : (k l : Kind) → same_kind k l ≡ true → k ≡ l
same_kind-is kinds.Unary kinds.Unary h = refl
same_kind-is kinds.Binary kinds.Binary h = refl
same_kind-is kinds.Index kinds.Index h = refl
same_kind-is kinds.Unary kinds.Binary h = absurd (cc)
same_kind-is kinds.Unary kinds.Index h = absurd (cc)
same_kind-is kinds.Binary kinds.Unary h = absurd (cc)
same_kind-is kinds.Binary kinds.Index h = absurd (cc)
same_kind-is kinds.Index kinds.Unary h = absurd (cc)
same_kind-is kinds.Index kinds.Binary h = absurd (cc)

kind_at : (thunk : Option ℕ) (at : Position) (x : ℕ) → kind_of (entry.operands_at thunk at x) ≡ kind_with thunk
kind_at None at x = refl
kind_at (Some t) at x = refl

cheap_apply : (f : Accepted) (thunk : Option ℕ) (at : Position) (o : Option ℕ) → IsAccepted f → kind_with thunk ≡ f.kind
    → AreCheap (entry.apply_calls f thunk at o)
cheap_apply f thunk at None a k = omega arith
cheap_apply f thunk at (Some x) a k = cheap_call f (entry.operands_at thunk at x) a (kind_at thunk at x ∙ k)

cheap_joint : (f : Accepted) (p q : Option ℕ) → IsAccepted f → kinds.Binary ≡ f.kind → AreCheap (entry.joint_calls f p q)
cheap_joint f None q a k = omega arith
cheap_joint f (Some x) None a k = omega arith
cheap_joint f (Some x) (Some y) a k = cheap_call f (Binary x y) a k

cheap_fold_from : (f : Accepted) (so_far : ℕ) (ts : List ℕ) → IsAccepted f → kinds.Binary ≡ f.kind
    → AreCheap (fold_calls_from f so_far ts)
cheap_fold_from f so_far [] a k = omega arith
cheap_fold_from f so_far (t ∷ ts) a k =
    cheap-append (call_of f (Binary so_far t) ∷ []) (fold_calls_from f (value_of f (Binary so_far t)) ts)
    (cheap_call f (Binary so_far t) a k)
    (cheap_fold_from f (value_of f (Binary so_far t)) ts a k)

cheap_fold : (f : Accepted) (ts : List ℕ) → IsAccepted f → kinds.Binary ≡ f.kind → AreCheap (fold_calls f ts)
cheap_fold f [] a k = omega arith
cheap_fold f (t ∷ ts) a k = cheap_fold_from f t ts a k

cheap_mul : (mul : Accepted) (b : Grid) (cs : List Cell) (j : ℕ) → IsAccepted mul → kinds.Binary ≡ mul.kind
    → AreCheap (mul_calls mul b cs j)
cheap_mul mul b [] j a k = omega arith
cheap_mul mul b (c ∷ cs) j a k =
    cheap-append (term_calls mul c.1 (get b.cells (c.0, j))) (mul_calls mul b cs j) (one (get b.cells (c.0, j)))
    (cheap_mul mul b cs j a k)
  where
    one : (o : Option ℕ) → AreCheap (term_calls mul c.1 o)
    one None = omega arith
    one (Some y) = cheap_call mul (Binary c.1 y) a k

pub both_true : (a b : Bool) → (a && b) ≡ true → (a ≡ true) × (b ≡ true)
both_true true true h = (refl, refl)
both_true true false h = absurd (cc)
both_true false b h = absurd (cc)

cheap_at : (form : Form) → IsForm form → (operation form).kinds ≡ true → (at : Position) → AreCheap ((operation form).calls_at at)
cheap_at (Apply f thunk a) g k at = cheap_apply f thunk at (get a.cells at) g.0.0 (same_kind-is _ _ k)
cheap_at (Select f thunk a) g k at = cheap_apply f (Some thunk) at (get a.cells at) g.0.0 (same_kind-is _ _ k)
cheap_at (Union f a b) g k at = cheap_joint f (get a.cells at) (get b.cells at) g.0.0 (same_kind-is _ _ k)
cheap_at (Both f a b) g k at = cheap_joint f (get a.cells at) (get b.cells at) g.0.0 (same_kind-is _ _ k)
cheap_at (Product add mul a b) g k at =
    let t = both_true (is_of kinds.Binary add) (is_of kinds.Binary mul) k in
    cheap-append (mul_calls mul b (row_of a at.0) at.1) (fold_calls add (terms mul b (row_of a at.0) at.1))
    (cheap_mul mul b (row_of a at.0) at.1 g.0.1.0 (same_kind-is _ _ t.1))
    (cheap_fold add (terms mul b (row_of a at.0) at.1) g.0.0 (same_kind-is _ _ t.0))
cheap_at (Reduce f a) g k at = cheap_fold f (entry.row_words a at.0) g.0.0 (same_kind-is _ _ k)

cheap_cut : (mask : Option Grid) (lists : Position → List Call) (at : Position) → AreCheap (lists at)
    → AreCheap (cut_list mask lists at)
cheap_cut mask lists at h = elim (passes mask at) as (λ b. AreCheap (cond b (lists at) [])) [ true ↦ h | false ↦ omega arith ]

steps_within : (job : Job) → Passes job → (first n : ℕ) → steps_in job first n ≤ bound_in job first n
steps_within job p first n =
    cheap_along _ first n (λ i. cheap_along _ 0 (operation job.form).columns
    (λ j. cheap_cut job.mask (operation job.form).calls_at (i, j) (cheap_at job.form p.form p.kinds (i, j))))

pub within_price : (job : Job) → IsPriced job → IsWithinPrice job
within_price job p = let q = all_pass job p in record { steps = steps_within job q; bound = bound_within job q }

pub all_within : (jobs : List Job) → AllByRecursion IsPriced jobs → AllByRecursion IsWithinPrice jobs
all_within [] h = _
all_within (job ∷ jobs) h = (within_price job h.0, all_within jobs h.1)
