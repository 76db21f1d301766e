-- Steps of lists of calls, and charges for some of them.
use Rattle.std.proofs.Common.{◌≡◌, ◌≤◌, ◌+◌, ◌*◌, ℕ, List, length, [], ◌∷◌, ◌++◌, refl, sym, ap, subst, arith, inl, inr}
use Rattle.bpf_insn.specs.declared.operands.Kind.TheVariants as kinds
use Rattle.bpf_insn.specs.declared.operands.Operands.{Operands}
use Rattle.bpf_insn.specs.declared.operands.Operands.TheVariants.{Binary, Unary}
use Rattle.bpf_insn.specs.Machine.{kind_of}
use Rattle.bpf_verify.specs.Accepted.{Accepted, IsAccepted}
use Rattle.bpf_run.specs.Meaning.{value_of, cost_of}
use Rattle.bpf_run.specs.Calls.{Call, call_of, steps_of, Charges, calls_on, values_on, pairs_with, words_of}
use Rattle.bpf_run.proofs.Meaning.{has_value}
use Rattle.bpf_run.proofs.Calling.{few_steps}

-- ---- sums

pub steps-append : (cs ds : List Call) → steps_of (cs ++ ds) ≡ steps_of cs + steps_of ds
steps-append [] ds = omega arith
steps-append (c ∷ cs) ds = let h = steps-append cs ds in omega arith

pub steps-le-append : (cs ds : List Call) → steps_of cs ≤ steps_of (cs ++ ds)
steps-le-append cs ds = let h = steps-append cs ds in omega arith

pub values_on-append : (f : Accepted) (os ps : List Operands) → values_on f (os ++ ps) ≡ values_on f os ++ values_on f ps
values_on-append f [] ps = refl
values_on-append f (o ∷ os) ps = ap (λ vs. value_of f o ∷ vs) (values_on-append f os ps)

pub calls_on-append : (f : Accepted) (os ps : List Operands) → calls_on f (os ++ ps) ≡ calls_on f os ++ calls_on f ps
calls_on-append f [] ps = refl
calls_on-append f (o ∷ os) ps = ap (λ cs. call_of f o ∷ cs) (calls_on-append f os ps)

-- ---- charges

pub charges-none : (cs : List Call) (n : ℕ) → Charges cs n n
charges-none [] n = refl
charges-none (c ∷ cs) n = inl (charges-none cs n)

pub charges-all : (cs : List Call) (old new : ℕ) → new ≡ old + steps_of cs → Charges cs old new
charges-all [] old new e = omega arith
charges-all (c ∷ cs) old new e = inr (charges-all cs (old + cost_of c.operator c.operands) new (omega arith))

pub charges-append : (cs ds : List Call) (old mid new : ℕ) → Charges cs old mid → Charges ds mid new → Charges (cs ++ ds) old new
charges-append [] ds old mid new h k = subst (λ n. Charges ds n new) (sym h) k
charges-append (c ∷ cs) ds old mid new h k = elim h [
  | inl a ↦ inl (charges-append cs ds old mid new a k)
  | inr a ↦ inr (charges-append cs ds (old + cost_of c.operator c.operands) mid new a k)
]

-- the first of them are all charged, and so many of the others as before
pub charges-behind : (cs ds : List Call) (old new : ℕ) → Charges ds (old + steps_of cs) new → Charges (cs ++ ds) old new
charges-behind cs ds old new h = charges-append cs ds old (old + steps_of cs) new (charges-all cs old (old + steps_of cs) refl) h

-- none of the last are charged
pub charges-before : (cs ds : List Call) (old new : ℕ) → Charges cs old new → Charges (cs ++ ds) old new
charges-before cs ds old new h = charges-append cs ds old new new h (charges-none ds new)

-- never more than all of them
pub charges-le : (cs : List Call) (old new : ℕ) → Charges cs old new → new ≤ old + steps_of cs
charges-le [] old new h = omega arith
charges-le (c ∷ cs) old new h = elim h [
  | inl a ↦ le_left (charges-le cs old new a)
  | inr a ↦ le_right (charges-le cs (old + cost_of c.operator c.operands) new a)
]
  where
    le_left : new ≤ old + steps_of cs → new ≤ old + (cost_of c.operator c.operands + steps_of cs)
    le_left k = omega arith

    le_right : new ≤ (old + cost_of c.operator c.operands) + steps_of cs → new ≤ old + (cost_of c.operator c.operands + steps_of cs)
    le_right k = omega arith

-- ---- calls are made from a list: those that are left complete the whole

pub record Spends (all : List Call) (old : ℕ) (left : List Call) (steps : ℕ) : Type 0 where
  pub counted : steps + steps_of left ≡ old + steps_of all
  pub charged : (new : ℕ) → Charges left steps new → Charges all old new

pub spends-start : (all : List Call) (old : ℕ) → Spends all old all old
spends-start all old = record { counted = refl; charged = λ new h. h }

-- what is left of what is left
pub spends-further : (all : List Call) (old : ℕ) (left : List Call) (steps : ℕ) (rest : List Call) (more : ℕ)
    → Spends all old left steps
    → Spends left steps rest more → Spends all old rest more
spends-further all old left steps rest more h k =
    let a = h.counted in
    let b = k.counted in
    record { counted = omega arith; charged = λ new c. h.charged new (k.charged new c) }

-- the first of those that are left are made
pub spends-step : (all : List Call) (old : ℕ) (left : List Call) (steps : ℕ) (made rest : List Call) (more : ℕ)
    → Spends all old left steps
    → left ≡ made ++ rest → more ≡ steps + steps_of made → Spends all old rest more
spends-step all old left steps made rest more h is e =
    let k = h.counted in
    let s = ap steps_of is in
    let a = steps-append made rest in
    record {
      counted = omega arith;
      charged = λ new c. h.charged new (subst (λ cs. Charges cs steps new) (sym is)
          (charges-behind made rest steps new (subst (λ n. Charges rest n new) e c)));
    }

-- some of the first of those that are left are made, and no more
pub spends-stop : (all : List Call) (old : ℕ) (left : List Call) (steps : ℕ) (made rest : List Call) (more : ℕ)
    → Spends all old left steps
    → left ≡ made ++ rest → Charges made steps more → Charges all old more
spends-stop all old left steps made rest more h is c =
    h.charged more (subst (λ cs. Charges cs steps more) (sym is) (charges-before made rest steps more c))

-- no more are made
pub spends-none : (all : List Call) (old : ℕ) (left : List Call) (steps : ℕ) → Spends all old left steps → Charges all old steps
spends-none all old left steps h = h.charged steps (charges-none left steps)

pub spends-end : (all : List Call) (old : ℕ) (left : List Call) (steps : ℕ) → Spends all old left steps → left ≡ []
    → steps ≡ old + steps_of all
spends-end all old left steps h e = let k = h.counted in let s = ap steps_of e in omega arith

-- the steps so far, and those of the first calls that are left, are no more than all
pub spends-room : (all : List Call) (old : ℕ) (left : List Call) (steps : ℕ) (made rest : List Call) → Spends all old left steps
    → left ≡ made ++ rest → steps + steps_of made ≤ old + steps_of all
spends-room all old left steps made rest h is =
    let k = h.counted in let s = ap steps_of is in let a = steps-append made rest in omega arith

-- ---- a call of an accepted operator takes at most 4096 steps

pub cost-few : (f : Accepted) (o : Operands) → IsAccepted f → kind_of o ≡ f.kind → cost_of f o ≤ 4096
cost-few f o a k = let h = (has_value f o a k).1 in let l = few_steps f a in omega arith

pub with_few : (f : Accepted) (x : ℕ) (cs : List (ℕ × ℕ)) → IsAccepted f → f.kind ≡ kinds.Binary
    → steps_of (calls_on f (pairs_with x cs)) ≤ 4096 * length cs
with_few f x [] a k = omega arith
with_few f x (c ∷ cs) a k =
    let h = cost-few f (Binary x c.1) a (sym k) in
    let r = with_few f x cs a k in
    omega (arith, h, r)

pub words_few : (f : Accepted) (cs : List (ℕ × ℕ)) → IsAccepted f → f.kind ≡ kinds.Unary → steps_of (calls_on f (words_of cs)) ≤ 4096 * length cs
words_few f [] a k = omega arith
words_few f (c ∷ cs) a k =
    let h = cost-few f (Unary c.1) a (sym k) in
    let r = words_few f cs a k in
    omega (arith, h, r)
