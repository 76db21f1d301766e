-- Many cells of a row of B added at once: those whose column takes part, one after another.
use Rattle.std.proofs.Common.{
  ◌≡◌,
  ℕ,
  zero,
  suc,
  ◌<◌,
  get_or,
  ◌+◌,
  ◌*◌,
  ◌≤◌,
  Bool,
  true,
  false,
  if◌then◌else◌,
  List,
  [],
  ◌∷◌,
  ◌++◌,
  Option,
  Some,
  length,
  set,
  refl,
  ap,
  ◌∙◌,
  subst,
  arith,
}
use Rattle.std.proofs.Math.ListN.{length-set}
use Rattle.bpf_insn.specs.declared.operands.Kind.TheVariants as kinds
use Rattle.bpf_verify.specs.Accepted.{Accepted, IsAccepted}
use Rattle.bpf_run.specs.Calls.{steps_of}
use Rattle.bpf_run.proofs.Charging.{steps-append}
use Rattle.csr_store.specs.Grid.{Cell}
use Rattle.csr_store.proofs.Along.{Ascends, ascends-weaken}
use Rattle.row_product.specs.inner.Sums.{slot, after, extra}
use Rattle.row_product.specs.inner.Adding.{taking, sums_after, calls_after}
use Rattle.row_product.proofs.Adding.{Adding, adding_skip, adding_step, extra_few}

pub adding_cells : (add mul : Accepted) (x n : ℕ) (t : ℕ
    → Bool) (first : List (Option ℕ)) (row : List Cell) (sums : List (Option ℕ)) (cs more : List Cell) (steps : ℕ)
    → Adding add mul x n t first row sums (cs ++ more) steps → n ≤ length sums
    → Adding add mul x n t first row (sums_after add mul x sums (taking t cs)) more (steps + steps_of (calls_after add mul x sums
    (taking t cs)))
adding_cells add mul x n t first row sums [] more steps m w = subst (Adding add mul x n t first row sums more) (omega arith) m
adding_cells add mul x n t first row sums (c ∷ cs) more steps m w = by_test (t c.0) refl
    (λ one. adding_cells add mul x n t first row (set sums c.0 (after add mul x (slot sums c.0) (Some c.1))) cs more _ one
    (let l = length-set sums c.0 (after add mul x (slot sums c.0) (Some c.1)) in omega (arith, l, w)))
    (λ one. adding_cells add mul x n t first row sums cs more steps one w)
  where
    v : Option ℕ
    v = after add mul x (slot sums c.0) (Some c.1)

    here : ℕ
    here = steps_of (extra add mul x (slot sums c.0) (Some c.1))

    taken : t c.0 ≡ true → (Adding add mul x n t first row (set sums c.0 v) (cs ++ more) (steps + here) → Adding add mul x n t
        first row (sums_after add mul x (set sums c.0 v) (taking t cs)) more (steps + here + steps_of (calls_after add mul x (set
        sums c.0 v) (taking t cs))))
        → Adding add mul x n t first row (sums_after add mul x sums (c ∷ taking t cs)) more (steps + steps_of (calls_after add mul x
        sums (c ∷ taking t cs)))
    taken p rest =
        let one = adding_step add mul x n t first row sums ((c ∷ cs) ++ more) steps c (cs ++ more) v (set sums c.0 v) here m refl w p
        refl refl refl in
        let s = steps-append (extra add mul x (slot sums c.0) (Some c.1)) (calls_after add mul x (set sums c.0 v) (taking t cs)) in
        subst (Adding add mul x n t first row (sums_after add mul x (set sums c.0 v) (taking t cs)) more) (omega (arith, s))
        (rest one)

    by_test : (b : Bool) → t c.0 ≡ b → (Adding add mul x n t first row (set sums c.0 v) (cs ++ more) (steps + here) → Adding add
        mul x n t first row (sums_after add mul x (set sums c.0 v) (taking t cs)) more (steps + here + steps_of (calls_after add mul x
        (set sums c.0 v) (taking t cs)))) → (Adding add mul x n t first row sums (cs ++ more) steps → Adding add mul x n t first row
        (sums_after add mul x sums (taking t cs)) more (steps + steps_of (calls_after add mul x sums (taking t cs))))
        → Adding add mul x n t first row (sums_after add mul x sums (if b then c ∷ taking t cs else taking t cs)) more (steps
        + steps_of (calls_after add mul x sums (if b then c ∷ taking t cs else taking t cs)))
    by_test true p one none = taken p one
    by_test false p one none = none (adding_skip add mul x n t first row sums ((c ∷ cs) ++ more) steps c (cs ++ more) m refl p)

pub after_few : (add mul : Accepted) (x : ℕ) (sums : List (Option ℕ)) (cs : List Cell) → IsAccepted add → IsAccepted mul
    → add.kind ≡ kinds.Binary → mul.kind ≡ kinds.Binary → steps_of (calls_after add mul x sums cs) ≤ 8192 * length cs
after_few add mul x sums [] a m k l = omega arith
after_few add mul x sums (c ∷ cs) a m k l =
    let v = after add mul x (slot sums c.0) (Some c.1) in
    let s = steps-append (extra add mul x (slot sums c.0) (Some c.1)) (calls_after add mul x (set sums c.0 v) cs) in
    let f = extra_few add mul x c.1 (slot sums c.0) a m k l in
    let r = after_few add mul x (set sums c.0 v) cs a m k l in
    omega (arith, s, f, r)

pub length_after : (add mul : Accepted) (x : ℕ) (sums : List (Option ℕ)) (cs : List Cell)
    → length (sums_after add mul x sums cs) ≡ length sums
length_after add mul x sums [] = refl
length_after add mul x sums (c ∷ cs) = length_after add mul x (set sums c.0 (after add mul x (slot sums c.0) (Some c.1))) cs
    ∙ length-set sums c.0 (after add mul x (slot sums c.0) (Some c.1))

-- all take part
pub taking_all : (t : ℕ → Bool) (cs : List Cell) → ((j : ℕ) → t j ≡ true) → taking t cs ≡ cs
taking_all t [] h = refl
taking_all t (c ∷ cs) h = ap (λ b. if b then c ∷ taking t cs else taking t cs) (h c.0) ∙ ap (λ us. c ∷ us) (taking_all t cs h)

-- those that do are no more, and ascend
pub taking_few : (t : ℕ → Bool) (cs : List Cell) → length (taking t cs) ≤ length cs
taking_few t [] = omega arith
taking_few t (c ∷ cs) = by_test (t c.0) (taking_few t cs)
  where
    by_test : (b : Bool) → length (taking t cs) ≤ length cs → length (if b then c ∷ taking t cs else taking t cs) ≤ suc (length cs)
    by_test true r = omega (arith, r)
    by_test false r = omega (arith, r)

pub taking_ascends : (t : ℕ → Bool) (low high wide : ℕ) (cs : List Cell) → high ≤ wide → Ascends low high cs
    → Ascends low wide (taking t cs)
taking_ascends t low high wide [] w h = tt
taking_ascends t low high wide (c ∷ cs) w h = by_test (t c.0) (taking_ascends t (suc c.0) high wide cs w h.2)
  where
    by_test : (b : Bool) → Ascends (suc c.0) wide (taking t cs) → Ascends low wide (if b then c ∷ taking t cs else taking t cs)
    by_test true rest = let b = h.1 in (h.0, omega (arith, b, w), rest)
    by_test false rest = let a = h.0 in ascends-weaken low (suc c.0) wide (taking t cs) (omega (arith, a)) rest

pub ascends_first : (low high wide : ℕ) (cs ds : List Cell) → high ≤ wide → Ascends low high (cs ++ ds) → Ascends low wide cs
ascends_first low high wide [] ds w h = tt
ascends_first low high wide (c ∷ cs) ds w h = let b = h.1 in (h.0, omega (arith, b, w), ascends_first (suc c.0) high wide cs ds w h.2)

pub ascends_wider : (low high wide : ℕ) (cs : List Cell) → high ≤ wide → Ascends low high cs → Ascends low wide cs
ascends_wider low high wide [] w h = tt
ascends_wider low high wide (c ∷ cs) w h = let b = h.1 in (h.0, omega (arith, b, w), ascends_wider (suc c.0) high wide cs w h.2)

pub ascends_at : (low high : ℕ) (cs : List Cell) (k : ℕ) (d : Cell) → Ascends low high cs → k < length cs → (get_or cs k d).0 < high
ascends_at low high [] k d h l = absurd (omega (arith, l))
ascends_at low high (c ∷ cs) zero d h l = h.1
ascends_at low high (c ∷ cs) (suc k) d h l = ascends_at (suc c.0) high cs k d h.2 (omega (arith, l))
