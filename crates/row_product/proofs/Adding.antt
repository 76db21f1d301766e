-- A row of B, times a word, added to the sums cell by cell: what is still to be added completes the whole.
use Rattle.std.proofs.Common.{◌≡◌, ℕ, suc, ◌+◌, ◌<◌, ◌≤◌, Bool, true, false, cond, List, [], ◌∷◌, ◌++◌, Option, None, Some, length, set, refl, sym, ap, ◌∙◌, subst, inl, inr, arith, get_or-set_other, get_or-set_same}
use Rattle.std.proofs.Math.ListN.{length-set}
use Rattle.std.proofs.lemmas.Bool.{ne_eqb}
use Rattle.std.proofs.lemmas.Bool.Decides.{eqb_tells}
use Rattle.std.specs.FinMap.{get}
use Rattle.bpf_insn.specs.declared.operands.Kind.TheVariants as kinds
use Rattle.bpf_insn.specs.declared.operands.Operands.TheVariants.{Binary}
use Rattle.bpf_verify.specs.Accepted.{Accepted, IsAccepted}
use Rattle.bpf_run.specs.Meaning.{value_of}
use Rattle.bpf_run.specs.Calls.{Call, steps_of}
use Rattle.bpf_run.proofs.Charging.{steps-append, cost-few}
use Rattle.csr_store.specs.Grid.{Grid, Cell, row_of}
use Rattle.csr_store.specs.Along.{along}
use Rattle.csr_store.proofs.Along.{along-same, along-first, along-none, at, at-below, at-first, at-after, Ascends, ascends-weaken}
use Rattle.csr_store.proofs.ByRow.{lookup-row_of}
use Rattle.row_product.specs.inner.Sums.{slot, seen, after, extra}

abbrev pub extras : Accepted → Accepted → ℕ → ℕ → (ℕ → Bool) → List (Option ℕ) → List Cell → List Call
extras add mul x n t sums row = along (λ j. extra add mul x (slot sums j) (seen (t j) (at row j))) 0 n

pub record Adding (add mul : Accepted) (x n : ℕ) (t : ℕ → Bool) (first : List (Option ℕ)) (row : List Cell)
    (sums : List (Option ℕ)) (rest : List Cell) (steps : ℕ) : Type 0 where
  pub ascends : Ascends 0 n rest
  pub len : length sums ≡ length first
  pub slots : (j : ℕ)
      → after add mul x (slot sums j) (seen (t j) (at rest j)) ≡ after add mul x (slot first j) (seen (t j) (at row j))
  pub counted : steps + steps_of (extras add mul x n t sums rest) ≡ steps_of (extras add mul x n t first row)

pub adding_start : (add mul : Accepted) (x n : ℕ) (t : ℕ → Bool) (first : List (Option ℕ)) (row : List Cell) → Ascends 0 n row
    → Adding add mul x n t first row first row 0
adding_start add mul x n t first row h = record { ascends = h; len = refl; slots = λ j. refl; counted = omega arith }

-- what is written at one column
pub slot_same : (sums : List (Option ℕ)) (c : ℕ) (v : Option ℕ) → c < length sums → slot (set sums c v) c ≡ v
slot_same sums c v h = get_or-set_same sums c v None h

pub slot_other : (sums : List (Option ℕ)) (c j : ℕ) (v : Option ℕ) → (j ≡ c → ⊥) → slot (set sums c v) j ≡ slot sums j
slot_other sums c j v h = get_or-set_other sums c j v None h

pub at_other : (cell : Cell) (more : List Cell) (j : ℕ) → (j ≡ cell.0 → ⊥) → at (cell ∷ more) j ≡ at more j
at_other cell more j h = ap (λ b. cond b (Some cell.1) (at more j)) (ne_eqb j cell.0 h)

-- a column that takes nothing
seen_closed : (cell : Cell) (more : List Cell) (t : ℕ → Bool) (j : ℕ) → t cell.0 ≡ false
    → seen (t j) (at (cell ∷ more) j) ≡ seen (t j) (at more j)
seen_closed cell more t j h = elim (eqb_tells j cell.0) [
  | inl d ↦ let e : t j ≡ false = ap t d.1 ∙ h in ap (λ b. seen b (at (cell ∷ more) j)) e ∙ sym (ap (λ b. seen b (at more j)) e)
  | inr d ↦ ap (seen (t j)) (at_other cell more j d.1)
]

pub adding_skip : (add mul : Accepted) (x n : ℕ) (t : ℕ
    → Bool) (first : List (Option ℕ)) (row : List Cell) (sums : List (Option ℕ)) (rest : List Cell) (steps : ℕ) (cell : Cell) (more
    : List Cell)
    → Adding add mul x n t first row sums rest steps → rest ≡ cell ∷ more → t cell.0 ≡ false
    → Adding add mul x n t first row sums more steps
adding_skip add mul x n t first row sums rest steps cell more m e h =
    let a : Ascends 0 n (cell ∷ more) = subst (Ascends 0 n) e m.ascends in
    let same : extras add mul x n t sums rest ≡ extras add mul x n t sums more =
    ap (λ us. extras add mul x n t sums us) e
    ∙ along-same (λ j. extra add mul x (slot sums j) (seen (t j) (at (cell ∷ more) j))) (λ j. extra add mul x (slot sums j) (seen
    (t j) (at more j))) 0 n
    (λ j l u. ap (extra add mul x (slot sums j)) (seen_closed cell more t j h)) in
    record {
      ascends = ascends-weaken 0 (suc cell.0) n more (omega arith) a.2;
      len = m.len;
      slots = λ j. ap (after add mul x (slot sums j)) (sym (seen_closed cell more t j h))
          ∙ (ap (λ us. after add mul x (slot sums j) (seen (t j) (at us j))) (sym e) ∙ m.slots j);
      counted = let c = m.counted in let s = ap steps_of same in omega (arith, c, s);
    }

-- the calls at the first cell come first
extras_first : (add mul : Accepted) (x n : ℕ) (t : ℕ
    → Bool) (sums : List (Option ℕ)) (cell : Cell) (more : List Cell) (v : Option ℕ) → Ascends 0 n (cell ∷ more) → t cell.0 ≡ true
    → extras add mul x n t sums (cell ∷ more) ≡ extra add mul x (slot sums cell.0) (Some cell.1) ++ extras add mul x n t (set sums
    cell.0 v) more
extras_first add mul x n t sums cell more v h p =
    along-first (λ j. extra add mul x (slot sums j) (seen (t j) (at (cell ∷ more) j))) (λ j. extra add mul x (slot (set sums cell.0
    v) j) (seen (t j) (at more j))) 0 n cell.0 (omega arith) (let b = h.1 in omega arith)
    (λ j l. ap (λ o. extra add mul x (slot sums j) (seen (t j) o)) (at-below cell.0 n (cell ∷ more) j (omega arith, h.1, h.2) l)
    ∙ nothing add mul x (slot sums j) (t j))
    (λ j l. ap (λ o. extra add mul x (slot (set sums cell.0 v) j) (seen (t j) o)) (at-below (suc cell.0) n more j h.2 (omega
    arith)) ∙ nothing add mul x (slot (set sums cell.0 v) j) (t j))
    (λ j l. ap (λ o. extra add mul x (slot sums j) (seen (t j) o)) (at-after cell more j l)
    ∙ ap (λ s. extra add mul x s (seen (t j) (at more j))) (sym (slot_other sums cell.0 j v (λ q. omega arith))))
    ∙ ap (λ o. extra add mul x (slot sums cell.0) o ++ extras add mul x n t (set sums cell.0 v) more)
    (ap (λ b. seen b (at (cell ∷ more) cell.0)) p ∙ at-first cell more)
  where
    nothing : (add mul : Accepted) (x : ℕ) (s : Option ℕ) (b : Bool) → extra add mul x s (seen b None) ≡ []
    nothing add mul x s true = refl
    nothing add mul x s false = refl

slots_step : (add mul : Accepted) (x n : ℕ) (t : ℕ
    → Bool) (sums : List (Option ℕ)) (cell : Cell) (more : List Cell) (v : Option ℕ) → Ascends 0 n (cell ∷ more)
    → t cell.0 ≡ true → cell.0 < length sums
    → v ≡ after add mul x (slot sums cell.0) (Some cell.1)
    → (j : ℕ) → after add mul x (slot (set sums cell.0 v) j) (seen (t j) (at more j)) ≡ after add mul x (slot sums j) (seen (t j)
    (at (cell ∷ more) j))
slots_step add mul x n t sums cell more v h p b w j = elim (eqb_tells cell.0 j) [
  | inl d ↦ subst (λ k. after add mul x (slot (set sums cell.0 v) k) (seen (t k) (at more k)) ≡ after add mul x (slot sums k) (seen
      (t k) (at (cell ∷ more) k))) d.1
      (ap (λ o. after add mul x o (seen (t cell.0) (at more cell.0))) (slot_same sums cell.0 v b)
      ∙ (ap (λ o. after add mul x v (seen (t cell.0) o)) (at-below (suc cell.0) n more cell.0 h.2 (omega arith))
      ∙ (ap (λ q. after add mul x v (seen q None)) p
      ∙ (w ∙ (ap (after add mul x (slot sums cell.0)) (sym (at-first cell more))
      ∙ ap (λ q. after add mul x (slot sums cell.0) (seen q (at (cell ∷ more) cell.0))) (sym p))))))
  | inr d ↦ ap (λ o. after add mul x o (seen (t j) (at more j))) (slot_other sums cell.0 j v (λ q. d.1 (sym q)))
      ∙ ap (λ o. after add mul x (slot sums j) (seen (t j) o)) (sym (at_other cell more j (λ q. d.1 (sym q))))
]

pub adding_step : (add mul : Accepted) (x n : ℕ) (t : ℕ
    → Bool) (first : List (Option ℕ)) (row : List Cell) (sums : List (Option ℕ)) (rest : List Cell) (steps : ℕ) (cell : Cell) (more
    : List Cell) (v : Option ℕ) (then : List (Option ℕ)) (cost : ℕ)
    → Adding add mul x n t first row sums rest steps → rest ≡ cell ∷ more → n ≤ length sums → t cell.0 ≡ true
    → v ≡ after add mul x (slot sums cell.0) (Some cell.1)
    → cost ≡ steps_of (extra add mul x (slot sums cell.0) (Some cell.1)) → then ≡ set sums cell.0 v
    → Adding add mul x n t first row then more (steps + cost)
adding_step add mul x n t first row sums rest steps cell more v then cost m e le p w k s =
    let a : Ascends 0 n (cell ∷ more) = subst (Ascends 0 n) e m.ascends in
    let b = a.1 in
    let in_range : cell.0 < length sums = omega arith in
    let c = m.counted in
    let first_is = extras_first add mul x n t sums cell more v a p in
    let qs = ap (λ us. steps_of (extras add mul x n t sums us)) e in
    let fs = ap steps_of first_is in
    let ts = ap (λ us. steps_of (extras add mul x n t us more)) s in
    let sp = steps-append (extra add mul x (slot sums cell.0) (Some cell.1)) (extras add mul x n t (set sums cell.0 v) more) in
    record {
      ascends = ascends-weaken 0 (suc cell.0) n more (omega arith) a.2;
      len = ap length s ∙ (length-set sums cell.0 v ∙ m.len);
      slots = λ j. ap (λ us. after add mul x (slot us j) (seen (t j) (at more j))) s
          ∙ (slots_step add mul x n t sums cell more v a p in_range w j
          ∙ (ap (λ us. after add mul x (slot sums j) (seen (t j) (at us j))) (sym e) ∙ m.slots j));
      counted = omega (arith, c, qs, fs, ts, sp, k);
    }

pub adding_end : (add mul : Accepted) (x n : ℕ) (t : ℕ
    → Bool) (first : List (Option ℕ)) (b : Grid) (i : ℕ) (row : List Cell) (sums : List (Option ℕ)) (rest : List Cell) (steps : ℕ)
    → Adding add mul x n t first row sums rest steps → rest ≡ [] → row ≡ row_of b i
    → ((j : ℕ) → slot sums j ≡ after add mul x (slot first j) (seen (t j) (get b.cells (i, j))))
    × (steps ≡ steps_of (along (λ j. extra add mul x (slot first j) (seen (t j) (get b.cells (i, j)))) 0 n))
adding_end add mul x n t first b i row sums rest steps m e is =
    let there = λ (j : ℕ). ap (λ us. at us j) is ∙ lookup-row_of b i j in
    let k = m.counted in
    let z = ap (λ us. steps_of (extras add mul x n t sums us)) e
    ∙ ap steps_of (along-none (λ j. extra add mul x (slot sums j) (seen (t j) None)) 0 n (λ j. blank add mul x (slot sums j) (t
    j))) in
    let w = ap steps_of (along-same (λ j. extra add mul x (slot first j) (seen (t j) (at row j))) (λ j. extra add mul x (slot first
    j) (seen (t j) (get b.cells (i, j)))) 0 n
    (λ j l u. ap (λ o. extra add mul x (slot first j) (seen (t j) o)) (there j))) in (
      λ j. sym (ap (λ us. after add mul x (slot sums j) (seen (t j) (at us j))) e ∙ kept add mul x (slot sums j) (t j))
          ∙ (m.slots j ∙ ap (λ o. after add mul x (slot first j) (seen (t j) o)) (there j)),
      omega (arith, k, z, w),
    )
  where
    blank : (add mul : Accepted) (x : ℕ) (s : Option ℕ) (b : Bool) → extra add mul x s (seen b None) ≡ []
    blank add mul x s true = refl
    blank add mul x s false = refl

    kept : (add mul : Accepted) (x : ℕ) (s : Option ℕ) (b : Bool) → after add mul x s (seen b None) ≡ s
    kept add mul x s true = refl
    kept add mul x s false = refl

-- the calls for a term take few steps
pub extra_few : (add mul : Accepted) (x y : ℕ) (so_far : Option ℕ) → IsAccepted add → IsAccepted mul → add.kind ≡ kinds.Binary
    → mul.kind ≡ kinds.Binary → steps_of (extra add mul x so_far (Some y)) ≤ 8192
extra_few add mul x y None a m k l = let c = cost-few mul (Binary x y) m (sym l) in omega (arith, c)
extra_few add mul x y (Some s) a m k l =
    let c = cost-few mul (Binary x y) m (sym l) in
    let d = cost-few add (Binary s (value_of mul (Binary x y))) a (sym k) in
    omega (arith, c, d)
