-- Terms in the order of their columns, folded one after the other: a cell for each column, with the fold of its words.
use Rattle.std.proofs.Common.{◌≡◌, ℕ, suc, ◌+◌, ◌<◌, ◌≤◌, Bool, true, false, List, [], ◌∷◌, ◌++◌, None, ltb, eq-eqb, refl, sym, ap, ◌∙◌, subst, inl, inr, ◌⊎◌, arith, if◌then◌else◌}
use Rattle.std.proofs.lemmas.Bool.{ne_eqb, cases_lt}
use Rattle.std.proofs.lemmas.Bool.Decides.{eqb_tells}
use borrow.Author.Tests.{ltb-true, ltb-false}
use Rattle.std.specs.Prelude.{nat_eq}
use Rattle.bpf_insn.specs.declared.operands.Operands.TheVariants.{Binary}
use Rattle.bpf_verify.specs.Accepted.{Accepted}
use Rattle.bpf_run.specs.Calls.{Call, call_of, steps_of}
use Rattle.bpf_run.proofs.Charging.{steps-append}
use Rattle.bpf_run.specs.Fold.{fold, fold_calls}
use Rattle.bpf_run.specs.Meaning.{value_of}
use Rattle.csr_store.specs.Along.{along, cell_at, row_by}
use Rattle.csr_store.specs.Grid.{Cell, IsGrid, row_of}
use Rattle.csr_store.specs.Mask.{mask_of, passes, cut, cut_list}
use Rattle.csr_store.proofs.Along.{Ascends, along-first, along-none, along-same, row_by-ascends}
use Rattle.job_forms.specs.Product.{terms, mul_calls, product_at, product_calls_at}
use Rattle.row_product.specs.declared.factors.MaskedFactors.{MaskedFactors}
use Rattle.row_product.specs.inner.Masked.{row_of_product, calls_of_row}
use Rattle.row_product.specs.inner.SortedAccumulator.{words_at, Climbs, folded_on, folded_calls_on, folded, folded_calls, listed_terms, listed_calls}
use Rattle.row_product.proofs.Gathering.{steps-along-sum}
use Rattle.row_product.proofs.Listed.{words_other, words_same, words_listed, steps_listed}

-- below the first column there is nothing
words_before : (low n : ℕ) (cs : List Cell) (j : ℕ) → Climbs low n cs → j < low → words_at cs j ≡ []
words_before low n [] j h l = refl
words_before low n (c ∷ cs) j h l =
    let a = h.0 in
    words_other c cs j (λ q. omega (arith, q, a, l)) ∙ words_before c.0 n cs j h.2 (omega (arith, a, l))

climbs_weaken : (low high n : ℕ) (cs : List Cell) → low ≤ high → Climbs high n cs → Climbs low n cs
climbs_weaken low high n [] l h = tt
climbs_weaken low high n (c ∷ cs) l h = (let a = h.0 in omega (arith, a, l), h.1, h.2)

-- two terms of one column are one, which is what they come to
module _ (add : Accepted) (p c : Cell) (cs : List Cell) (same : c.0 ≡ p.0) where
  abbrev pub merged : Cell
  merged = (p.0, value_of add (Binary p.1 c.1))

  behind : words_at (c ∷ cs) p.0 ≡ c.1 ∷ words_at cs p.0
  behind = subst (λ k. words_at (c ∷ cs) k ≡ c.1 ∷ words_at cs k) same (words_same c cs)

  pub here : words_at (p ∷ c ∷ cs) p.0 ≡ p.1 ∷ c.1 ∷ words_at cs p.0
  here = words_same p (c ∷ cs) ∙ ap (λ us. p.1 ∷ us) behind

  pub there : (j : ℕ) → (j ≡ p.0 → ⊥) → words_at (p ∷ c ∷ cs) j ≡ words_at (merged ∷ cs) j
  there j n = words_other p (c ∷ cs) j n ∙ (words_other c cs j (λ q. n (q ∙ same)) ∙ sym (words_other merged cs j n))

  pub same_value : (j : ℕ) → fold add (words_at (p ∷ c ∷ cs) j) ≡ fold add (words_at (merged ∷ cs) j)
  same_value j = elim (eqb_tells j p.0) [
    | inl d ↦ subst (λ k. fold add (words_at (p ∷ c ∷ cs) k) ≡ fold add (words_at (merged ∷ cs) k)) (sym d.1)
        (ap (fold add) here ∙ sym (ap (fold add) (words_same merged cs)))
    | inr d ↦ ap (fold add) (there j d.1)
  ]

-- a further term, at the open column or behind it
module _ (add : Accepted) (p c : Cell) (cs : List Cell) where
  pub fold_same : c.0 ≡ p.0 → folded_on add p (c ∷ cs) ≡ folded_on add (p.0, value_of add (Binary p.1 c.1)) cs
  fold_same e =
      ap (λ (q : Bool). if q then folded_on add (p.0, value_of add (Binary p.1 c.1)) cs else p ∷ folded_on add c cs) (eq-eqb c.0 p.0 e)

  pub fold_other : (c.0 ≡ p.0 → ⊥) → folded_on add p (c ∷ cs) ≡ p ∷ folded_on add c cs
  fold_other n =
      ap (λ (q : Bool). if q then folded_on add (p.0, value_of add (Binary p.1 c.1)) cs else p ∷ folded_on add c cs) (ne_eqb c.0 p.0 n)

  pub calls_same : c.0 ≡ p.0
      → folded_calls_on add p (c ∷ cs) ≡ call_of add (Binary p.1 c.1) ∷ folded_calls_on add (p.0, value_of add (Binary p.1 c.1)) cs
  calls_same e =
      ap (λ (q : Bool). if q then call_of add (Binary p.1 c.1) ∷ folded_calls_on add (p.0, value_of add (Binary p.1 c.1)) cs
      else folded_calls_on add c cs) (eq-eqb c.0 p.0 e)

  pub calls_other : (c.0 ≡ p.0 → ⊥) → folded_calls_on add p (c ∷ cs) ≡ folded_calls_on add c cs
  calls_other n =
      ap (λ (q : Bool). if q then call_of add (Binary p.1 c.1) ∷ folded_calls_on add (p.0, value_of add (Binary p.1 c.1)) cs
      else folded_calls_on add c cs) (ne_eqb c.0 p.0 n)

-- columns above one
abbrev above : {T : Type 0} → ℕ → (ℕ → List T) → ℕ → List T
above p g j = if ltb p j then g j else []

above_not : {T : Type 0} (p : ℕ) (g : ℕ → List T) (j : ℕ) → j ≤ p → above p g j ≡ []
above_not p g j l = by_test (ltb p j) refl
  where
    by_test : (b : Bool) → ltb p j ≡ b → (if b then g j else []) ≡ []
    by_test true e = absurd (let t = ltb-true _ _ e in omega (arith, t, l))
    by_test false e = refl

above_is : {T : Type 0} (p : ℕ) (g : ℕ → List T) (j : ℕ) → p < j → g j ≡ above p g j
above_is p g j l = by_test (ltb p j) refl
  where
    by_test : (b : Bool) → ltb p j ≡ b → g j ≡ (if b then g j else [])
    by_test true e = refl
    by_test false e = absurd (let t = ltb-false _ _ e in omega (arith, t, l))

-- the first column comes first
first_then : {T : Type 0} (g h : ℕ → List T) (n p : ℕ) → p < n → ((j : ℕ) → j < p → g j ≡ []) → ((j : ℕ) → j ≤ p → h j ≡ [])
    → ((j : ℕ) → p < j → g j ≡ h j) → along g 0 n ≡ g p ++ along h 0 n
first_then g h n p l a b e = along-first g h 0 n p (omega arith) (omega (arith, l)) a b e

above_it : (p c : Cell) → p.0 ≤ c.0 → (c.0 ≡ p.0 → ⊥) → p.0 < c.0
above_it p c a ne = elim (cases_lt p.0 c.0) [
  | inl l ↦ l
  | inr l ↦ absurd (ne (omega (arith, a, l)))
]

module _ (add : Accepted) (n : ℕ) where
  abbrev value : List Cell → ℕ → List Cell
  value cs j = cell_at j (fold add (words_at cs j))

  abbrev calls : List Cell → ℕ → List Call
  calls cs j = fold_calls add (words_at cs j)

  -- the words of the first column, where another follows
  sole_words : (p : Cell) (cs : List Cell) (low : ℕ) → p.0 < low → Climbs low n cs → words_at (p ∷ cs) p.0 ≡ p.1 ∷ []
  sole_words p cs low l h = words_same p cs ∙ ap (λ us. p.1 ∷ us) (words_before low n cs p.0 h l)

  row_first : (p : Cell) (cs : List Cell) (low : ℕ) → p.0 < n → p.0 < low → Climbs low n cs
      → row_by n (λ j. fold add (words_at (p ∷ cs) j)) ≡ p ∷ row_by n (λ j. fold add (words_at cs j))
  row_first p cs low u l h =
      first_then (value (p ∷ cs)) (value cs) n p.0 u
      (λ j a. ap (λ us. cell_at j (fold add us)) (words_before p.0 n (p ∷ cs) j (omega arith, u, climbs_weaken p.0 low n cs (omega (arith, l)) h) a))
      (λ j a. ap (λ us. cell_at j (fold add us)) (words_before low n cs j h (omega (arith, a, l))))
      (λ j a. ap (λ us. cell_at j (fold add us)) (words_other p cs j (λ q. omega (arith, q, a))))
      ∙ ap (λ us. cell_at p.0 (fold add us) ++ row_by n (λ j. fold add (words_at cs j))) (sole_words p cs low l h)

  calls_first : (p : Cell) (cs : List Cell) (low : ℕ) → p.0 < n → p.0 < low → Climbs low n cs
      → along (calls (p ∷ cs)) 0 n ≡ along (calls cs) 0 n
  calls_first p cs low u l h =
      first_then (calls (p ∷ cs)) (calls cs) n p.0 u
      (λ j a. ap (fold_calls add) (words_before p.0 n (p ∷ cs) j (omega arith, u, climbs_weaken p.0 low n cs (omega (arith, l)) h) a))
      (λ j a. ap (fold_calls add) (words_before low n cs j h (omega (arith, a, l))))
      (λ j a. ap (fold_calls add) (words_other p cs j (λ q. omega (arith, q, a))))
      ∙ ap (λ us. fold_calls add us ++ along (calls cs) 0 n) (sole_words p cs low l h)

  calls_merged : (p c : Cell) (cs : List Cell) → c.0 ≡ p.0 → p.0 < n → Climbs c.0 n cs
      → along (calls (p ∷ c ∷ cs)) 0 n ≡ call_of add (Binary p.1 c.1) ∷ along (calls ((p.0, value_of add (Binary p.1 c.1)) ∷ cs)) 0 n
  calls_merged p c cs e u h =
      let m = merged add p c cs e in
      let climbs : Climbs p.0 n cs = subst (λ k. Climbs k n cs) e h in
      let g = calls (m ∷ cs) in
      let none = λ (d : Cell) (ds : List Cell) (k : Climbs p.0 n (d ∷ ds)) (j : ℕ) (a : j < p.0).
      ap (fold_calls add) (words_before p.0 n (d ∷ ds) j k a) in
      first_then (calls (p ∷ c ∷ cs)) (above p.0 g) n p.0 u
      (none p (c ∷ cs) (omega arith, u, (omega (arith, e), (let q = e in omega (arith, q, u)), h)))
      (λ j a. above_not p.0 g j a)
      (λ j a. ap (fold_calls add) (there add p c cs e j (λ q. omega (arith, q, a))) ∙ above_is p.0 g j a)
      ∙ (ap (λ us. fold_calls add us ++ along (above p.0 g) 0 n) (here add p c cs e)
      ∙ ap (λ us. call_of add (Binary p.1 c.1) ∷ us)
      (sym (first_then g (above p.0 g) n p.0 u (none m cs (omega arith, u, climbs)) (λ j a. above_not p.0 g j a)
      (λ j a. above_is p.0 g j a)
      ∙ ap (λ us. fold_calls add us ++ along (above p.0 g) 0 n) (words_same m cs))))

  row_on : (p : Cell) (cs : List Cell) → p.0 < n → Climbs p.0 n cs
      → folded_on add p cs ≡ row_by n (λ j. fold add (words_at (p ∷ cs) j))
  row_on p [] u h =
      sym (row_first p [] (suc p.0) u (omega arith) tt ∙ ap (λ us. p ∷ us) (along-none (value []) 0 n (λ j. refl)))
  row_on p (c ∷ cs) u h =
      by_test (eqb_tells c.0 p.0) (λ e. row_on (merged add p c cs e) cs u (subst (λ k. Climbs k n cs) e h.2)) (row_on c cs h.1 h.2)
    where
      by_test : ((nat_eq c.0 p.0 ≡ true) × (c.0 ≡ p.0)) ⊎ ((nat_eq c.0 p.0 ≡ false) × (c.0 ≡ p.0 → ⊥))
          → ((e : c.0 ≡ p.0) → folded_on add (merged add p c cs e) cs ≡ row_by n (λ j. fold add (words_at (merged add p c cs e ∷ cs) j)))
          → folded_on add c cs ≡ row_by n (λ j. fold add (words_at (c ∷ cs) j))
          → folded_on add p (c ∷ cs) ≡ row_by n (λ j. fold add (words_at (p ∷ c ∷ cs) j))
      by_test (inl d) same other =
          fold_same add p c cs d.1
          ∙ (same d.1
          ∙ along-same (value (merged add p c cs d.1 ∷ cs)) (value (p ∷ c ∷ cs)) 0 n
          (λ j l v. ap (cell_at j) (sym (same_value add p c cs d.1 j))))
      by_test (inr d) same other =
          fold_other add p c cs d.1
          ∙ (ap (λ us. p ∷ us) other
          ∙ sym (row_first p (c ∷ cs) c.0 u (above_it p c h.0 d.1) (omega arith, h.1, h.2)))

  calls_on_first : (p : Cell) (cs : List Cell) → p.0 < n → Climbs p.0 n cs
      → folded_calls_on add p cs ≡ along (calls (p ∷ cs)) 0 n
  calls_on_first p [] u h =
      sym (calls_first p [] (suc p.0) u (omega arith) tt ∙ along-none (calls []) 0 n (λ j. refl))
  calls_on_first p (c ∷ cs) u h =
      by_test (eqb_tells c.0 p.0) (λ e. calls_on_first (merged add p c cs e) cs u (subst (λ k. Climbs k n cs) e h.2))
      (calls_on_first c cs h.1 h.2)
    where
      by_test : ((nat_eq c.0 p.0 ≡ true) × (c.0 ≡ p.0)) ⊎ ((nat_eq c.0 p.0 ≡ false) × (c.0 ≡ p.0 → ⊥))
          → ((e : c.0 ≡ p.0) → folded_calls_on add (merged add p c cs e) cs ≡ along (calls (merged add p c cs e ∷ cs)) 0 n)
          → folded_calls_on add c cs ≡ along (calls (c ∷ cs)) 0 n
          → folded_calls_on add p (c ∷ cs) ≡ along (calls (p ∷ c ∷ cs)) 0 n
      by_test (inl d) same other =
          calls_same add p c cs d.1
          ∙ (ap (λ us. call_of add (Binary p.1 c.1) ∷ us) (same d.1) ∙ sym (calls_merged p c cs d.1 u h.2))
      by_test (inr d) same other =
          calls_other add p c cs d.1
          ∙ (other ∙ sym (calls_first p (c ∷ cs) c.0 u (above_it p c h.0 d.1) (omega arith, h.1, h.2)))

  pub row_folded : (low : ℕ) (cs : List Cell) → Climbs low n cs → folded add cs ≡ row_by n (λ j. fold add (words_at cs j))
  row_folded low [] h = sym (along-none (value []) 0 n (λ j. refl))
  row_folded low (c ∷ cs) h = row_on c cs h.1 h.2

  pub calls_folded : (low : ℕ) (cs : List Cell) → Climbs low n cs
      → folded_calls add cs ≡ along (λ j. fold_calls add (words_at cs j)) 0 n
  calls_folded low [] h = sym (along-none (calls []) 0 n (λ j. refl))
  calls_folded low (c ∷ cs) h = calls_on_first c cs h.1 h.2

-- ---- the row of the product

-- cells by ascending column
pub product_ascends : (f : MaskedFactors) (i : ℕ) → Ascends 0 f.b.now.columns (row_of_product f i)
product_ascends f i =
    row_by-ascends (λ j. cut (mask_of f.mask) (product_at f.add.now f.mul.now f.a.now f.b.now) (i, j)) 0 f.b.now.columns
    f.b.now.columns (omega arith)

module _ (f : MaskedFactors) (i : ℕ) (g : IsGrid f.b.now) where
  -- what the terms come to, in any order that keeps each column's
  pub row_is : (cs : List Cell) → Climbs 0 f.b.now.columns cs
      → ((j : ℕ) → words_at cs j ≡ words_at (listed_terms f.mul.now f.b.now (λ j. passes (mask_of f.mask) (i, j)) (row_of f.a.now i)) j)
      → folded f.add.now cs ≡ row_of_product f i
  row_is cs h w =
      row_folded f.add.now f.b.now.columns 0 cs h
      ∙ along-same (λ j. cell_at j (fold f.add.now (words_at cs j)))
      (λ j. cell_at j (cut (mask_of f.mask) (product_at f.add.now f.mul.now f.a.now f.b.now) (i, j))) 0 f.b.now.columns
      (λ j l u. ap (λ us. cell_at j (fold f.add.now us)) (w j ∙ words_listed f.mul.now f.b.now g (λ j. passes (mask_of f.mask) (i, j)) (row_of f.a.now i) j)
      ∙ ap (cell_at j) (by_test (passes (mask_of f.mask) (i, j)) (terms f.mul.now f.b.now (row_of f.a.now i) j)))
    where
      by_test : (b : Bool) (ts : List ℕ) → fold f.add.now (if b then ts else []) ≡ (if b then fold f.add.now ts else None)
      by_test true ts = refl
      by_test false ts = refl

  pub steps_are : (cs : List Cell) → Climbs 0 f.b.now.columns cs
      → ((j : ℕ) → words_at cs j ≡ words_at (listed_terms f.mul.now f.b.now (λ j. passes (mask_of f.mask) (i, j)) (row_of f.a.now i)) j)
      → steps_of (listed_calls f.mul.now f.b.now (λ j. passes (mask_of f.mask) (i, j)) (row_of f.a.now i)) + steps_of (folded_calls f.add.now cs)
      ≡ steps_of (calls_of_row f i)
  steps_are cs h w =
      let q = λ (j : ℕ). passes (mask_of f.mask) (i, j) in
      let row = row_of f.a.now i in
      let muls = λ (j : ℕ). if q j then mul_calls f.mul.now f.b.now row j else [] in
      let adds = λ (j : ℕ). fold_calls f.add.now (words_at cs j) in
      let all = λ (j : ℕ). cut_list (mask_of f.mask) (product_calls_at f.add.now f.mul.now f.a.now f.b.now) (i, j) in
      let m = steps_listed f.mul.now f.b.now g q row in
      let a = ap steps_of (calls_folded f.add.now f.b.now.columns 0 cs h) in
      let s = steps-along-sum muls adds all 0 f.b.now.columns
      (λ j. by_test (q j) (mul_calls f.mul.now f.b.now row j) (terms f.mul.now f.b.now row j)
      ∙ ap (λ us. steps_of (muls j) + steps_of (fold_calls f.add.now us))
      (sym (w j ∙ words_listed f.mul.now f.b.now g q row j))) in
      omega (arith, m, a, s)
    where
      by_test : (b : Bool) (us : List Call) (ts : List ℕ)
          → steps_of (if b then us ++ fold_calls f.add.now ts else [])
          ≡ steps_of (if b then us else []) + steps_of (fold_calls f.add.now (if b then ts else []))
      by_test true us ts = steps-append us (fold_calls f.add.now ts)
      by_test false us ts = omega arith
