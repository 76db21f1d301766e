-- A row's calls have at most the lengths that its price counts.
use Rattle.std.proofs.Common.{◌≡◌, ◌≤◌, ◌+◌, ◌-◌, ◌*◌, ◌⊎◌, ℕ, zero, suc, min, Bool, true, false, cond, not, nat_eq}
use Rattle.std.proofs.Common.{List, [], ◌∷◌, ◌++◌, length, Option, None, Some, refl, sym, ap, ◌∙◌, inl, inr, arith}
use Rattle.std.proofs.Common.{length-append}
use Rattle.std.specs.Prelude.{is_some}
use Rattle.std.specs.FinMap.{get}
use Rattle.std.specs.Map.{lookup}
use Rattle.std.proofs.lemmas.Bool.Decides.{nat_tests}
use Rattle.std.proofs.lemmas.Nat.{mul-le}
use Rattle.std.proofs.lemmas.List.{length-map}
use Rattle.bpf_insn.specs.declared.operands.Operands.TheVariants.{Binary}
use Rattle.bpf_verify.specs.Accepted.{Accepted}
use Rattle.bpf_run.specs.Calls.{Call, bound_of}
use Rattle.bpf_run.specs.Meaning.{value_of}
use Rattle.bpf_run.specs.Fold.{fold_calls, fold_calls_from}
use Rattle.csr_store.specs.Grid.{Grid, Position, Cell, IsGrid, row_of}
use Rattle.csr_store.specs.Along.{along, summed}
use Rattle.csr_store.specs.Mask.{passes, row_passes, cut_list, listed_under}
use Rattle.csr_store.proofs.Along.{each, along-same, along-row_of, along-none}
use Rattle.csr_store.proofs.ByRow.{lookup-row_of}
use Rattle.job_forms.specs.Forms as entry
use Rattle.job_forms.specs.Product.{term, term_calls, terms, mul_calls, mults_of, product_calls_at}
use Rattle.job_plan.specs.Job.{Form, Job, Apply, Select, Union, Both, Product, Reduce}
use Rattle.job_plan.specs.Kept.{IsForm, IsMask}
use Rattle.job_plan.specs.Forms.{operation, same_shape}
use Rattle.job_plan.specs.Costing.{costing, count, of_passing, if_passing}
use Rattle.job_plan.specs.Refusal.{has_shape}
use Rattle.job_plan.specs.inner.Refusal.{Passes}
use Rattle.job_plan.specs.Meaning.{bound_in, column_count}
use Rattle.job_plan.specs.Price.{row_price, price_in}
use Rattle.job_plan.proofs.Sums.{summed-add, summed-none}

pub bound-append : (cs ds : List Call) → bound_of (cs ++ ds) ≡ bound_of cs + bound_of ds
bound-append [] ds = omega arith
bound-append (c ∷ cs) ds = let h = bound-append cs ds in omega arith

-- the bound of what is listed along rows or columns
along_bound : (calls : ℕ → List Call) (p : ℕ → ℕ) (from n : ℕ) → ((i : ℕ) → bound_of (calls i) ≤ p i)
    → bound_of (along calls from n) ≤ summed p from n
along_bound calls p from zero h = omega arith
along_bound calls p from (suc n) h =
    let a = h from in
    let b = along_bound calls p (suc from) n h in
    omega (arith, bound-append (calls from) (along calls (suc from) n))

along_rounds : (calls : ℕ → List Call) (t : ℕ → ℕ) (m from n : ℕ) → ((j : ℕ) → bound_of (calls j) ≤ t j * m)
    → bound_of (along calls from n) ≤ summed t from n * m
along_rounds calls t m from zero h = omega arith
along_rounds calls t m from (suc n) h =
    let a = h from in
    let b = along_rounds calls t m (suc from) n h in
    omega (arith, bound-append (calls from) (along calls (suc from) n))

lesser : (m n l x : ℕ) → x ≤ m * l → x ≤ n * l → x ≤ min m n * l
lesser m n l x a b = elim (either m n) [ inl h ↦ first h | inr h ↦ second h ]
  where
    either : (m n : ℕ) → (m ≤ n) ⊎ (n ≤ m)
    either zero n = inl (omega arith)
    either (suc m) zero = inr (omega arith)
    either (suc m) (suc n) = elim (either m n) [ inl h ↦ inl (omega arith) | inr h ↦ inr (omega arith) ]

    first : m ≤ n → x ≤ min m n * l
    first h = let e : min m n ≡ m = omega arith in let k = ap (λ q. q * l) e in omega arith

    second : n ≤ m → x ≤ min m n * l
    second h = let e : min m n ≡ n = omega arith in let k = ap (λ q. q * l) e in omega arith

-- ---- calls for the entries of a row of a matrix alone

each_bound : (g : ℕ → Option ℕ → List Call) (m : ℕ) → ((k : ℕ) (o : Option ℕ) → bound_of (g k o) ≤ m) → (cs : List Cell)
    → bound_of (each g cs) ≤ length cs * m
each_bound g m h [] = omega arith
each_bound g m h (c ∷ cs) =
    let a = h c.0 (Some c.1) in let b = each_bound g m h cs in omega (arith, bound-append (g c.0 (Some c.1)) (each g cs))

abbrev where_some : (ℕ → List Call) → ℕ → Option ℕ → List Call
where_some calls j None = []
where_some calls j (Some v) = calls j

row_bound : (calls : ℕ → List Call) (m : ℕ) (g : Grid) (i columns : ℕ) → IsGrid g → g.columns ≡ columns
    → ((j : ℕ) → bound_of (calls j) ≤ m)
    → ((j : ℕ) → get g.cells (i, j) ≡ None → calls j ≡ []) → bound_of (along calls 0 columns) ≤ count g i * m
row_bound calls m g i columns h w b none =
    let e = ap bound_of (ap (along calls 0) (sym w)
    ∙ (along-same calls (λ j. where_some calls j (get g.cells (i, j))) 0 g.columns (λ j l u. blank j (get g.cells (i, j)) refl)
    ∙ along-row_of (where_some calls) (λ k. refl) g i h)) in
    let s = each_bound (where_some calls) m some (row_of g i) in
    omega arith
  where
    blank : (j : ℕ) (o : Option ℕ) → get g.cells (i, j) ≡ o → calls j ≡ where_some calls j o
    blank j None e = none j e
    blank j (Some v) e = refl

    some : (j : ℕ) (o : Option ℕ) → bound_of (where_some calls j o) ≤ m
    some j None = omega arith
    some j (Some v) = b j

-- ---- calls that are cut to a mask

module _ (mask : Option Grid) (lists : Position → List Call) where
  cut_bound : (m : ℕ) (at : Position) → bound_of (lists at) ≤ m → bound_of (cut_list mask lists at) ≤ m
  cut_bound m at h = elim (passes mask at) as (λ b. bound_of (cond b (lists at) []) ≤ m) [ true ↦ h | false ↦ omega arith ]

  cut_none : (at : Position) → lists at ≡ [] → cut_list mask lists at ≡ []
  cut_none at h = elim (passes mask at) as (λ b. cond b (lists at) [] ≡ []) [ true ↦ h | false ↦ refl ]

cut_masked : (mask : Grid) (lists : Position → List Call) (at : Position) → get mask.cells at ≡ None
    → cut_list (Some mask) lists at ≡ []
cut_masked mask lists at h = ap (λ o. cond (is_some o) (lists at) []) h

shape_columns : (rows columns : ℕ) (mask : Grid) → has_shape rows columns (Some mask) ≡ true → mask.columns ≡ columns
shape_columns rows columns mask h = grind (arith, nat_tests)

-- no more calls than pass
entry_bound : (mask : Option Grid) (lists : Position → List Call) (m n rows columns i : ℕ) → IsMask mask
    → has_shape rows columns mask ≡ true
    → ((j : ℕ) → bound_of (lists (i, j)) ≤ m) → bound_of (listed_under mask columns lists i) ≤ n * m
    → bound_of (listed_under mask columns lists i) ≤ of_passing mask i n * m
entry_bound None lists m n rows columns i g s b h = h
entry_bound (Some mask) lists m n rows columns i g s b h =
    lesser n (count mask i) m _ h
    (row_bound (λ j. cut_list (Some mask) lists (i, j)) m mask i columns g (shape_columns rows columns mask s)
    (λ j. cut_bound (Some mask) lists m (i, j) (b j)) (λ j e. cut_masked mask lists (i, j) e))

-- calls for the entries of one matrix, of those that pass
of_matrix : (mask : Option Grid) (lists : Position → List Call) (m columns i : ℕ) (a : Grid) → IsGrid a → a.columns ≡ columns
    → ((j : ℕ) → bound_of (lists (i, j)) ≤ m) → ((j : ℕ) → get a.cells (i, j) ≡ None → lists (i, j) ≡ [])
    → bound_of (listed_under mask columns lists i) ≤ count a i * m
of_matrix mask lists m columns i a g w b none =
    row_bound (λ j. cut_list mask lists (i, j)) m a i columns g w
    (λ j. cut_bound mask lists m (i, j) (b j)) (λ j e. cut_none mask lists (i, j) (none j e))

-- no calls for a row of which nothing passes
row_closed : (mask : Option Grid) (i j : ℕ) → row_passes mask i ≡ false → passes mask (i, j) ≡ false
row_closed None i j h = h
row_closed (Some mask) i j h =
    let e : row_of mask i ≡ [] = no_cells (row_of mask i) h in
    let g : get mask.cells (i, j) ≡ None = sym (lookup-row_of mask i j) ∙ ap (λ (cs : List Cell). lookup (nat_eq j) cs) e in
    ap is_some g
  where
    no_cells : (cs : List Cell) → not (nat_eq (length cs) 0) ≡ false → cs ≡ []
    no_cells [] h = refl
    no_cells (c ∷ cs) h = absurd (grind (arith, nat_tests))

cut_le : (mask : Option Grid) (lists : Position → List Call) (i from n : ℕ)
    → bound_of (along (λ j. cut_list mask lists (i, j)) from n) ≤ bound_of (along (λ j. lists (i, j)) from n)
cut_le mask lists i from zero = omega arith
cut_le mask lists i from (suc n) =
    let a = cut_bound mask lists (bound_of (lists (i, from))) (i, from) (omega arith) in
    let b = cut_le mask lists i (suc from) n in
    omega (
      arith,
      bound-append (cut_list mask lists (i, from)) (along (λ j. cut_list mask lists (i, j)) (suc from) n),
      bound-append (lists (i, from)) (along (λ j. lists (i, j)) (suc from) n),
    )

passing_bound : (mask : Option Grid) (lists : Position → List Call) (m n columns i : ℕ)
    → bound_of (along (λ j. lists (i, j)) 0 columns) ≤ n * m
    → bound_of (listed_under mask columns lists i) ≤ if_passing mask i n * m
passing_bound mask lists m n columns i h = go (row_passes mask i) refl
  where
    go : (b : Bool) → row_passes mask i ≡ b → bound_of (listed_under mask columns lists i) ≤ cond b n 0 * m
    go true e = let c = cut_le mask lists i 0 columns in omega arith
    go false e =
        let z = ap bound_of (along-none (λ j. cut_list mask lists (i, j)) 0 columns
        (λ j. ap (λ b. cond b (lists (i, j)) []) (row_closed mask i j e))) in
        omega arith

-- ---- the calls of each form

apply_bound : (f : Accepted) (thunk : Option ℕ) (at : Position) (o : Option ℕ)
    → bound_of (entry.apply_calls f thunk at o) ≤ length f.insns
apply_bound f thunk at None = omega arith
apply_bound f thunk at (Some x) = omega arith

joint_bound : (f : Accepted) (p q : Option ℕ) → bound_of (entry.joint_calls f p q) ≤ length f.insns
joint_bound f None q = omega arith
joint_bound f (Some x) None = omega arith
joint_bound f (Some x) (Some y) = omega arith

joint_none : (f : Accepted) (p : Option ℕ) → entry.joint_calls f p None ≡ []
joint_none f None = refl
joint_none f (Some x) = refl

fold_from_bound : (f : Accepted) (so_far : ℕ) (ts : List ℕ) → bound_of (fold_calls_from f so_far ts) ≡ length ts * length f.insns
fold_from_bound f so_far [] = omega arith
fold_from_bound f so_far (t ∷ ts) = let h = fold_from_bound f (value_of f (Binary so_far t)) ts in omega arith

fold_bound : (f : Accepted) (ts : List ℕ) → bound_of (fold_calls f ts) ≤ (length ts - 1) * length f.insns
fold_bound f [] = omega arith
fold_bound f (t ∷ ts) =
    let h = fold_from_bound f t ts in
    let e = ap (λ n. n * length f.insns) (let z : suc (length ts) - 1 ≡ length ts = omega arith in z) in
    omega arith

reduce_bound : (f : Accepted) (a : Grid) (i : ℕ)
    → bound_of (along (λ j. entry.reduce_calls_at f a (i, j)) 0 1) ≤ (count a i - 1) * length f.insns
reduce_bound f a i =
    let b = fold_bound f (entry.row_words a i) in
    let l = ap (λ n. (n - 1) * length f.insns) (length-map (row_of a i) (λ (c : Cell). c.1)) in
    omega (arith, bound-append (fold_calls f (entry.row_words a i)) [])

-- ---- products: a round for each term

mul_bound : (mul : Accepted) (b : Grid) (cs : List Cell) (j : ℕ)
    → bound_of (mul_calls mul b cs j) ≡ length (terms mul b cs j) * length mul.insns
mul_bound mul b [] j = omega arith
mul_bound mul b (c ∷ cs) j =
    let o = get b.cells (c.0, j) in
    let h = mul_bound mul b cs j in
    let s = one (get b.cells (c.0, j)) in
    let l = ap (λ n. n * length mul.insns) (length-append (term mul c.1 o) (terms mul b cs j)) in
    omega (arith, bound-append (term_calls mul c.1 o) (mul_calls mul b cs j))
  where
    one : (o : Option ℕ) → bound_of (term_calls mul c.1 o) ≡ length (term mul c.1 o) * length mul.insns
    one None = omega arith
    one (Some y) = omega arith

at_bound : (add mul : Accepted) (a b : Grid) (i j : ℕ)
    → bound_of (product_calls_at add mul a b (i, j)) ≤ length (terms mul b (row_of a i) j) * (length mul.insns + length add.insns)
at_bound add mul a b i j =
    let ts = terms mul b (row_of a i) j in
    let m = mul_bound mul b (row_of a i) j in
    let f = fold_bound add ts in
    let l = mul-le (length ts - 1) (length add.insns) (length ts) (length add.insns) (omega arith) (omega arith) in
    omega (arith, bound-append (mul_calls mul b (row_of a i) j) (fold_calls add ts))

along_lengths : {T : Type 0} (g : ℕ → List T) (from n : ℕ) → length (along g from n) ≡ summed (λ j. length (g j)) from n
along_lengths g from zero = refl
along_lengths g from (suc n) =
    let h = along_lengths g (suc from) n in
    length-append (g from) (along g (suc from) n) ∙ ap (λ m. length (g from) + m) h

each_lengths : (mul : Accepted) (x : ℕ) (cs : List Cell) → length (each (λ j o. term mul x o) cs) ≡ length cs
each_lengths mul x [] = refl
each_lengths mul x (c ∷ cs) = ap suc (each_lengths mul x cs)

summed-same : (p q : ℕ → ℕ) (from n : ℕ) → ((j : ℕ) → p j ≡ q j) → summed p from n ≡ summed q from n
summed-same p q from zero h = refl
summed-same p q from (suc n) h = let a = h from in let b = summed-same p q (suc from) n h in omega arith

all_terms : (mul : Accepted) (b : Grid) (cs : List Cell) → IsGrid b
    → summed (λ j. length (terms mul b cs j)) 0 b.columns ≡ mults_of b cs
all_terms mul b [] g = summed-none 0 b.columns
all_terms mul b (c ∷ cs) g =
    let s = summed-same (λ j. length (terms mul b (c ∷ cs) j))
    (λ j. length (term mul c.1 (get b.cells (c.0, j))) + length (terms mul b cs j)) 0 b.columns
    (λ j. length-append (term mul c.1 (get b.cells (c.0, j))) (terms mul b cs j)) in
    let t = summed-add (λ j. length (term mul c.1 (get b.cells (c.0, j)))) (λ j. length (terms mul b cs j)) 0 b.columns in
    let e = sym (along_lengths (λ j. term mul c.1 (get b.cells (c.0, j))) 0 b.columns)
    ∙ (ap length (along-row_of (λ j o. term mul c.1 o) (λ k. refl) b c.0 g) ∙ each_lengths mul c.1 (row_of b c.0)) in
    let h = all_terms mul b cs g in
    omega arith

product_bound : (add mul : Accepted) (a b : Grid) (i : ℕ) → IsGrid b
    → bound_of (along (λ j. product_calls_at add mul a b (i, j)) 0 b.columns)
    ≤ mults_of b (row_of a i) * (length mul.insns + length add.insns)
product_bound add mul a b i g =
    let h = along_rounds (λ j. product_calls_at add mul a b (i, j)) (λ j. length (terms mul b (row_of a i) j))
    (length mul.insns + length add.insns) 0 b.columns
    (λ j. at_bound add mul a b i j) in
    let e = ap (λ n. n * (length mul.insns + length add.insns)) (all_terms mul b (row_of a i) g) in
    omega arith

-- ---- a row's bound is within its price

same_columns : (a b : Grid) → same_shape a b ≡ true → b.columns ≡ a.columns
same_columns a b h = grind (arith, nat_tests)

joint_of : (f : Accepted) (a b : Grid) (mask : Option Grid) (i : ℕ) → IsGrid a → IsGrid b → IsMask mask → same_shape a b ≡ true
    → has_shape a.rows a.columns mask ≡ true
    → bound_of (listed_under mask a.columns (entry.joint_calls_at f a b) i)
    ≤ of_passing mask i (min (count a i) (count b i)) * length f.insns
joint_of f a b mask i g h m s p =
    let lists = entry.joint_calls_at f a b in
    let each : (j : ℕ) → bound_of (lists (i, j)) ≤ length f.insns = λ j. joint_bound f (get a.cells (i, j)) (get b.cells (i, j)) in
    entry_bound mask lists (length f.insns) (min (count a i) (count b i)) a.rows a.columns i m p each
    (lesser (count a i) (count b i) (length f.insns) _
    (of_matrix mask lists (length f.insns) a.columns i a g refl each
    (λ j e. ap (λ o. entry.joint_calls f o (get b.cells (i, j))) e))
    (of_matrix mask lists (length f.insns) a.columns i b h (same_columns a b s) each
    (λ j e. ap (entry.joint_calls f (get a.cells (i, j))) e ∙ joint_none f (get a.cells (i, j)))))

one_of : (f : Accepted) (thunk : Option ℕ) (a : Grid) (mask : Option Grid) (i : ℕ) → IsGrid a → IsMask mask
    → has_shape a.rows a.columns mask ≡ true
    → bound_of (listed_under mask a.columns (entry.apply_calls_at f thunk a) i) ≤ of_passing mask i (count a i) * length f.insns
one_of f thunk a mask i g m p =
    let lists = entry.apply_calls_at f thunk a in
    let each : (j : ℕ) → bound_of (lists (i, j)) ≤ length f.insns = λ j. apply_bound f thunk (i, j) (get a.cells (i, j)) in
    entry_bound mask lists (length f.insns) (count a i) a.rows a.columns i m p each
    (of_matrix mask lists (length f.insns) a.columns i a g refl each (λ j e. ap (entry.apply_calls f thunk (i, j)) e))

row_within : (form : Form) (mask : Option Grid) (i : ℕ) → IsForm form → IsMask mask → (operation form).shapes ≡ true
    → has_shape (operation form).rows (operation form).columns mask ≡ true
    → bound_of (listed_under mask (operation form).columns (operation form).calls_at i)
    ≤ (costing form).rounds mask i * (costing form).round
row_within (Apply f thunk a) mask i g m s p = one_of f thunk a mask i g.1.0 m p
row_within (Select f thunk a) mask i g m s p = one_of f (Some thunk) a mask i g.1.0 m p
row_within (Union f a b) mask i g m s p = joint_of f a b mask i g.1.0 g.1.1.0 m s p
row_within (Both f a b) mask i g m s p = joint_of f a b mask i g.1.0 g.1.1.0 m s p
row_within (Product add mul a b) mask i g m s p =
    passing_bound mask (product_calls_at add mul a b) (length mul.insns + length add.insns) (mults_of b (row_of a i)) b.columns i
    (product_bound add mul a b i g.1.1.0)
row_within (Reduce f a) mask i g m s p =
    passing_bound mask (entry.reduce_calls_at f a) (length f.insns) (count a i - 1) 1 i (reduce_bound f a i)

-- the bound of rows is within their price
pub bound_within : (job : Job) → Passes job → (first n : ℕ) → bound_in job first n ≤ price_in job first n
bound_within job p first n =
    along_bound (λ i. listed_under job.mask (column_count job) (operation job.form).calls_at i) (row_price job) first n
    (λ i. row_within job.form job.mask i p.form p.mask p.shapes p.shape)
