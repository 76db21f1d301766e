-- The sums of a row, put into the open row by ascending column: what is still to come completes the row.
use Rattle.std.proofs.Common.{◌≡◌, ℕ, suc, ◌+◌, ◌-◌, ◌<◌, ◌≤◌, List, [], ◌∷◌, ◌++◌, Option, None, Some, length, get_or, refl, sym, ap, ◌∙◌, subst, append_assoc, append-nil, inl, inr, arith}
use Rattle.std.proofs.lemmas.List.Elements.{All-contains, All-from_recursion, Contains-append_cases}
use Rattle.std.specs.List.{AllByRecursion, Contains}
use Rattle.std.specs.List.Sorted.{IsNonDecreasing}
use Rattle.csr_store.specs.Grid.{Cell}
use Rattle.csr_store.specs.Run.{Run}
use Rattle.csr_store.specs.Along.{along, cell_at, row_by}
use Rattle.csr_store.proofs.Along.{along-same, along-none, along-split, along-next, along-over}

pub cells_below : (low high : ℕ) (cs : List Cell) → low ≤ high → AllByRecursion (λ (c : Cell). c.0 < low) cs
    → AllByRecursion (λ (c : Cell). c.0 < high) cs
cells_below low high [] l h = _
cells_below low high (c ∷ cs) l h = (let a = h.0 in omega (arith, a, l), cells_below low high cs l h.1)

pub cells_joined : (high : ℕ) (cs ds : List Cell) → AllByRecursion (λ (c : Cell). c.0 < high) cs
    → AllByRecursion (λ (c : Cell). c.0 < high) ds → AllByRecursion (λ (c : Cell). c.0 < high) (cs ++ ds)
cells_joined high [] ds h k = k
cells_joined high (c ∷ cs) ds h k = (h.0, cells_joined high cs ds h.1 k)

pub cell_below : (k : ℕ) (o : Option ℕ) → AllByRecursion (λ (c : Cell). c.0 < k + 1) (cell_at k o)
cell_below k None = _
cell_below k (Some v) = (omega arith, _)

pub same_run : (from now next : Run) (cs : List Cell) → now ≡ record from { opened = now.opened }
    → next ≡ record now { opened = now.opened ++ cs } → next ≡ record from { opened = next.opened }
same_run from now next cs m r =
    r ∙ (ap (λ (u : Run). record u { opened = now.opened ++ cs }) m
    ∙ ap (λ os. record from { opened = os }) (sym (ap (λ (u : Run). u.opened) r)))

-- the columns before p are put
pub record Putting (n : ℕ) (whole : ℕ → Option ℕ) (from : Run) (p : ℕ) (now : Run) : Type 0 where
  pub run : now ≡ record from { opened = now.opened }
  pub listed : now.opened ++ along (λ j. cell_at j (whole j)) p (n - p) ≡ row_by n whole
  pub below : AllByRecursion (λ (c : Cell). c.0 < p) now.opened

pub putting_start : (n : ℕ) (whole : ℕ → Option ℕ) (from : Run) → from.opened ≡ [] → Putting n whole from 0 from
putting_start n whole from e = record {
  run = refl;
  listed = ap (λ os. os ++ along (λ j. cell_at j (whole j)) 0 (n - 0)) e ∙ ap (along (λ j. cell_at j (whole j)) 0) none;
  below = subst (AllByRecursion (λ (c : Cell). c.0 < 0)) (sym e) _;
}
  where
    none : n - 0 ≡ n
    none = omega arith

-- columns that have nothing
pub putting_skip : (n : ℕ) (whole : ℕ → Option ℕ) (from : Run) (p q : ℕ) (now : Run) → Putting n whole from p now → p ≤ q → q ≤ n
    → ((j : ℕ) → p ≤ j → j < q → whole j ≡ None) → Putting n whole from q now
putting_skip n whole from p q now m l w h =
    let g = λ (j : ℕ). cell_at j (whole j) in
    let parts : n - p ≡ (q - p) + (n - q) = omega (arith, l, w) in
    let there : p + (q - p) ≡ q = omega (arith, l) in
    let nothing : along g p (q - p) ≡ [] =
    along-same {T = Cell} g (λ j. []) p (q - p) (λ j a b. ap (cell_at j) (h j a (omega (arith, b, l))))
    ∙ along-none {T = Cell} (λ j. []) p (q - p) (λ j. refl) in
    let rest : along g p (n - p) ≡ along g q (n - q) =
    ap (along g p) parts ∙ (along-split g p (q - p) (n - q) ∙ (ap (λ cs. cs ++ along g (p + (q - p)) (n - q)) nothing
    ∙ ap (λ k. along g k (n - q)) there)) in
    record {
      run = m.run;
      listed = ap (λ cs. now.opened ++ cs) (sym rest) ∙ m.listed;
      below = cells_below p q now.opened l m.below;
    }

-- the next column
pub putting_cell : (n : ℕ) (whole : ℕ → Option ℕ) (from : Run) (p : ℕ) (now : Run) (o : Option ℕ) (next : Run)
    → Putting n whole from p now → p < n → whole p ≡ o → next ≡ record now { opened = now.opened ++ cell_at p o }
    → Putting n whole from (p + 1) next
putting_cell n whole from p now o next m l h r =
    let g = λ (j : ℕ). cell_at j (whole j) in
    let o_is : next.opened ≡ now.opened ++ cell_at p o = ap (λ (u : Run). u.opened) r in
    record {
      run = same_run from now next (cell_at p o) m.run r;
      listed = ap (λ os. os ++ along g (p + 1) (n - (p + 1))) o_is
          ∙ (append_assoc now.opened (cell_at p o) (along g (p + 1) (n - (p + 1)))
          ∙ (ap (λ v. now.opened ++ (cell_at p v ++ along g (p + 1) (n - (p + 1)))) (sym h)
          ∙ (ap (λ cs. now.opened ++ cs) (sym (along-next g p n l)) ∙ m.listed)));
      below = subst (AllByRecursion (λ (d : Cell). d.0 < p + 1)) (sym o_is)
          (cells_joined (p + 1) now.opened (cell_at p o) (cells_below p (p + 1) now.opened (omega arith) m.below) (cell_below p o));
    }

pub putting_end : (n : ℕ) (whole : ℕ → Option ℕ) (from : Run) (p : ℕ) (now : Run) → Putting n whole from p now → n ≤ p
    → now ≡ record from { opened = row_by n whole }
putting_end n whole from p now m l =
    m.run ∙ ap (λ os. record from { opened = os })
    (sym (append-nil now.opened) ∙ (ap (λ cs. now.opened ++ cs) (sym (along-over (λ j. cell_at j (whole j)) p n l)) ∙ m.listed))

-- ---- along a list of columns that don't fall

abbrev pub Rises : ℕ → List ℕ → Type 0
Rises low [] = Unit {0}
Rises low (k ∷ ks) = (low ≤ k) × Rises k ks

pub rises_from : (low : ℕ) (xs : List ℕ) → ((k d : ℕ) → k < length xs → low ≤ get_or xs k d)
    → ((i j d : ℕ) → i ≤ j → j < length xs → get_or xs i d ≤ get_or xs j d) → Rises low xs
rises_from low [] w m = _
rises_from low (x ∷ xs) w m = (
  w 0 x (omega arith),
  rises_from x xs (λ k d l. m 0 (suc k) d (omega arith) (omega arith)) (λ i j d a b. m (suc i) (suc j) d (omega arith) (omega arith)),
)

rises_least : (low : ℕ) (xs : List ℕ) → Rises low xs → AllByRecursion (λ j. low ≤ j) xs
rises_least low [] h = _
rises_least low (k ∷ ks) h = (h.0, lower ks (rises_least k ks h.1))
  where
    lower : (xs : List ℕ) → AllByRecursion (λ j. k ≤ j) xs → AllByRecursion (λ j. low ≤ j) xs
    lower [] q = _
    lower (x ∷ xs) q = (let a = q.0 in let l = h.0 in omega (arith, l, a), lower xs q.1)

least_of : (low : ℕ) (xs : List ℕ) (j : ℕ) → Rises low xs → Contains xs j → low ≤ j
least_of low xs j h c = All-contains (λ j. low ≤ j) xs j (All-from_recursion (λ j. low ≤ j) xs (rises_least low xs h)) c

pub other_one : (k : ℕ) (ks : List ℕ) (j : ℕ) → (j ≡ k → ⊥) → Contains (k ∷ ks) j → Contains ks j
other_one k ks j ne c = elim (Contains-append_cases (k ∷ []) ks j c) [
  | inl d ↦ absurd (ne (sym (All-contains (λ i. k ≡ i) (k ∷ []) j (All-from_recursion (λ i. k ≡ i) (k ∷ []) (refl, _)) d)))
  | inr d ↦ d
]

-- every column from p on that has something is among those that are left
pub record Listing (n : ℕ) (whole : ℕ → Option ℕ) (from : Run) (p : ℕ) (rest : List ℕ) (now : Run) : Type 0 where
  pub putting : Putting n whole from p now
  pub within : p ≤ n
  pub low : ℕ
  pub rises : Rises low rest
  pub covers : (j v : ℕ) → p ≤ j → j < n → whole j ≡ Some v → Contains rest j

-- a column that was put before, or is none
pub listing_skip : (n : ℕ) (whole : ℕ → Option ℕ) (from : Run) (p : ℕ) (rest : List ℕ) (now : Run) (k : ℕ) (ks : List ℕ)
    → Listing n whole from p rest now → rest ≡ k ∷ ks → (p ≤ k → n ≤ k) → Listing n whole from p ks now
listing_skip n whole from p rest now k ks m e d = record {
  putting = m.putting;
  within = m.within;
  low = k;
  rises = (subst (Rises m.low) e m.rises).1;
  covers = λ j v a b h. other_one k ks j (λ q. let l = d (omega (arith, q, a)) in omega (arith, q, b, l))
      (subst (λ us. Contains us j) e (m.covers j v a b h));
}

pub listing_start : (n : ℕ) (whole : ℕ → Option ℕ) (from : Run) (listed : List ℕ) → from.opened ≡ [] → IsNonDecreasing listed
    → ((j v : ℕ) → whole j ≡ Some v → Contains listed j) → Listing n whole from 0 listed from
listing_start n whole from listed e m h = record {
  putting = putting_start n whole from e;
  within = omega arith;
  low = 0;
  rises = rises_from 0 listed (λ k d l. omega arith) m;
  covers = λ j v a b i. h j v i;
}

nothing_before : (n : ℕ) (whole : ℕ → Option ℕ) (p k : ℕ) (ks : List ℕ) (j : ℕ) (o : Option ℕ) → Rises k (k ∷ ks)
    → ((j v : ℕ) → p ≤ j → j < n → whole j ≡ Some v → Contains (k ∷ ks) j) → p ≤ j → j < k → k < n → whole j ≡ o → o ≡ None
nothing_before n whole p k ks j None r c a b w e = refl
nothing_before n whole p k ks j (Some v) r c a b w e =
    absurd (let l = least_of k (k ∷ ks) j r (c j v a (omega (arith, b, w)) e) in omega (arith, l, b))

pub listing_reach : (n : ℕ) (whole : ℕ → Option ℕ) (from : Run) (p : ℕ) (rest : List ℕ) (now : Run) (k : ℕ) (ks : List ℕ)
    → Listing n whole from p rest now → rest ≡ k ∷ ks → p ≤ k → k < n → Putting n whole from k now
listing_reach n whole from p rest now k ks m e l w =
    let r = subst (Rises m.low) e m.rises in
    putting_skip n whole from p k now m.putting l (omega (arith, w))
    (λ j a b. nothing_before n whole p k ks j (whole j) (omega arith, r.1)
    (λ i v c d h. subst (λ us. Contains us i) e (m.covers i v c d h)) a b w refl)

pub listing_step : (n : ℕ) (whole : ℕ → Option ℕ) (from : Run) (p : ℕ) (rest : List ℕ) (now : Run) (k : ℕ) (ks : List ℕ) (o
    : Option ℕ) (next : Run)
    → Listing n whole from p rest now → rest ≡ k ∷ ks → p ≤ k → k < n → whole k ≡ o
    → next ≡ record now { opened = now.opened ++ cell_at k o } → Listing n whole from (k + 1) ks next
listing_step n whole from p rest now k ks o next m e l w h r = record {
  putting = putting_cell n whole from k now o next (listing_reach n whole from p rest now k ks m e l w) w h r;
  within = omega (arith, w);
  low = k;
  rises = (subst (Rises m.low) e m.rises).1;
  covers = λ j v a b i. other_one k ks j (λ q. omega (arith, q, a)) (subst (λ us. Contains us j) e (m.covers j v (omega (arith, a, l)) b i));
}

pub none_contained : (j : ℕ) → Contains {X = ℕ} [] j → ⊥
none_contained j c = let l = c.1 in absurd (omega (arith, l))

none_left : (whole : ℕ → Option ℕ) (j : ℕ) (o : Option ℕ) → ((v : ℕ) → whole j ≡ Some v → Contains {X = ℕ} [] j) → whole j ≡ o → o ≡ None
none_left whole j None c e = refl
none_left whole j (Some v) c e = absurd (none_contained j (c v e))

pub listing_end : (n : ℕ) (whole : ℕ → Option ℕ) (from : Run) (p : ℕ) (rest : List ℕ) (now : Run)
    → Listing n whole from p rest now → rest ≡ [] → now ≡ record from { opened = row_by n whole }
listing_end n whole from p rest now m e =
    putting_end n whole from n now (putting_skip n whole from p n now m.putting m.within (omega arith)
    (λ j a b. none_left whole j (whole j) (λ v h. subst (λ us. Contains us j) e (m.covers j v a b h)) refl)) (omega arith)
