-- Nothing is made of rows that are blank, or of which nothing passes.
use Rattle.std.proofs.Common.{◌≡◌, ◌≤◌, ◌<◌, ◌+◌, ◌-◌, ℕ, zero, suc, Bool, true, false, if◌then◌else◌, List, [], ◌∷◌, ◌++◌, map, Option, None, Some, ◌⊎◌, inl, inr, refl, sym, ap, ◌∙◌, subst, arith}
use Rattle.std.specs.Prelude.{nat_eq, is_some}
use Rattle.std.specs.FinMap.{get}
use Rattle.std.specs.Map.{lookup}
use Rattle.csr_store.specs.Along.{along, cell_at}
use Rattle.csr_store.specs.Grid.{Grid, Cell, Position, row_of}
use Rattle.csr_store.specs.Mask.{passes, cut, cut_list, mask_of, rows_under, all_listed_under}
use Rattle.csr_store.specs.Run.{Row}
use Rattle.csr_store.proofs.ByRow.{lookup-row_of}
use Rattle.csr_store.proofs.Starting.{row_blank}
use Rattle.bpf_verify.specs.Accepted.{Accepted}
use Rattle.bpf_run.specs.Calls.{Call}
use Rattle.bpf_run.specs.Fold.{fold, fold_calls}
use Rattle.job_forms.specs.Forms.{applied, apply_calls, apply_at, apply_calls_at, selected, select_at, select_calls_at, united, joint, joint_calls, union_at, both_at, joint_calls_at, reduce_at, reduce_calls_at}
use Rattle.job_forms.specs.declared.region.Chunk.{Chunk}
use Rattle.job_forms.specs.declared.region.Region.{Region}
use Rattle.job_forms.specs.Region.{AreBlankUnder, IsMade, IsPartOf}

-- no value stands at a position, and no call is made for it
abbrev pub HasNothing : Option Grid → (Position → Option ℕ) → (Position → List Call) → Position → Type 0
HasNothing mask values calls at = (cut mask values at ≡ None) × (cut_list mask calls at ≡ [])

no_cell : (at : ℕ → Option ℕ) (from n : ℕ) → ((j : ℕ) → at j ≡ None) → along (λ j. cell_at j (at j)) from n ≡ []
no_cell at from zero h = refl
no_cell at from (suc n) h = ap (λ o. cell_at from o ++ along (λ j. cell_at j (at j)) (suc from) n) (h from) ∙ no_cell at (suc from) n h

no_call : (lists : ℕ → List Call) (from n : ℕ) → ((j : ℕ) → lists j ≡ []) → along lists from n ≡ []
no_call lists from zero h = refl
no_call lists from (suc n) h = ap (λ cs. cs ++ along lists (suc from) n) (h from) ∙ no_call lists (suc from) n h

no_row : (mask : Option Grid) (columns : ℕ) (values : Position → Option ℕ) (first n : ℕ)
    → ((i j : ℕ) → first ≤ i → i < first + n → cut mask values (i, j) ≡ None)
    → rows_under mask columns values first n ≡ along (λ i. [] ∷ []) first n
no_row mask columns values first zero h = refl
no_row mask columns values first (suc n) h =
    ap (λ (row : Row). row ∷ rows_under mask columns values (suc first) n)
    (no_cell (λ j. cut mask values (first, j)) 0 columns (λ j. h first j (omega arith) (omega arith)))
    ∙ ap (λ (rows : List Row). [] ∷ rows)
    (no_row mask columns values (suc first) n (λ i j l u. h i j (omega (arith, l)) (omega (arith, u))))

no_calls : (mask : Option Grid) (columns : ℕ) (calls : Position → List Call) (first n : ℕ)
    → ((i j : ℕ) → first ≤ i → i < first + n → cut_list mask calls (i, j) ≡ [])
    → all_listed_under mask columns calls first n ≡ []
no_calls mask columns calls first zero h = refl
no_calls mask columns calls first (suc n) h =
    ap (λ cs. cs ++ all_listed_under mask columns calls (suc first) n)
    (no_call (λ j. cut_list mask calls (first, j)) 0 columns (λ j. h first j (omega arith) (omega arith)))
    ∙ no_calls mask columns calls (suc first) n (λ i j l u. h i j (omega (arith, l)) (omega (arith, u)))

-- blank rows are what is made of such a region
part_of_nothing : (columns given : ℕ) → given ≡ columns → (values : Position → Option ℕ) (calls : Position → List Call) (region : Region) (made : Chunk)
    → ((i j : ℕ) → region.range.start ≤ i → i < region.range.start + (region.range.end - region.range.start)
    → HasNothing (mask_of region.mask) values calls (i, j))
    → IsMade (record {
      first = region.range.start;
      columns = given;
      ended = along (λ i. [] ∷ []) region.range.start (region.range.end - region.range.start);
      opened = [];
    }) [] made
    → IsPartOf columns values calls region made
part_of_nothing columns given same values calls region made h m =
    let first = region.range.start in
    let n = region.range.end - region.range.start in
    let rows = no_row (mask_of region.mask) columns values first n (λ i j l u. (h i j l u).0) in
    let none = no_calls (mask_of region.mask) columns calls first n (λ i j l u. (h i j l u).1) in
    subst (λ (cs : List Call). IsMade (record {
      first = first;
      columns = columns;
      ended = rows_under (mask_of region.mask) columns values first n;
      opened = [];
    }) cs made) (sym none)
    (subst (λ (rs : List Row). IsMade (record { first = first; columns = columns; ended = rs; opened = [] }) [] made) (sym rows)
    (subst (λ k. IsMade (record { first = first; columns = k; ended = along (λ i. [] ∷ []) first n; opened = [] }) [] made) same m))

-- ---- where it is so

no_value : {T : Type 0} (b : Bool) (x y : T) → x ≡ y → (if b then x else y) ≡ y
no_value true x y h = h
no_value false x y h = refl

-- nothing stands at the position
nothing_there : (mask : Option Grid) (values : Position → Option ℕ) (calls : Position → List Call) (at : Position)
    → values at ≡ None → calls at ≡ [] → HasNothing mask values calls at
nothing_there mask values calls at v c = (no_value (passes mask at) (values at) None v, no_value (passes mask at) (calls at) [] c)

-- it doesn't pass
pub nothing_passes : (mask : Option Grid) (values : Position → Option ℕ) (calls : Position → List Call) (at : Position)
    → passes mask at ≡ false → HasNothing mask values calls at
nothing_passes mask values calls at p =
    (ap (λ b. if b then values at else None) p, ap (λ b. if b then calls at else []) p)

none_in_blank : (g : Grid) (i j : ℕ) → row_of g i ≡ [] → get g.cells (i, j) ≡ None
none_in_blank g i j e = sym (lookup-row_of g i j) ∙ ap (lookup (nat_eq j)) e

-- in a matrix that is blank under a mask row i has no cell, or the position doesn't pass
pub blank_at : (mask : Option Grid) (a : Grid) (first n i j : ℕ) → AreBlankUnder mask a first n → first ≤ i → i < first + n
    → (row_of a i ≡ []) ⊎ (passes mask (i, j) ≡ false)
blank_at None a first n i j h l u = inl (row_blank a first n i h l u)
blank_at (Some mask) a first n i j h l u = elim h [
  | inl e ↦ inl (row_blank a first n i e l u)
  | inr e ↦ inr (ap is_some (none_in_blank mask i j (row_blank mask first n i e l u)))
]

-- so nothing is made of it, where nothing is made of a row without a cell
pub part_of_blank : (columns given : ℕ) → given ≡ columns → (values : Position → Option ℕ) (calls : Position → List Call)
    → (region : Region) (made : Chunk) (a : Grid)
    → AreBlankUnder (mask_of region.mask) a region.range.start (region.range.end - region.range.start)
    → ((i j : ℕ) → region.range.start ≤ i → i < region.range.start + (region.range.end - region.range.start) → row_of a i ≡ []
    → HasNothing (mask_of region.mask) values calls (i, j))
    → IsMade (record {
      first = region.range.start;
      columns = given;
      ended = along (λ i. [] ∷ []) region.range.start (region.range.end - region.range.start);
      opened = [];
    }) [] made
    → IsPartOf columns values calls region made
part_of_blank columns given same values calls region made a blank nothing =
    part_of_nothing columns given same values calls region made
    (λ i j l u. elim (blank_at (mask_of region.mask) a region.range.start (region.range.end - region.range.start) i j blank l u) [
      | inl e ↦ nothing i j l u e
      | inr p ↦ nothing_passes (mask_of region.mask) values calls (i, j) p
    ])

-- ---- form by form, at a row without a cell

pub apply_nothing : (f : Accepted) (thunk : Option ℕ) (a : Grid) (mask : Option Grid) (i j : ℕ) → row_of a i ≡ []
    → HasNothing mask (apply_at f thunk a) (apply_calls_at f thunk a) (i, j)
apply_nothing f thunk a mask i j e =
    let none = none_in_blank a i j e in
    nothing_there mask (apply_at f thunk a) (apply_calls_at f thunk a) (i, j) (ap (applied f thunk (i, j)) none)
    (ap (apply_calls f thunk (i, j)) none)

pub select_nothing : (f : Accepted) (thunk : ℕ) (a : Grid) (mask : Option Grid) (i j : ℕ) → row_of a i ≡ []
    → HasNothing mask (select_at f thunk a) (select_calls_at f thunk a) (i, j)
select_nothing f thunk a mask i j e =
    let none = none_in_blank a i j e in
    nothing_there mask (select_at f thunk a) (select_calls_at f thunk a) (i, j) (ap (selected f thunk (i, j)) none)
    (ap (apply_calls f (Some thunk) (i, j)) none)

pub union_nothing : (f : Accepted) (a b : Grid) (mask : Option Grid) (i j : ℕ) → row_of a i ≡ [] → row_of b i ≡ []
    → HasNothing mask (union_at f a b) (joint_calls_at f a b) (i, j)
union_nothing f a b mask i j e k =
    let none = none_in_blank a i j e in
    nothing_there mask (union_at f a b) (joint_calls_at f a b) (i, j)
    (ap (λ o. united f o (get b.cells (i, j))) none ∙ none_in_blank b i j k)
    (ap (λ o. joint_calls f o (get b.cells (i, j))) none)

pub left_nothing : (f : Accepted) (a b : Grid) (mask : Option Grid) (i j : ℕ) → row_of a i ≡ []
    → HasNothing mask (both_at f a b) (joint_calls_at f a b) (i, j)
left_nothing f a b mask i j e =
    let none = none_in_blank a i j e in
    nothing_there mask (both_at f a b) (joint_calls_at f a b) (i, j) (ap (λ o. joint f o (get b.cells (i, j))) none)
    (ap (λ o. joint_calls f o (get b.cells (i, j))) none)

no_joint : (f : Accepted) (o : Option ℕ) → joint f o None ≡ None
no_joint f None = refl
no_joint f (Some x) = refl

no_joint_calls : (f : Accepted) (o : Option ℕ) → joint_calls f o None ≡ []
no_joint_calls f None = refl
no_joint_calls f (Some x) = refl

pub right_nothing : (f : Accepted) (a b : Grid) (mask : Option Grid) (i j : ℕ) → row_of b i ≡ []
    → HasNothing mask (both_at f a b) (joint_calls_at f a b) (i, j)
right_nothing f a b mask i j e =
    let none = none_in_blank b i j e in
    let x = get a.cells (i, j) in
    nothing_there mask (both_at f a b) (joint_calls_at f a b) (i, j) (ap (joint f x) none ∙ no_joint f x)
    (ap (joint_calls f x) none ∙ no_joint_calls f x)

pub reduce_nothing : (f : Accepted) (a : Grid) (mask : Option Grid) (i j : ℕ) → row_of a i ≡ []
    → HasNothing mask (reduce_at f a) (reduce_calls_at f a) (i, j)
reduce_nothing f a mask i j e =
    nothing_there mask (reduce_at f a) (reduce_calls_at f a) (i, j)
    (ap (λ (row : List Cell). fold f (map (λ (c : Cell). c.1) row)) e)
    (ap (λ (row : List Cell). fold_calls f (map (λ (c : Cell). c.1) row)) e)
