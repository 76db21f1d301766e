-- Terms put at the columns of cells, where additions that are gathered are made after all of them: it comes to the same as one after
-- another, since no two of the cells have one column.
use Rattle.std.proofs.Common.{◌≡◌, ℕ, zero, suc, ◌+◌, ◌<◌, ◌≤◌, List, [], ◌∷◌, ◌++◌, Option, None, Some, length, drop, get_or, set, refl, sym, ap, ◌∙◌, subst, arith}
use Rattle.std.proofs.Math.ListN.{length-set}
use Rattle.std.proofs.lemmas.List.{length_push, drop_more, drop_all}
use Rattle.bpf_insn.specs.declared.operands.Operands.{Operands}
use Rattle.bpf_insn.specs.declared.operands.Operands.TheVariants.{Binary}
use Rattle.bpf_verify.specs.Accepted.{Accepted}
use Rattle.bpf_run.specs.Meaning.{value_of, cost_of}
use Rattle.bpf_run.specs.Calls.{call_of, steps_of, calls_on, values_on, pairs_with}
use Rattle.bpf_run.proofs.Charging.{steps-append, calls_on-append, values_on-append}
use Rattle.csr_store.specs.Ascending.{Ascends}
use Rattle.csr_store.specs.Grid.{Cell}
use Rattle.row_product.specs.inner.Sums.{slot, added, added_calls, after, extra}
use Rattle.row_product.specs.inner.Adding.{Gathered, gathered_one, none_gathered, put_terms, put_calls, sums_after, calls_after, written, AreBelow, IsMet}
use Rattle.row_product.proofs.Adding.{slot_other}

-- ---- values that are written at columns

pub below_up : (low high : ℕ) (ks : List ℕ) → low ≤ high → AreBelow low ks → AreBelow high ks
below_up low high [] l h = tt
below_up low high (k ∷ ks) l h = (let b = h.0 in omega (arith, b, l), below_up low high ks l h.1)

pub below_more : (n : ℕ) (ks : List ℕ) (j : ℕ) → AreBelow n ks → j < n → AreBelow n (ks ++ j ∷ [])
below_more n [] j h l = (l, tt)
below_more n (k ∷ ks) j h l = (h.0, below_more n ks j h.1 l)

pub below_at : (n : ℕ) (ks : List ℕ) (k d : ℕ) → AreBelow n ks → k < length ks → get_or ks k d < n
below_at n [] k d h l = absurd (omega (arith, l))
below_at n (j ∷ ks) zero d h l = h.0
below_at n (j ∷ ks) (suc k) d h l = below_at n ks k d h.1 (omega (arith, l))

set_apart : (sums : List (Option ℕ)) (j k : ℕ) (u v : Option ℕ) → (j ≡ k → ⊥) → set (set sums j u) k v ≡ set (set sums k v) j u
set_apart [] j k u v n = refl
set_apart (s ∷ sums) zero zero u v n = absurd (n refl)
set_apart (s ∷ sums) zero (suc k) u v n = refl
set_apart (s ∷ sums) (suc j) zero u v n = refl
set_apart (s ∷ sums) (suc j) (suc k) u v n = ap (λ us. s ∷ us) (set_apart sums j k u v (λ e. n (ap suc e)))

pub length_written : (sums : List (Option ℕ)) (ks vs : List ℕ) → length (written sums ks vs) ≡ length sums
length_written sums [] vs = refl
length_written sums (k ∷ ks) [] = refl
length_written sums (k ∷ ks) (v ∷ vs) = length_written (set sums k (Some v)) ks vs ∙ length-set sums k (Some v)

slot_written : (sums : List (Option ℕ)) (ks vs : List ℕ) (j : ℕ) → AreBelow j ks → slot (written sums ks vs) j ≡ slot sums j
slot_written sums [] vs j h = refl
slot_written sums (k ∷ ks) [] j h = refl
slot_written sums (k ∷ ks) (v ∷ vs) j h =
    slot_written (set sums k (Some v)) ks vs j h.1 ∙ slot_other sums k j (Some v) (λ q. let b = h.0 in absurd (omega (arith, q, b)))

written_set : (sums : List (Option ℕ)) (ks vs : List ℕ) (j : ℕ) (u : Option ℕ) → AreBelow j ks
    → written (set sums j u) ks vs ≡ set (written sums ks vs) j u
written_set sums [] vs j u h = refl
written_set sums (k ∷ ks) [] j u h = refl
written_set sums (k ∷ ks) (v ∷ vs) j u h =
    ap (λ us. written us ks vs) (set_apart sums j k u (Some v) (λ q. let b = h.0 in absurd (omega (arith, q, b))))
    ∙ written_set (set sums k (Some v)) ks vs j u h.1

written_more : (sums : List (Option ℕ)) (ks vs : List ℕ) (k v : ℕ) → length ks ≡ length vs
    → written sums (ks ++ k ∷ []) (vs ++ v ∷ []) ≡ set (written sums ks vs) k (Some v)
written_more sums [] [] k v e = refl
written_more sums [] (w ∷ vs) k v e = absurd (omega (arith, e))
written_more sums (j ∷ ks) [] k v e = absurd (omega (arith, e))
written_more sums (j ∷ ks) (w ∷ vs) k v e = written_more (set sums j (Some w)) ks vs k v (omega (arith, e))

pub written_next : (sums : List (Option ℕ)) (ks vs : List ℕ) (k : ℕ) → k < length ks → length vs ≡ length ks
    → written (set sums (get_or ks k 0) (Some (get_or vs k 0))) (drop (k + 1) ks) (drop (k + 1) vs)
    ≡ written sums (drop k ks) (drop k vs)
written_next sums ks vs k l e =
    sym (ap (λ us. written sums us (drop k vs)) (drop_more ks k 0 l)
    ∙ ap (written sums (get_or ks k 0 ∷ drop (k + 1) ks)) (drop_more vs k 0 (omega (arith, l, e))))

pub written_none : (sums : List (Option ℕ)) (ks vs : List ℕ) (k : ℕ) → length ks ≤ k
    → written sums (drop k ks) (drop k vs) ≡ sums
written_none sums ks vs k l = ap (λ us. written sums us (drop k vs)) (drop_all k ks l)

-- ---- calls on operands

pub length_values : (f : Accepted) (os : List Operands) → length (values_on f os) ≡ length os
length_values f [] = refl
length_values f (o ∷ os) = ap suc (length_values f os)

steps_more : (f : Accepted) (os : List Operands) (o : Operands) → steps_of (calls_on f (os ++ o ∷ [])) ≡ steps_of (calls_on f os)
    + cost_of f o
steps_more f os o =
    let a = ap steps_of (calls_on-append f os (o ∷ [])) in
    let b = steps-append (calls_on f os) (call_of f o ∷ []) in
    omega (arith, a, b)

-- ---- cell by cell

-- what is gathered stands at columns below those that are left
pub record IsApart (n : ℕ) (g : Gathered) (rest : List Cell) : Type 0 where
  pub low : ℕ
  pub within : low ≤ n
  pub ascends : Ascends low n rest
  pub below : AreBelow low g.columns
  pub paired : length g.columns ≡ length g.operands

pub record Meeting (add : Accepted) (first : List (Option ℕ)) (cs : List Cell) (ts : List ℕ) (sums : List (Option ℕ)) (g : Gathered)
    (rest : List Cell) (left : List ℕ) : Type 0 where
  pub sums_are : put_terms add (written sums g.columns (values_on add g.operands)) rest left ≡ put_terms add first cs ts
  pub steps_are : steps_of (calls_on add g.operands) + steps_of (put_calls add (written sums g.columns (values_on add g.operands))
      rest left) ≡ steps_of (put_calls add first cs ts)

pub meeting_start : (add : Accepted) (first : List (Option ℕ)) (cs : List Cell) (ts : List ℕ) (g : Gathered) → g ≡ none_gathered
    → Meeting add first cs ts first g cs ts
meeting_start add first cs ts g e =
    subst (λ h. Meeting add first cs ts first h cs ts) (sym e) (record { sums_are = refl; steps_are = omega arith })

pub apart_start : (n : ℕ) (g : Gathered) (cs : List Cell) → g ≡ none_gathered → Ascends 0 n cs → IsApart n g cs
apart_start n g cs e a =
    subst (λ h. IsApart n h cs) (sym e) (record { low = 0; within = omega arith; ascends = a; below = tt; paired = refl })

pub apart_column : (n : ℕ) (g : Gathered) (rest : List Cell) (c : Cell) (more : List Cell) → IsApart n g rest → rest ≡ c ∷ more
    → c.0 < n
apart_column n g rest c more m e = (subst (Ascends m.low n) e m.ascends).1

-- the first term of a column
pub apart_first : (n : ℕ) (g : Gathered) (rest : List Cell) (c : Cell) (more : List Cell) → IsApart n g rest → rest ≡ c ∷ more
    → IsApart n g more
apart_first n g rest c more m e =
    let a = subst (Ascends m.low n) e m.ascends in
    let l = a.0 in
    let u = a.1 in
    record {
      low = suc c.0;
      within = omega (arith, u);
      ascends = a.2;
      below = below_up m.low (suc c.0) g.columns (omega (arith, l)) m.below;
      paired = m.paired;
    }

pub meeting_first : (add : Accepted) (first : List (Option ℕ)) (cs : List Cell) (ts : List ℕ) (n : ℕ) (sums : List (Option ℕ)) (g
    : Gathered) (rest : List Cell) (left : List ℕ) (c : Cell) (more : List Cell) (t : ℕ) (later : List ℕ)
    → IsApart n g rest → Meeting add first cs ts sums g rest left → rest ≡ c ∷ more → left ≡ t ∷ later → slot sums c.0 ≡ None
    → Meeting add first cs ts (set sums c.0 (Some t)) g more later
meeting_first add first cs ts n sums g rest left c more t later p m e f h =
    let vs = values_on add g.operands in
    let w = written sums g.columns vs in
    let a = subst (Ascends p.low n) e p.ascends in
    let l = a.0 in
    let away = below_up p.low c.0 g.columns l p.below in
    let none : slot w c.0 ≡ None = slot_written sums g.columns vs c.0 away ∙ h in
    let next : written (set sums c.0 (Some t)) g.columns vs ≡ set w c.0 (Some (added add (slot w c.0) t)) =
    written_set sums g.columns vs c.0 (Some t) away ∙ ap (λ o. set w c.0 (Some (added add o t))) (sym none) in
    let was = m.steps_are in
    let one = ap (λ us. steps_of (put_calls add w us left)) e ∙ ap (λ us. steps_of (put_calls add w (c ∷ more) us)) f in
    let two = steps-append (added_calls add (slot w c.0) t) (put_calls add (set w c.0 (Some (added add (slot w c.0) t))) more later) in
    let three = ap (λ o. steps_of (added_calls add o t)) none in
    let four = ap (λ us. steps_of (put_calls add us more later)) next in
    record {
      sums_are = ap (λ us. put_terms add us more later) next
          ∙ (sym (ap (λ us. put_terms add w us left) e ∙ ap (λ us. put_terms add w (c ∷ more) us) f) ∙ m.sums_are);
      steps_are = omega (arith, was, one, two, three, four);
    }

-- a further one, whose addition is gathered
pub apart_further : (n : ℕ) (g : Gathered) (rest : List Cell) (c : Cell) (more : List Cell) (s t : ℕ) → IsApart n g rest
    → rest ≡ c ∷ more → IsApart n (gathered_one g c.0 s t) more
apart_further n g rest c more s t m e =
    let p = m.paired in
    let a = length_push g.columns c.0 in
    let b = length_push g.operands (Binary s t) in
    let q = apart_first n g rest c more m e in
    record {
      low = suc c.0;
      within = let u = apart_column n g rest c more m e in omega (arith, u);
      ascends = (subst (Ascends m.low n) e m.ascends).2;
      below = below_more (suc c.0) g.columns c.0 (let l = (subst (Ascends m.low n) e m.ascends).0 in below_up m.low (suc c.0)
          g.columns (omega (arith, l)) m.below) (omega arith);
      paired = omega (arith, p, a, b);
    }

pub meeting_further : (add : Accepted) (first : List (Option ℕ)) (cs : List Cell) (ts : List ℕ) (n : ℕ) (sums : List (Option ℕ)) (g
    : Gathered) (rest : List Cell) (left : List ℕ) (c : Cell) (more : List Cell) (s t : ℕ) (later : List ℕ)
    → IsApart n g rest → Meeting add first cs ts sums g rest left → rest ≡ c ∷ more → left ≡ t ∷ later → slot sums c.0 ≡ Some s
    → Meeting add first cs ts sums (gathered_one g c.0 s t) more later
meeting_further add first cs ts n sums g rest left c more s t later p m e f h =
    let vs = values_on add g.operands in
    let w = written sums g.columns vs in
    let a = subst (Ascends p.low n) e p.ascends in
    let l = a.0 in
    let away = below_up p.low c.0 g.columns l p.below in
    let some : slot w c.0 ≡ Some s = slot_written sums g.columns vs c.0 away ∙ h in
    let next : written sums (g.columns ++ c.0 ∷ []) (values_on add (g.operands ++ Binary s t ∷ []))
    ≡ set w c.0 (Some (added add (slot w c.0) t)) =
    ap (written sums (g.columns ++ c.0 ∷ [])) (values_on-append add g.operands (Binary s t ∷ []))
    ∙ (written_more sums g.columns vs c.0 (value_of add (Binary s t)) (p.paired ∙ sym (length_values add g.operands))
    ∙ ap (λ o. set w c.0 (Some (added add o t))) (sym some)) in
    let was = m.steps_are in
    let one = ap (λ us. steps_of (put_calls add w us left)) e ∙ ap (λ us. steps_of (put_calls add w (c ∷ more) us)) f in
    let two = steps-append (added_calls add (slot w c.0) t) (put_calls add (set w c.0 (Some (added add (slot w c.0) t))) more later) in
    let three = ap (λ o. steps_of (added_calls add o t)) some in
    let four = ap (λ us. steps_of (put_calls add us more later)) next in
    let five = steps_more add g.operands (Binary s t) in
    record {
      sums_are = ap (λ us. put_terms add us more later) next
          ∙ (sym (ap (λ us. put_terms add w us left) e ∙ ap (λ us. put_terms add w (c ∷ more) us) f) ∙ m.sums_are);
      steps_are = omega (arith, was, one, two, three, four, five);
    }

pub meeting_end : (add : Accepted) (first : List (Option ℕ)) (cs : List Cell) (ts : List ℕ) (sums : List (Option ℕ)) (g : Gathered)
    (rest : List Cell) (left : List ℕ) → Meeting add first cs ts sums g rest left → rest ≡ [] → IsMet add first cs ts sums g
meeting_end add first cs ts sums g rest left m e =
    let w = written sums g.columns (values_on add g.operands) in
    let s = m.steps_are in
    let z = ap (λ us. steps_of (put_calls add w us left)) e in
    record {
      sums_are = sym (ap (λ us. put_terms add w us left) e) ∙ m.sums_are;
      steps_are = omega (arith, s, z);
    }

-- the same by how many cells are met
pub record Meets (first : List (Option ℕ)) (cs : List Cell) (ts : List ℕ) (k : ℕ) (sums : List (Option ℕ)) (g : Gathered) : Type 0
  where
    pub apart : IsApart (length sums) g (drop k cs)
    pub met : (add : Accepted) → Meeting add first cs ts sums g (drop k cs) (drop k ts)
    pub few : length g.operands ≤ k

pub meets_start : (first : List (Option ℕ)) (cs : List Cell) (ts : List ℕ) (g : Gathered) → g ≡ none_gathered
    → Ascends 0 (length first) cs → Meets first cs ts 0 first g
meets_start first cs ts g e a = record {
  apart = apart_start (length first) g cs e a;
  met = λ add. meeting_start add first cs ts g e;
  few = let l = ap (λ (h : Gathered). length h.operands) e in omega (arith, l);
}

pub meets_column : (first : List (Option ℕ)) (cs : List Cell) (ts : List ℕ) (k : ℕ) (sums : List (Option ℕ)) (g : Gathered)
    → Meets first cs ts k sums g → k < length cs → (get_or cs k (0, 0)).0 < length sums
meets_column first cs ts k sums g m l = apart_column (length sums) g (drop k cs) (get_or cs k (0, 0)) (drop (k + 1) cs) m.apart
    (drop_more cs k (0, 0) l)

pub meets_first : (first : List (Option ℕ)) (cs : List Cell) (ts : List ℕ) (k : ℕ) (sums : List (Option ℕ)) (g : Gathered) (next
    : List (Option ℕ)) (h : Gathered)
    → Meets first cs ts k sums g → k < length cs → length ts ≡ length cs → slot sums (get_or cs k (0, 0)).0 ≡ None
    → next ≡ set sums (get_or cs k (0, 0)).0 (Some (get_or ts k 0)) → h ≡ g → Meets first cs ts (k + 1) next h
meets_first first cs ts k sums g next h m l e n s q =
    let c = get_or cs k (0, 0) in
    let t = get_or ts k 0 in
    let more = drop_more cs k (0, 0) l in
    let later = drop_more ts k 0 (omega (arith, l, e)) in
    let long = length-set sums c.0 (Some t) in
    let f = m.few in
    subst (λ us. Meets first cs ts (k + 1) us h) (sym s) (subst (Meets first cs ts (k + 1) (set sums c.0 (Some t))) (sym q) (record {
      apart = subst (λ w. IsApart w g (drop (k + 1) cs)) (sym long) (apart_first (length sums) g (drop k cs) c (drop (k + 1) cs)
          m.apart more);
      met = λ add. meeting_first add first cs ts (length sums) sums g (drop k cs) (drop k ts) c (drop (k + 1) cs) t (drop (k + 1) ts)
          m.apart (m.met add) more later n;
      few = omega (arith, f);
    }))

pub meets_further : (first : List (Option ℕ)) (cs : List Cell) (ts : List ℕ) (k : ℕ) (sums : List (Option ℕ)) (g : Gathered) (next
    : List (Option ℕ)) (h : Gathered) (so_far : ℕ)
    → Meets first cs ts k sums g → k < length cs → length ts ≡ length cs → slot sums (get_or cs k (0, 0)).0 ≡ Some so_far
    → next ≡ sums → h ≡ gathered_one g (get_or cs k (0, 0)).0 so_far (get_or ts k 0) → Meets first cs ts (k + 1) next h
meets_further first cs ts k sums g next h so_far m l e n s q =
    let c = get_or cs k (0, 0) in
    let t = get_or ts k 0 in
    let more = drop_more cs k (0, 0) l in
    let later = drop_more ts k 0 (omega (arith, l, e)) in
    let long = length_push g.operands (Binary so_far t) in
    let f = m.few in
    subst (λ us. Meets first cs ts (k + 1) us h) (sym s) (subst (Meets first cs ts (k + 1) sums) (sym q) (record {
      apart = apart_further (length sums) g (drop k cs) c (drop (k + 1) cs) so_far t m.apart more;
      met = λ add. meeting_further add first cs ts (length sums) sums g (drop k cs) (drop k ts) c (drop (k + 1) cs) so_far t
          (drop (k + 1) ts) m.apart (m.met add) more later n;
      few = omega (arith, f, long);
    }))

-- ---- the terms are the products of a word and the words of the cells

pub sums_by_terms : (add mul : Accepted) (x : ℕ) (sums : List (Option ℕ)) (cs : List Cell)
    → put_terms add sums cs (values_on mul (pairs_with x cs)) ≡ sums_after add mul x sums cs
sums_by_terms add mul x sums [] = refl
sums_by_terms add mul x sums (c ∷ cs) = sums_by_terms add mul x (set sums c.0 (after add mul x (slot sums c.0) (Some c.1))) cs

pub steps_by_terms : (add mul : Accepted) (x : ℕ) (sums : List (Option ℕ)) (cs : List Cell)
    → steps_of (calls_on mul (pairs_with x cs)) + steps_of (put_calls add sums cs (values_on mul (pairs_with x cs)))
    ≡ steps_of (calls_after add mul x sums cs)
steps_by_terms add mul x sums [] = refl
steps_by_terms add mul x sums (c ∷ cs) =
    let t = value_of mul (Binary x c.1) in
    let then = set sums c.0 (Some (added add (slot sums c.0) t)) in
    let r = steps_by_terms add mul x then cs in
    let a = steps-append (added_calls add (slot sums c.0) t) (put_calls add then cs (values_on mul (pairs_with x cs))) in
    let b = steps-append (extra add mul x (slot sums c.0) (Some c.1)) (calls_after add mul x then cs) in
    omega (arith, r, a, b)

pub length_pairs : (x : ℕ) (cs : List Cell) → length (pairs_with x cs) ≡ length cs
length_pairs x [] = refl
length_pairs x (c ∷ cs) = ap suc (length_pairs x cs)

-- all together
pub added_by_terms : (add mul : Accepted) (x : ℕ) (first : List (Option ℕ)) (cs : List Cell) (ts : List ℕ)
    → ts ≡ values_on mul (pairs_with x cs)
    → (put_terms add first cs ts ≡ sums_after add mul x first cs)
    × (steps_of (calls_on mul (pairs_with x cs)) + steps_of (put_calls add first cs ts) ≡ steps_of (calls_after add mul x first cs))
added_by_terms add mul x first cs ts e = (
  ap (put_terms add first cs) e ∙ sums_by_terms add mul x first cs,
  let t = ap (λ us. steps_of (put_calls add first cs us)) e in
      let r = steps_by_terms add mul x first cs in
      omega (arith, t, r),
)
