-- Copies of the columns of a batch: where each is found, and what one more adds to them.
use Rattle.std.proofs.Common.{◌≡◌, ◌≢◌, ◌≤◌, ◌<◌, ◌+◌, ℕ, List, [], ◌∷◌, ◌++◌, Option, None, Some, length, get_or, set, refl, sym, ap, ◌∙◌, subst, inl, inr, arith, length-append, get_or-set_same, get_or-set_other, replicate, zero, suc}
use Rattle.std.specs.Prelude.{slice_get, sum_by, MatchOption, IfSome}
use Rattle.std.proofs.Math.ListN.{get_or-append}
use Rattle.std.proofs.Math.Seq.{get_or-append_seam}
use Rattle.std.proofs.lemmas.Bool.Decides.{eqb_tells}
use Rattle.std.proofs.lemmas.List.{ext_get_or}
use Rattle.std.proofs.lemmas.List.Elements.{All-nil, All-push, Contains-get_or}
use Rattle.std.proofs.lemmas.List.Quantifiers.{all_pairs_push}
use Rattle.std.proofs.lemmas.List.Sums.{sum_by-append}
use Rattle.std.proofs.lemmas.Option.{none-some, slice_get_within, slice_get-get_or, get_or_from_slice_get, slice_get_read}
use Rattle.std.specs.FinMap as fin
use Rattle.std.specs.List.{Contains}
use Rattle.csr_store.specs.Grid.{Grid}
use Rattle.csr_store.specs.Column.{column_of}
use Rattle.csr_store.proofs.ByBits.{column_at, length_column}
use Rattle.job_plan.specs.Job.{Job}
use Rattle.job_plan.specs.Copies.{IsBy, AreCopies, copy_words, cell_words, held_words}
use Rattle.job_plan.specs.inner.Copies.{IsNew, IsAt, IsFor, FitsBehind, Adds, AreFor}

-- ---- a column beside a copy

-- columns with the same words are copied alike
pub same_columns : (g h : Grid) → g.rows ≡ h.rows → ((k : ℕ) → k < h.rows → fin.get g.cells (k, 0) ≡ fin.get h.cells (k, 0))
    → column_of g ≡ column_of h
same_columns g h r e =
    let a = length_column g in
    let b = length_column h in
    ext_get_or None (column_of g) (column_of h) (a ∙ (r ∙ sym b))
    (λ k l. column_at g k (omega (arith, l, a)) ∙ (e k (omega (arith, l, a, r)) ∙ sym (column_at h k (omega (arith, l, a, r)))))

pub other_words : (g h : Grid) (k : ℕ) → fin.get g.cells (k, 0) ≢ fin.get h.cells (k, 0) → g ≢ h
other_words g h k n e = n (ap (λ (m : Grid). fin.get m.cells (k, 0)) e)

-- ---- a search

-- the copy that a loop has come to
pub found_at : (copies : List Grid) (g copy : Grid) (p : ℕ) → p < length copies → copy ≡ get_or copies p copy
    → column_of copy ≡ column_of g → IsAt copies p g
found_at copies g copy p l is e = record { copy = copy; there = slice_get_read copies (length copies) p copy refl l is; same = e }

-- none of the first ones is of the column, nor the next
pub new_more : (copies : List Grid) (g copy : Grid) (p : ℕ) → p < length copies → copy ≡ get_or copies p copy → copy ≢ g
    → ((k : ℕ) (d : Grid) → k < p → get_or copies k d ≢ g) → (k : ℕ) (d : Grid) → k < p + 1 → get_or copies k d ≢ g
new_more copies g copy p l is n before k d m e = elim (eqb_tells k p) [
  | inl q ↦
      let there = get_or_from_slice_get copies p copy d (slice_get_read copies (length copies) p copy refl l is) in
      n (sym there ∙ (ap (λ j. get_or copies j d) (sym q.1) ∙ e))
  | inr q ↦ let w = q.1 in let a : k < p = below k p m w in before k d a e
]
  where
    below : (i j : ℕ) → i < j + 1 → i ≢ j → i < j
    below i j a b = omega (arith, a, b)

-- ---- one copy more

small_more : (gs : List Grid) (g : Grid) → sum_by copy_words gs ≤ held_words gs → FitsBehind gs g
    → sum_by copy_words (gs ++ g ∷ []) ≤ held_words (gs ++ g ∷ [])
small_more [] g s f = omega (arith, f)
small_more (c ∷ cs) g s f =
    let a = sum_by-append copy_words (c ∷ cs) (g ∷ []) in
    let b = sum_by-append cell_words (c ∷ cs) (g ∷ []) in
    omega (arith, s, f, a, b)

kept_more : (gs : List Grid) (g : Grid) (p : ℕ) (h : Grid) → slice_get gs p ≡ Some h → slice_get (gs ++ g ∷ []) p ≡ Some h
kept_more gs g p h e =
    let l = slice_get_within gs p h e in
    let n = length-append gs (g ∷ []) in
    slice_get-get_or (gs ++ g ∷ []) p h (omega (arith, l, n))
    ∙ ap (λ v. Some v) (get_or-append gs (g ∷ []) h p l ∙ get_or_from_slice_get gs p h h e)

last_there : (gs : List Grid) (g : Grid) → slice_get (gs ++ g ∷ []) (length gs) ≡ Some g
last_there gs g =
    let n = length-append gs (g ∷ []) in
    slice_get-get_or (gs ++ g ∷ []) (length gs) g (omega (arith, n)) ∙ ap (λ v. Some v) (get_or-append_seam gs g [] g)

copied_more : (jobs : List Job) (gs : List Grid) (g : Grid) (job : Job) → IsBy g job → IsNew gs g → FitsBehind gs g
    → Contains jobs job → AreCopies jobs gs → AreCopies jobs (gs ++ g ∷ [])
copied_more jobs gs g job by new fits within a = record {
  once = all_pairs_push (λ (x y : Grid). x ≢ y) gs g a.once new;
  paid = All-push (λ (x : Grid). (j : Job) × Contains jobs j × IsBy x j) gs g a.paid (job, within, by);
  small = small_more gs g a.small fits;
}

pub adds_nothing : (gs : List Grid) (job : Job) → Adds gs gs job None
adds_nothing gs job = record { copied = λ jobs c a. a; unchanged = λ p g e. e; given = tt }

pub adds_found : (gs : List Grid) (g : Grid) (job : Job) (p : ℕ) → IsBy g job → IsAt gs p g → Adds gs gs job (Some p)
adds_found gs g job p by at = record {
  copied = λ jobs c a. a;
  unchanged = λ q h e. e;
  given = record { factor = g; by = by.factor; at = at };
}

adds_one : (gs : List Grid) (g : Grid) (job : Job) → IsBy g job → IsNew gs g → FitsBehind gs g
    → Adds gs (gs ++ g ∷ []) job (Some (length gs))
adds_one gs g job by new fits = record {
  copied = λ jobs c a. copied_more jobs gs g job by new fits c a;
  unchanged = λ q h e. kept_more gs g q h e;
  given = record { factor = g; by = by.factor; at = record { copy = g; there = last_there gs g; same = refl } };
}

pub adds_new : (gs after : List Grid) (g : Grid) (job : Job) (nth : Option ℕ) → IsBy g job → IsNew gs g
    → MatchOption nth (after ≡ gs) (λ p. (p ≡ length gs) × (after ≡ gs ++ g ∷ []) × FitsBehind gs g) → Adds gs after job nth
adds_new gs after g job None by new e = subst (λ (us : List Grid). Adds gs us job None) (sym e) (adds_nothing gs job)
adds_new gs after g job (Some p) by new (n, e, fits) =
    subst (λ (q : ℕ). Adds gs after job (Some q)) (sym n)
    (subst (λ (us : List Grid). Adds gs us job (Some (length gs))) (sym e) (adds_one gs g job by new fits))

-- ---- the jobs of a batch

none_yet : (n k p : ℕ) → get_or (replicate {A = Option ℕ} n None) k None ≡ Some p → ⊥
none_yet zero k p e = none-some p e
none_yet (suc n) zero p e = none-some p e
none_yet (suc n) (suc k) p e = none_yet n k p e

pub for_none : (jobs : List Job) → AreFor jobs [] (replicate {A = Option ℕ} 64 None)
for_none jobs = record {
  copied = record {
    once = λ i j d a b. absurd (omega (arith, b));
    paid = All-nil (λ (x : Grid). (j : Job) × Contains jobs j × IsBy x j);
    small = omega arith;
  };
  each = λ k p e. absurd (none_yet 64 k p e);
}

contains_at : (jobs : List Job) (k : ℕ) (job : Job) → slice_get jobs k ≡ Some job → Contains jobs job
contains_at jobs k job there =
    subst (λ (j : Job). Contains jobs j) (get_or_from_slice_get jobs k job job there)
    (Contains-get_or jobs k job (slice_get_within jobs k job there))

pub for_more : (jobs : List Job) (gs after : List Grid) (places : List (Option ℕ)) (k : ℕ) (job : Job) (nth : Option ℕ)
    → AreFor jobs gs places → Adds gs after job nth → slice_get jobs k ≡ Some job → k < length places
    → AreFor jobs after (set places k nth)
for_more jobs gs after places k job nth now adds there l = record {
  copied = adds.copied jobs (contains_at jobs k job there) now.copied;
  each = λ j p e. elim (eqb_tells j k) [
    | inl q ↦
        let is : nth ≡ Some p =
        sym (get_or-set_same places k nth None l) ∙ (ap (λ i. get_or (set places k nth) i None) (sym q.1) ∙ e) in (
          job,
          ap (λ i. slice_get jobs i) q.1 ∙ there,
          subst (λ (o : Option ℕ). IfSome o (λ n. IsFor after n job)) is adds.given,
        )
    | inr q ↦
        let f = now.each j p (sym (get_or-set_other places k j nth None q.1) ∙ e) in
        let at = f.2.at in (
          f.0,
          f.1,
          record {
            factor = f.2.factor;
            by = f.2.by;
            at = record { copy = at.copy; there = adds.unchanged p at.copy at.there; same = at.same };
          },
        )
  ];
}
