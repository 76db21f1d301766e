-- The reduction of a block of rows: what is still to come completes it.
use Rattle.std.proofs.Common.{◌≡◌, ◌⊎◌, ◌≤◌, ◌<◌, ◌+◌, ◌-◌, ◌*◌, ℕ, suc, Bool, true, false, if◌then◌else◌, List, [], ◌∷◌, ◌++◌, Option, None, Some, length, get_or, map, inl, inr, refl, sym, ap, ◌∙◌, subst, arith, append-nil}
use Rattle.std.specs.List.{AllByRecursion}
use Rattle.bpf_insn.specs.declared.operands.Kind.TheVariants as kinds
use Rattle.bpf_verify.specs.Accepted.{Accepted, IsAccepted}
use Rattle.csr_store.specs.Grid.{Grid, Cell, row_of}
use Rattle.csr_store.specs.Along.{cell_at}
use Rattle.csr_store.specs.Mask.{passes, cut, cut_list, row_under, rows_under, listed_under, all_listed_under}
use Rattle.csr_store.proofs.Along.{along-next}
use Rattle.bpf_run.specs.Calls.{Call, steps_of}
use Rattle.bpf_run.specs.Fold.{fold, fold_from, fold_calls}
use Rattle.bpf_run.proofs.Charging.{steps-append}
use Rattle.bpf_run.proofs.Folds.{fold_from-few}
use Rattle.job_forms.specs.Forms.{reduce_at, reduce_calls_at}
use Rattle.entry_ops.specs.inner.Folding.{
  words,
  Open,
  Folding,
  due,
  IsAmong,
  indices,
  Goes,
  Begins,
  target_of,
  IsFolding,
  AreResults,
}

-- ---- a row that the mask may not show

pub shown_fold : (f : Accepted) (cells : List Cell) (b : Bool)
    → (if b then fold f (words cells) else None) ≡ fold f (words (if b then cells else []))
shown_fold f cells true = refl
shown_fold f cells false = refl

shown_calls : (f : Accepted) (cells : List Cell) (b : Bool)
    → (if b then fold_calls f (words cells) else []) ≡ fold_calls f (words (if b then cells else []))
shown_calls f cells true = refl
shown_calls f cells false = refl

module _ (f : Accepted) (a : Grid) (mask : Option Grid) where
  -- the cells of a row that are folded
  abbrev pub cells_shown : ℕ → List Cell
  cells_shown i = if passes mask (i, 0) then row_of a i else []

  abbrev calls_here : ℕ → List Call
  calls_here i = listed_under mask 1 (reduce_calls_at f a) i

  abbrev pub all_calls : ℕ → ℕ → List Call
  all_calls first n = all_listed_under mask 1 (reduce_calls_at f a) first n

  pub steps_here : (i : ℕ) → steps_of (calls_here i) ≡ steps_of (fold_calls f (words (cells_shown i)))
  steps_here i = ap steps_of (append-nil (cut_list mask (reduce_calls_at f a) (i, 0)) ∙ shown_calls f (row_of a i) (passes mask (i, 0)))

  module _ (first many total : ℕ) where
    pub folding-start : (e : Folding) → e.lanes ≡ [] → e.results ≡ [] → total ≡ e.steps + steps_of (all_calls first many)
        → IsFolding f a mask first many total e
    folding-start e ls rs t =
        let n : length e.results ≡ 0 = ap (λ (xs : List (Option ℕ)). length xs) rs in
        let z : first + length e.results ≡ first = omega (arith, n) in
        let m : many - length e.results ≡ many = omega (arith, n) in
        let d = ap (due f) ls in
        let s = ap (λ i. steps_of (all_calls i (many - length e.results))) z ∙ ap (λ k. steps_of (all_calls first k)) m in
        record {
          leads = record {
            opened = subst (λ (xs : List Open). AllByRecursion (λ (l : Open). Some (fold_from f l.so_far l.terms)
                ≡ target_of f a mask first l.number) xs) (sym ls) tt;
            known = λ k b. absurd (omega (arith, n, b));
          };
          costs = omega (arith, t, d, s);
        }

    pub folding-begin : (e next : Folding) → length e.results < many → IsFolding f a mask first many total e
        → Begins f (cells_shown (first + length e.results)) e next → IsFolding f a mask first many total next
    folding-begin e next l h b =
        let i = first + length e.results in
        let r = b.rows in
        let c = h.costs in
        let d = b.costs in
        let k = steps_here i in
        let to = first + many in
        let rest = many - length e.results in
        let after = many - length next.results in
        let last : i < to = omega (arith, l) in
        let x : to - i ≡ rest = omega (arith, l) in
        let y : to - (i + 1) ≡ after = omega (arith, l, r) in
        let z : i + 1 ≡ first + length next.results = omega (arith, r) in
        let split : all_calls i rest ≡ calls_here i ++ all_calls (first + length next.results) after =
        ap (all_calls i) (sym x) ∙ along-next calls_here i to last
        ∙ ap (λ n. calls_here i ++ all_calls (i + 1) n) y ∙ ap (λ j. calls_here i ++ all_calls j after) z in
        let sum = ap steps_of split ∙ steps-append (calls_here i) (all_calls (first + length next.results) after) in
        record {
          leads = b.leads (target_of f a mask first) h.leads (shown_fold f (row_of a i) (passes mask (i, 0)));
          costs = omega (arith, c, d, k, sum);
        }

    pub folding-go : (e next : Folding) → IsFolding f a mask first many total e → Goes f e next → IsFolding f a mask first many total next
    folding-go e next h g =
        let c = h.costs in
        let d = g.costs in
        let s = ap (λ n. steps_of (all_calls (first + n) (many - n))) g.rows in
        record { leads = g.leads (target_of f a mask first) h.leads; costs = omega (arith, c, d, s) }

    module _ (e : Folding) (h : IsFolding f a mask first many total e) where
      -- the calls to come in lanes fit in
      pub folding-room : e.steps + due f e.lanes ≤ total
      folding-room = let c = h.costs in omega (arith, c)

      module _ (ls : e.lanes ≡ []) (n : length e.results ≡ many) where
        known_all : (k : ℕ) → (get_or e.results k None ≡ target_of f a mask first k) ⊎ IsAmong k (indices e.lanes)
            → get_or e.results k None ≡ target_of f a mask first k
        known_all k (inl q) = q
        known_all k (inr r) = absurd (subst (λ (xs : List Open). IsAmong k (indices xs)) ls r)

        pub folding-results : AreResults f a mask first many e.results
        folding-results = record { count = n; each = λ k b. known_all k (h.leads.known k (omega (arith, n, b))) }

        pub folding-steps : e.steps ≡ total
        folding-steps =
            let c = h.costs in
            let d = ap (due f) ls in
            let z : many - length e.results ≡ 0 = omega (arith, n) in
            let s = ap (λ k. steps_of (all_calls (first + length e.results) k)) z in
            omega (arith, c, d, s)

  -- ---- the rows of a block

  rows-known : (results : List (Option ℕ)) (first : ℕ)
      → ((k : ℕ) → k < length results → get_or results k None ≡ cut mask (reduce_at f a) (first + k, 0))
      → map (cell_at 0) results ≡ rows_under mask 1 (reduce_at f a) first (length results)
  rows-known [] first h = refl
  rows-known (r ∷ rs) first h =
      let z : first + 0 ≡ first = omega arith in
      let one : r ≡ cut mask (reduce_at f a) (first, 0) = h 0 (omega arith) ∙ ap (λ i. cut mask (reduce_at f a) (i, 0)) z in
      ap (λ row. row ∷ map (cell_at 0) rs) (ap (cell_at 0) one ∙ sym (append-nil (cell_at 0 (cut mask (reduce_at f a) (first, 0)))))
      ∙ ap (λ rows. row_under mask 1 (reduce_at f a) first ∷ rows) (rows-known rs (suc first) (λ k b.
      let s : first + suc k ≡ suc first + k = omega arith in
      h (suc k) (omega (arith, b)) ∙ ap (λ i. cut mask (reduce_at f a) (i, 0)) s))

  pub rows-are : (first many : ℕ) (results : List (Option ℕ)) → AreResults f a mask first many results
      → map (cell_at 0) results ≡ rows_under mask 1 (reduce_at f a) first many
  rows-are first many results h =
      let n = h.count in
      rows-known results first (λ k b. h.each k (omega (arith, n, b))) ∙ ap (rows_under mask 1 (reduce_at f a) first) n

-- a fold of words takes at most 4096 steps a word
pub fold-few : (f : Accepted) (ts : List ℕ) → IsAccepted f → f.kind ≡ kinds.Binary → steps_of (fold_calls f ts) ≤ 4096 * length ts
fold-few f [] is k = omega arith
fold-few f (t ∷ ts) is k = let r = fold_from-few f t ts is k in omega arith
