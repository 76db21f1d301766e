-- The reductions of the rows of a range, block by block.
use Rattle.std.proofs.Common.{
  ◌≡◌,
  ◌≤◌,
  ◌<◌,
  ◌+◌,
  ◌-◌,
  ◌^◌,
  ℕ,
  Bool,
  true,
  false,
  if◌then◌else◌,
  List,
  [],
  ◌∷◌,
  ◌++◌,
  Option,
  map,
  Result,
  Ok,
  sym,
  ap,
  ◌∙◌,
  subst,
  arith,
  append-nil,
  append_assoc,
}
use Rattle.std.proofs.lemmas.List.{length-map}
use Rattle.std.specs.declared.alloc.AllocError.{AllocError}
use Rattle.bpf_insn.specs.declared.operands.Kind.TheVariants as kinds
use Rattle.bpf_verify.specs.Accepted.{Accepted, IsAccepted}
use Rattle.csr_store.specs.Grid.{Grid, IsGrid, Cell, row_of}
use Rattle.csr_store.specs.Run.{Row, Run}
use Rattle.csr_store.specs.Along.{along, cell_at}
use Rattle.csr_store.specs.Mask.{passes, cut_list, row_under, rows_under, listed_under, all_listed_under}
use Rattle.csr_store.proofs.Along.{along-split, along-over, length-row_of, Fills, fills-start, fills-end}
use Rattle.bpf_run.specs.Calls.{Call, steps_of, Charges}
use Rattle.bpf_run.proofs.Charging.{Spends, spends-start, spends-step, spends-none, spends-end, spends-room}
use Rattle.job_forms.specs.Forms.{reduce_at, reduce_calls_at, row_words}
use Rattle.job_forms.specs.Region.{IsPartOf, Adds, nothing_made, finished}
use Rattle.job_forms.specs.declared.region.Region.{Region}
use Rattle.job_forms.specs.declared.region.Chunk.{Chunk}
use Rattle.job_forms.specs.declared.region.Making.{Making}
use Rattle.job_forms.proofs.Regions.{made-of_nothing}
use Rattle.entry_ops.specs.inner.Folding.{AreResults, AddsReduced}
use Rattle.entry_ops.proofs.Bounds.{steps-along}
use Rattle.entry_ops.proofs.Folding.{fold-few, rows-are}

-- some of the rows that are still to come are added at once
fills-block : (row : ℕ → Row) (from to : ℕ) (start : Run) (i n : ℕ) (now later : Run) → Fills row from to start i now → i + n ≤ to
    → later ≡ record now { ended = now.ended ++ along (λ k. row k ∷ []) i n; opened = [] } → Fills row from to start (i + n) later
fills-block row from to start i n now later m l t =
    let rows = along (λ k. row k ∷ []) i n in
    let o : later.ended ≡ now.ended ++ rows = ap (λ (u : Run). u.ended) t in
    let was : [] ≡ start.opened = sym m.closed ∙ ap (λ (u : Run). u.opened) m.run in
    let e : to - i ≡ n + (to - (i + n)) = omega (arith, l) in
    record {
      run = t ∙ (ap (λ (u : Run). record u { ended = now.ended ++ rows; opened = [] }) m.run
          ∙ (ap (λ os. record start { ended = now.ended ++ rows; opened = os }) was ∙ ap (λ es. record start { ended = es })
          (sym o)));
      closed = ap (λ (u : Run). u.opened) t;
      listed = ap (λ es. es ++ along (λ k. row k ∷ []) (i + n) (to - (i + n))) o
          ∙ (append_assoc now.ended rows (along (λ k. row k ∷ []) (i + n) (to - (i + n)))
          ∙ (ap (λ es. now.ended ++ es) (sym (ap (along (λ k. row k ∷ []) i) e ∙ along-split (λ k. row k ∷ []) i n (to - (i + n))))
          ∙ m.listed));
    }

module _ (f : Accepted) (a : Grid) (mask : Option Grid) where
  abbrev pub row_here : ℕ → Row
  row_here i = row_under mask 1 (reduce_at f a) i

  abbrev pub calls_here : ℕ → List Call
  calls_here i = listed_under mask 1 (reduce_calls_at f a) i

  abbrev pub all_calls : ℕ → ℕ → List Call
  all_calls first n = all_listed_under mask 1 (reduce_calls_at f a) first n

  calls_one : (i : ℕ) → cut_list mask (reduce_calls_at f a) (i, 0) ≡ calls_here i
  calls_one i = sym (append-nil (cut_list mask (reduce_calls_at f a) (i, 0)))

  module _ (from to : ℕ) (start : Making) where
    pub record IsReducing (i : ℕ) (now : Making) : Type 0 where
      pub within : i ≤ to
      pub fills : Fills row_here from to start.rows i now.rows
      pub spends : Spends (all_calls from (to - from)) start.steps (all_calls i (to - i)) now.steps

    -- only the room in them changed
    pub reducing-start : (now : Making) → from ≤ to → start ≡ nothing_made from 1 → now.rows ≡ start.rows → now.steps ≡ start.steps
        → IsReducing from now
    reducing-start now l o r s = record {
      within = l;
      fills = subst (Fills row_here from to start.rows from) (sym r)
          (fills-start row_here from to start.rows (ap (λ (m : Making). m.rows.opened) o));
      spends = subst (Spends (all_calls from (to - from)) start.steps (all_calls from (to - from))) (sym s)
          (spends-start (all_calls from (to - from)) start.steps);
    }

    module _ (i : ℕ) (now : Making) (r : IsReducing i now) where
      pub reducing-closed : now.rows.opened ≡ []
      reducing-closed = r.fills.closed

      pub reducing-end : to ≤ i → (x : Unit {0})
          → Adds (rows_under mask 1 (reduce_at f a) from (to - from)) (all_calls from (to - from)) start now (Ok x)
      reducing-end l x = record {
        rows = fills-end row_here from to start.rows i now.rows r.fills l;
        steps = spends-end (all_calls from (to - from)) start.steps (all_calls i (to - i)) now.steps r.spends
            (along-over calls_here i to l);
        spent = tt;
      }

      module _ (n : ℕ) (l : i + n ≤ to) where
        next_calls : all_calls i (to - i) ≡ all_calls i n ++ all_calls (i + n) (to - (i + n))
        next_calls =
            let e : to - i ≡ n + (to - (i + n)) = omega (arith, l) in
            ap (along calls_here i) e ∙ along-split calls_here i n (to - (i + n))

        pub reducing-room : start ≡ nothing_made from 1 → steps_of (all_calls from (to - from)) < 2 ^ 64
            → now.steps + steps_of (all_calls i n) < 2 ^ 64
        reducing-room o h =
            let m = spends-room (all_calls from (to - from)) start.steps (all_calls i (to - i)) now.steps (all_calls i n)
            (all_calls (i + n) (to - (i + n))) r.spends next_calls in
            let z = ap (λ (k : Making). k.steps) o in
            omega (arith, m, z, h)

        module _ (more : ℕ) (m : more ≡ now.steps + steps_of (all_calls i n)) where
          spent : Spends (all_calls from (to - from)) start.steps (all_calls (i + n) (to - (i + n))) more
          spent = spends-step (all_calls from (to - from)) start.steps (all_calls i (to - i)) now.steps _ _ more r.spends
              next_calls m

          pub reducing-step : (results : List (Option ℕ)) → AreResults f a mask i n results → (later : Run)
              → later ≡ record now.rows { ended = now.rows.ended ++ map (cell_at 0) results; opened = [] }
              → IsReducing (i + n) (record { rows = later; steps = more })
          reducing-step results h later e = record {
            within = l;
            fills = fills-block row_here from to start.rows i n now.rows later r.fills l
                (e ∙ ap (λ rows. record now.rows { ended = now.rows.ended ++ rows; opened = [] })
                (rows-are f a mask i n results h));
            spends = spent;
          }

          pub reducing-stop : Charges (all_calls from (to - from)) start.steps more
          reducing-stop = spends-none (all_calls from (to - from)) start.steps _ more spent

  few_at : (i : ℕ) → IsAccepted f → f.kind ≡ kinds.Binary → IsGrid a → steps_of (calls_here i) ≤ 68719476736
  few_at i is k g =
      let s = ap steps_of (sym (calls_one i)) in
      let c = few_cut (passes mask (i, 0)) in
      omega arith
    where
      few_cut : (b : Bool) → steps_of (if b then reduce_calls_at f a (i, 0) else []) ≤ 68719476736
      few_cut false = omega arith
      few_cut true =
          let h = fold-few f (row_words a i) is k in
          let n = length-map (row_of a i) (λ (c : Cell). c.1) in
          let w = length-row_of a i g in
          let s = g.columns_small in
          omega arith

  pub few_reduced : (first n : ℕ) → IsAccepted f → f.kind ≡ kinds.Binary → IsGrid a → n ≤ a.rows
      → steps_of (all_calls first n) < 2 ^ 64
  few_reduced first n is k g l =
      let h = steps-along calls_here first n 68719476736 (λ i. few_at i is k g) in
      let r = g.rows_small in
      omega arith

-- what was begun with nothing and reduced is that part of the result
pub reduced : (f : Accepted) (a : Grid) (region : Region) (old new : Making) (filled : Result (Unit {0}) AllocError) (made : Chunk)
    → old ≡ nothing_made region.range.start 1 → AddsReduced f a region old new filled → made ≡ finished new filled
    → IsPartOf 1 (reduce_at f a) (reduce_calls_at f a) region made
reduced f a region old new filled made o h e =
    subst (IsPartOf 1 (reduce_at f a) (reduce_calls_at f a) region) (sym e)
    (made-of_nothing region.range.start 1 _ _ new filled (subst (λ (m : Making). AddsReduced f a region m new filled) o h))
