-- The last open row, whose calls are all made one after the other.
use Rattle.std.proofs.Common.{◌≡◌, ◌<◌, ◌+◌, ◌^◌, ℕ, List, [], ◌∷◌, ◌++◌, Option, Some, length, set, sym, ap, ◌∙◌, subst, arith, append-nil}
use Rattle.std.proofs.lemmas.List.{length-set}
use Rattle.bpf_insn.specs.declared.operands.Kind.TheVariants as kinds
use Rattle.bpf_verify.specs.Accepted.{Accepted, IsAccepted}
use Rattle.bpf_run.specs.Calls.{steps_of}
use Rattle.bpf_run.specs.Fold.{fold_from, fold_calls_from}
use Rattle.entry_ops.specs.inner.Folding.{words, Open, open_of, Folding, ArePlaced, due, LeadsTo, Goes}
use Rattle.entry_ops.specs.declared.open_rows.OpenRow.{OpenRow}
use Rattle.entry_ops.proofs.OpenRows.{all_gone, due_append, leads_found, next_some}

module _ (f : Accepted) (lanes left : List Open) (results : List (Option ℕ)) (steps : ℕ) (old : Folding)
    (is : record { lanes = lanes; results = results; steps = steps } ≡ old) (row : OpenRow) (split : lanes ≡ left ++ open_of row ∷ []) where
  pub last_placed : ArePlaced (length results) lanes → (row.number < length results) × ArePlaced (length results) left
  last_placed h =
      let g = all_gone (λ (o : Open). o.number < length results) left (open_of row) [] (subst (ArePlaced (length results)) split h) in
      (g.0, subst (ArePlaced (length results)) (append-nil left) g.1)

  dues : due f lanes ≡ due f left + steps_of (fold_calls_from f row.so_far (row.next ∷ words row.rest.now))
  dues =
      let a = ap (due f) split in
      let b = due_append f left (open_of row ∷ []) in
      omega (arith, a, b)

  pub last_room : old.steps + due f old.lanes < 2 ^ 64 → steps + steps_of (fold_calls_from f row.so_far (row.next ∷ words row.rest.now)) < 2 ^ 64
  last_room r = let e = ap (λ (o : Folding). o.steps + due f o.lanes) is in let q = dues in omega (arith, r, e, q)

  module _ (cost more value : ℕ) (found : List (Option ℕ)) (v : value ≡ fold_from f row.so_far (row.next ∷ words row.rest.now))
      (c : cost ≡ steps_of (fold_calls_from f row.so_far (row.next ∷ words row.rest.now))) (m : more ≡ steps + cost)
      (r : found ≡ set results row.number (Some value)) where
    pub last_goes : ArePlaced (length results) lanes → Goes f old (record { lanes = left; results = found; steps = more })
    last_goes h =
        let q = dues in
        subst (λ (o : Folding). Goes f o (record { lanes = left; results = found; steps = more })) is (record {
          rows = ap (λ (os : List (Option ℕ)). length os) r ∙ length-set results row.number (Some value);
          leads = λ target l. subst (λ (xs : List Open). LeadsTo f target xs found) (append-nil left)
              (subst (λ (os : List (Option ℕ)). LeadsTo f target (left ++ []) os) (sym r)
              (leads_found f target left (open_of row) [] results
              (subst (λ (xs : List Open). LeadsTo f target xs results) split l) (last_placed h).0 value (ap Some v)));
          costs = omega (arith, q, c, m);
        })

    pub last_more : IsAccepted f → f.kind ≡ kinds.Binary → old.steps < more
    last_more a k =
        let p = next_some f row.so_far row.next a k in
        let e = ap (λ (o : Folding). o.steps) is in
        omega (arith, c, p, e, m)
