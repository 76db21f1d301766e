-- A row that is folded by itself is a block of one row.
use Rattle.std.proofs.Common.{◌≡◌, ◌<◌, ◌+◌, ℕ, zero, suc, List, [], ◌∷◌, Option, None, get_or, refl, sym, ap, ◌∙◌, arith, append-nil}
use Rattle.bpf_verify.specs.Accepted.{Accepted}
use Rattle.csr_store.specs.Grid.{Grid, Cell, row_of}
use Rattle.csr_store.specs.Mask.{passes, cut, listed_under, all_listed_under}
use Rattle.bpf_run.specs.Calls.{steps_of}
use Rattle.bpf_run.specs.Fold.{fold, fold_calls}
use Rattle.job_forms.specs.Forms.{reduce_at, reduce_calls_at}
use Rattle.entry_ops.specs.inner.Folding.{words, target_of, AreResults}
use Rattle.entry_ops.proofs.Folding.{cells_shown, shown_fold, steps_here}

module _ (f : Accepted) (a : Grid) (mask : Option Grid) (i : ℕ) (cells : List Cell) (shown : cells ≡ cells_shown f a mask i) where
  pub one-steps : steps_of (all_listed_under mask 1 (reduce_calls_at f a) i 1) ≡ steps_of (fold_calls f (words cells))
  one-steps = ap steps_of (append-nil (listed_under mask 1 (reduce_calls_at f a) i)) ∙ steps_here f a mask i
      ∙ ap (λ (cs : List Cell). steps_of (fold_calls f (words cs))) (sym shown)

  pub one-result : (v : Option ℕ) → v ≡ fold f (words cells) → AreResults f a mask i 1 (v ∷ [])
  one-result v e = record { count = refl; each = each }
    where
      each : (k : ℕ) → k < 1 → get_or (v ∷ []) k None ≡ target_of f a mask i k
      each zero l =
          let z : i ≡ i + 0 = omega arith in
          e ∙ ap (λ (cs : List Cell). fold f (words cs)) shown ∙ sym (shown_fold f (row_of a i) (passes mask (i, 0)))
          ∙ ap (λ j. cut mask (reduce_at f a) (j, 0)) z
      each (suc k) l = absurd (omega (arith, l))
