-- What an operator keeps of rows, by its answers on all their entries.
use Rattle.std.proofs.Common.{◌≡◌, ◌≤◌, ◌+◌, ◌++◌, ◌∙◌, ℕ, zero, suc, nat_eq, if◌then◌else◌, List, [], ◌∷◌, length, drop, None, refl, sym, ap, arith, length-append, append_assoc}
use Rattle.std.proofs.Math.Seq.{drop-append_seam}
use Rattle.bpf_insn.specs.declared.operands.Operands.{Operands}
use Rattle.bpf_verify.specs.Accepted.{Accepted}
use Rattle.csr_store.specs.Grid.{Grid, IsGrid, row_of}
use Rattle.csr_store.specs.Along.{along}
use Rattle.csr_store.specs.Added.{kept_where, kept_rows}
use Rattle.csr_store.specs.Run.{Row}
use Rattle.csr_store.proofs.Along.{row_of-ascends}
use Rattle.bpf_run.specs.Calls.{Charges, calls_on, values_on, steps_of, entries_of}
use Rattle.bpf_run.proofs.Charging.{Spends, spends-step, spends-stop, spends-room, charges-all, calls_on-append, values_on-append}
use Rattle.entry_ops.specs.inner.Forms.{Select}
use Rattle.entry_ops.specs.inner.IndexCalls.{entries_along}
use Rattle.entry_ops.specs.inner.Walking.{form_row, form_rows, form_all_calls}
use Rattle.entry_ops.proofs.Mapped.{length_values, length_entries}
use Rattle.entry_ops.proofs.OperandReader.{alone-cells, alone-calls}

-- ---- some answers are there, and others are to come

pub record AreAnswers (f : Accepted) (all left : List Operands) (answers : List ℕ) (old steps : ℕ) : Type 0 where
  pub values : answers ++ values_on f left ≡ values_on f all
  pub spends : Spends (calls_on f all) old (calls_on f left) steps

pub answers-step : (f : Accepted) (all left first rest : List Operands) (answers here more : List ℕ) (old steps later : ℕ)
    → AreAnswers f all left answers old steps → left ≡ first ++ rest → here ≡ values_on f first → more ≡ answers ++ here
    → later ≡ steps + steps_of (calls_on f first) → AreAnswers f all rest more old later
answers-step f all left first rest answers here more old steps later h p v m s = record {
  values = ap (λ vs. vs ++ values_on f rest) (m ∙ ap (λ vs. answers ++ vs) v)
      ∙ (append_assoc answers (values_on f first) (values_on f rest)
      ∙ (ap (λ vs. answers ++ vs) (sym (values_on-append f first rest) ∙ ap (values_on f) (sym p)) ∙ h.values));
  spends = spends-step (calls_on f all) old (calls_on f left) steps (calls_on f first) (calls_on f rest) later h.spends
      (ap (calls_on f) p ∙ calls_on-append f first rest) s;
}

module _ (f : Accepted) (all left first rest : List Operands) (answers : List ℕ) (old steps : ℕ) (h : AreAnswers f all left answers old steps) (p : left ≡ first ++ rest) where
  is : calls_on f left ≡ calls_on f first ++ calls_on f rest
  is = ap (calls_on f) p ∙ calls_on-append f first rest

  -- the first of the calls to come cost no more than all
  pub answers-room : steps + steps_of (calls_on f first) ≤ old + steps_of (calls_on f all)
  answers-room = spends-room (calls_on f all) old (calls_on f left) steps (calls_on f first) (calls_on f rest) h.spends is

  -- they are made, and no more
  pub answers-stop : (later : ℕ) → later ≡ steps + steps_of (calls_on f first) → Charges (calls_on f all) old later
  answers-stop later e = spends-stop (calls_on f all) old (calls_on f left) steps (calls_on f first) (calls_on f rest) later h.spends is (charges-all (calls_on f first) steps later e)

-- ---- the answers on all entries of rows

module _ (f : Accepted) (a : Grid) (thunk : ℕ) where
  pub length_along : (i n : ℕ) → length (values_on f (entries_along a thunk i n)) ≡ length (along (row_of a) i n)
  length_along i n = length_values f (entries_along a thunk i n) ∙ go i n where
    go : (i n : ℕ) → length (entries_along a thunk i n) ≡ length (along (row_of a) i n)
    go i zero = refl
    go i (suc n) =
        let r = go (suc i) n in let e = length_entries i thunk (row_of a i) in
        omega (
          arith,
          length-append (entries_of i thunk (row_of a i)) (entries_along a thunk (suc i) n),
          length-append (row_of a i) (along (row_of a) (suc i) n),
          r,
          e,
        )

  -- answers beyond those of the cells don't matter
  kept_before : (cells : Row) (vs ws : List ℕ) → length vs ≡ length cells → kept_where cells (vs ++ ws) ≡ kept_where cells vs
  kept_before [] vs ws e = refl
  kept_before (c ∷ cells) [] ws e = absurd (omega (arith, e))
  kept_before (c ∷ cells) (v ∷ vs) ws e = ap (λ r. if nat_eq v 0 then r else c ∷ r) (kept_before cells vs ws (omega (arith, e)))

  pub kept_along : IsGrid a → (i n : ℕ) (vs : List ℕ) → vs ≡ values_on f (entries_along a thunk i n) → kept_rows a vs i n ≡ form_rows (Select thunk) f a None None i n
  kept_along g i zero vs e = refl
  kept_along g i (suc n) vs e =
      let here = values_on f (entries_of i thunk (row_of a i)) in
      let rest = values_on f (entries_along a thunk (suc i) n) in
      let parts : vs ≡ here ++ rest = e ∙ values_on-append f (entries_of i thunk (row_of a i)) (entries_along a thunk (suc i) n) in
      let long : length here ≡ length (row_of a i) = length_values f (entries_of i thunk (row_of a i)) ∙ length_entries i thunk (row_of a i) in
      ap (λ r. r ∷ kept_rows a (drop (length (row_of a i)) vs) (suc i) n)
      (ap (kept_where (row_of a i)) parts ∙ (kept_before (row_of a i) here rest long ∙ sym (alone-cells f i thunk a.columns 0 (row_of a i) (row_of-ascends a i g))))
      ∙ ap (λ rs. form_row (Select thunk) f a None None i ∷ rs)
      (kept_along g (suc i) n (drop (length (row_of a i)) vs)
      (ap (drop (length (row_of a i))) parts ∙ (ap (λ k. drop k (here ++ rest)) (sym long) ∙ drop-append_seam here rest)))

  pub calls_along : IsGrid a → (first n : ℕ) → form_all_calls (Select thunk) f a None None first n ≡ calls_on f (entries_along a thunk first n)
  calls_along g first zero = refl
  calls_along g first (suc n) =
      ap (λ cs. cs ++ form_all_calls (Select thunk) f a None None (suc first) n) (alone-calls f first thunk a.columns 0 (row_of a first) (row_of-ascends a first g))
      ∙ (ap (λ cs. calls_on f (entries_of first thunk (row_of a first)) ++ cs) (calls_along g (suc first) n)
      ∙ sym (calls_on-append f (entries_of first thunk (row_of a first)) (entries_along a thunk (suc first) n)))
