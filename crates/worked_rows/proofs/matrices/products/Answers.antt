use Rattle.std.proofs.Common.{◌∙◌, ℕ, List, [], ◌++◌, Option, Some, ap, refl}
use Rattle.std.specs.FinMap.{get}
use Rattle.bpf_run.specs.Meaning.{value_of, cost_of}
use Rattle.bpf_run.specs.Calls.{Call, steps_of}
use Rattle.bpf_run.specs.Fold.{fold, fold_calls}
use Rattle.csr_store.specs.Grid.{Cell}
use Rattle.job_forms.specs.Product.{term, term_calls, terms, mul_calls}
use Rattle.worked_rows.specs.Rows.{sub, mul, tall}
use Rattle.worked_rows.proofs.Stored.{at_place, in_row, of_wide, of_tall}
use Rattle.worked_rows.proofs.matrices.products.Goals as goal

-- the terms of 10 and 3, by what stands in the two rows of the column
abbrev both_terms : Option ℕ → Option ℕ → List ℕ
both_terms x y = term mul 10 x ++ (term mul 3 y ++ [])

abbrev both_calls : Option ℕ → Option ℕ → List Call
both_calls x y = (term_calls mul 10 x ++ (term_calls mul 3 y ++ [])) ++ fold_calls sub (both_terms x y)

pub returns-clause-entry : goal.returns-clause-entry
unfolding value_of
returns-clause-entry c =
    ap (λ (cells : List Cell). fold sub (terms mul tall cells 0)) (in_row 1 2 of_wide 0 refl)
    ∙ (ap (λ (x : Option ℕ). fold sub (both_terms x (get tall.cells (1, 0)))) (at_place 2 1 of_tall (0, 0))
    ∙ ap (λ (y : Option ℕ). fold sub (both_terms (Some 1) y)) (at_place 2 1 of_tall (1, 0)))

pub returns-clause-steps : goal.returns-clause-steps
unfolding value_of cost_of
returns-clause-steps c =
    ap (λ (cells : List Cell). steps_of (mul_calls mul tall cells 0 ++ fold_calls sub (terms mul tall cells 0))) (in_row 1 2 of_wide 0 refl)
    ∙ (ap (λ (x : Option ℕ). steps_of (both_calls x (get tall.cells (1, 0)))) (at_place 2 1 of_tall (0, 0))
    ∙ ap (λ (y : Option ℕ). steps_of (both_calls (Some 1) y)) (at_place 2 1 of_tall (1, 0)))
