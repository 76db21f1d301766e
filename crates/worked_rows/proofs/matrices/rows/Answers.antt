use Rattle.std.proofs.Common.{None, List, map, ap, refl}
use Rattle.bpf_run.specs.Meaning.{value_of, cost_of}
use Rattle.bpf_run.specs.Calls.{steps_of}
use Rattle.bpf_run.specs.Fold.{fold, fold_calls}
use Rattle.csr_store.specs.Grid.{Cell}
use Rattle.job_forms.specs.Forms.{applied, selected}
use Rattle.worked_rows.specs.Rows.{inc, sub, on_diagonal}
use Rattle.worked_rows.proofs.Stored.{at_place, in_row, of_two, of_three}
use Rattle.worked_rows.proofs.matrices.rows.Goals as goal

pub returns-clause-applied : goal.returns-clause-applied
unfolding value_of
returns-clause-applied c = ap (applied inc None (0, 1)) (at_place 1 2 of_two (0, 1))

pub returns-clause-fold : goal.returns-clause-fold
unfolding value_of
returns-clause-fold c = ap (λ (cells : List Cell). fold sub (map (λ (c : Cell). c.1) cells)) (in_row 2 3 of_three 0 refl)

pub returns-clause-steps : goal.returns-clause-steps
unfolding value_of cost_of
returns-clause-steps c =
    ap (λ (cells : List Cell). steps_of (fold_calls sub (map (λ (c : Cell). c.1) cells))) (in_row 2 3 of_three 0 refl)

pub returns-clause-empty : goal.returns-clause-empty
returns-clause-empty c = ap (λ (cells : List Cell). fold sub (map (λ (c : Cell). c.1) cells)) (in_row 2 3 of_three 1 refl)

pub returns-clause-selected : goal.returns-clause-selected
unfolding value_of
returns-clause-selected c = ap (selected on_diagonal 0 (0, 0)) (at_place 1 2 of_two (0, 0))

pub returns-clause-dropped : goal.returns-clause-dropped
unfolding value_of
returns-clause-dropped c = ap (selected on_diagonal 0 (0, 1)) (at_place 1 2 of_two (0, 1))
