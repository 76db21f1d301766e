use Rattle.std.proofs.Common.{◌∙◌, ℕ, [], Option, Some, ap}
use Rattle.std.specs.FinMap.{get}
use Rattle.bpf_run.specs.Meaning.{value_of}
use Rattle.bpf_run.specs.Calls.{steps_of}
use Rattle.job_forms.specs.Forms.{united, joint, joint_calls}
use Rattle.worked_rows.specs.Rows.{sub, two}
use Rattle.worked_rows.proofs.Stored.{at_place, of_wide, of_two}
use Rattle.worked_rows.proofs.matrices.unions.Goals as goal

pub returns-clause-copies : goal.returns-clause-copies
returns-clause-copies c =
    ap (λ (x : Option ℕ). united sub x (get two.cells (0, 1))) (at_place 1 2 [] (0, 1)) ∙ at_place 1 2 of_two (0, 1)

pub returns-clause-free : goal.returns-clause-free
returns-clause-free c =
    ap (λ (x : Option ℕ). steps_of (joint_calls sub x (get two.cells (0, 1)))) (at_place 1 2 [] (0, 1))

pub returns-clause-none : goal.returns-clause-none
returns-clause-none c = ap (λ (x : Option ℕ). joint sub x (get two.cells (0, 1))) (at_place 1 2 [] (0, 1))

pub returns-clause-both : goal.returns-clause-both
unfolding value_of
returns-clause-both c =
    ap (λ (x : Option ℕ). joint sub x (get two.cells (0, 1))) (at_place 1 2 of_wide (0, 1))
    ∙ ap (joint sub (Some 3)) (at_place 1 2 of_two (0, 1))
