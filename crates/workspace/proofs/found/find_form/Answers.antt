use Rattle.std.proofs.Common.{rules, ap, ◌∙◌}
use Rattle.std.specs.Option.{option_map}
use Rattle.job_plan.proofs.Mapping.{found_all}
use Rattle.command_text.specs.Readings.{name_of}
use Rattle.workspace.specs.Workspace.{state_of}
use Rattle.workspace.specs.inner.Lent.{lent_form, lent_matrix, lent_operator}
use Rattle.workspace.proofs.found.find_form.Goals as goal

pub returns : goal.returns
returns c =
    let state = state_of c.args.workspace.now in
    ap (option_map lent_form) c.transpose.ensures
    ∙ found_all _ _ name_of name_of state.operators state.matrices lent_operator lent_matrix (λ x y e. search rules)
    (λ x y e. search rules) c.args.form c.map.result c.map.ensures
