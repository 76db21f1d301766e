use Rattle.std.proofs.Common.{rules, ap, ◌∙◌}
use Rattle.std.specs.Option.{option_map}
use Rattle.job_plan.proofs.Mapping.{found_all}
use Rattle.command_text.specs.Readings.{form_of, name_of}
use Rattle.command_text.specs.Requests.{named}
use Rattle.command_text.specs.inner.Lent.{lent}
use Rattle.command_text.proofs.submission.name_form.Goals as goal

pub returns : goal.returns
returns c =
    ap (option_map form_of) c.transpose.ensures
    ∙ found_all _ _ lent lent named named name_of name_of (λ x y e. search rules) (λ x y e. search rules) c.args.form c.map.result
    c.map.ensures
