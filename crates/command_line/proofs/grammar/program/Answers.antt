use Rattle.std.proofs.Common.{ap, ap₂, codes, true, ◌≡◌, ◌∙◌}
use Rattle.std.proofs.lemmas.Result.{IfOk-weaker}
use Rattle.clap.specs.Words.{App, app_of, new_app, with_subcommand}
use Rattle.clap.specs.Simple.{app_of_fields}
use Rattle.command_line.proofs.grammar.program.Goals as goal

abbrev versioned : App → App
versioned app = record app { top = record app.top { has_version = true } }

abbrev required : App → App
required app = record app { top = record app.top { subcommand_required = true } }

pub returns : goal.returns
returns c =
    let top_is : app_of c.subcommand_required.result ≡ required (versioned (new_app (codes "spmat"))) =
    ap app_of_fields c.subcommand_required.ensures ∙ ap required (ap app_of_fields c.about.ensures
    ∙ (ap app_of_fields c.version.ensures ∙ ap versioned c.new.ensures.app)) in
    let one = c.in_ok-subcommand.ensures.shape c.in_ok-run_command.ensures.1
    ∙ ap₂ with_subcommand top_is (ap (λ (a : App). a.top) c.in_ok-run_command.ensures.0) in
    IfOk-weaker c.subcommand-2.result _ _
    (λ command added. added.shape c.in_ok-serve_command.ensures.1
    ∙ ap₂ with_subcommand one (ap (λ (a : App). a.top) c.in_ok-serve_command.ensures.0)) c.subcommand-2.ensures
