use Rattle.std.proofs.Common.{ap, ap₂, codes, Bool, false, refl, ◌||◌, ◌≡◌, ◌∙◌}
use Rattle.std.proofs.lemmas.Result.{IfOk-weaker}
use Rattle.clap.specs.Words.{app_of, new_app, with_rule}
use Rattle.clap.specs.Simple.{app_of_fields}
use Rattle.clap.specs.declared.builder.command.Command.TheViews.{out-Command}
use Rattle.command_line.proofs.grammar.run_command.Goals as goal

-- a command without globals has none after an argument that is none
still_local : {new old added : Bool} → new ≡ (old || added) → old ≡ false → added ≡ false → new ≡ false
still_local sum none none_more = rw (sum, none, none_more) refl

pub returns : goal.returns
returns c =
    let empty : app_of c.about.result ≡ new_app (codes "run") = ap app_of_fields c.about.ensures ∙ c.new.ensures.app in
    let one = c.in_ok-arg.ensures.shape c.steps_option.ensures.local ∙ ap₂ with_rule empty c.steps_option.ensures.rule in
    let two = c.in_ok-arg-2.ensures.shape c.workers_option.ensures.local ∙ ap₂ with_rule one c.workers_option.ensures.rule in
    let three = c.in_ok-arg-3.ensures.shape c.idle_option.ensures.local ∙ ap₂ with_rule two c.idle_option.ensures.rule in
    let four = c.in_ok-arg-4.ensures.shape c.log_option.ensures.local ∙ ap₂ with_rule three c.log_option.ensures.rule in
    let five = c.in_ok-arg-5.ensures.shape c.log_format_option.ensures.local ∙ ap₂ with_rule four c.log_format_option.ensures.rule in
    let local_0 : (out-Command c.about.result).has_globals ≡ false = rw (c.about.ensures, c.new.ensures.local) refl in
    let local_1 = still_local c.in_ok-arg.ensures.globals local_0 c.steps_option.ensures.local in
    let local_2 = still_local c.in_ok-arg-2.ensures.globals local_1 c.workers_option.ensures.local in
    let local_3 = still_local c.in_ok-arg-3.ensures.globals local_2 c.idle_option.ensures.local in
    let local_4 = still_local c.in_ok-arg-4.ensures.globals local_3 c.log_option.ensures.local in
    let local = still_local c.in_ok-arg-5.ensures.globals local_4 c.log_format_option.ensures.local in
    IfOk-weaker c.arg-6.result _ _
    (λ command added. (
      added.shape c.log_every_option.ensures.local ∙ ap₂ with_rule five c.log_every_option.ensures.rule,
      rw (added.globals, local, c.log_every_option.ensures.local) refl,
    )) c.arg-6.ensures
