use Rattle.std.proofs.Common.{ap, ap₂, codes, Bool, false, refl, ◌||◌, ◌≡◌, ◌∙◌}
use Rattle.std.proofs.lemmas.Result.{IfOk-weaker}
use Rattle.clap.specs.Words.{app_of, new_app, with_rule}
use Rattle.clap.specs.Simple.{app_of_fields}
use Rattle.clap.specs.declared.builder.command.Command.TheViews.{out-Command}
use Rattle.command_line.proofs.grammar.serve_command.Goals as goal

-- a command without globals has none after an argument that is none
still_local : {new old added : Bool} → new ≡ (old || added) → old ≡ false → added ≡ false → new ≡ false
still_local sum none none_more = rw (sum, none, none_more) refl

pub returns : goal.returns
returns c =
    let empty : app_of c.about.result ≡ new_app (codes "serve") = ap app_of_fields c.about.ensures ∙ c.new.ensures.app in
    let one = c.in_ok-arg.ensures.shape c.port_option.ensures.local ∙ ap₂ with_rule empty c.port_option.ensures.rule in
    let two = c.in_ok-arg-2.ensures.shape c.steps_option.ensures.local ∙ ap₂ with_rule one c.steps_option.ensures.rule in
    let three = c.in_ok-arg-3.ensures.shape c.workers_option.ensures.local ∙ ap₂ with_rule two c.workers_option.ensures.rule in
    let four = c.in_ok-arg-4.ensures.shape c.sessions_option.ensures.local ∙ ap₂ with_rule three c.sessions_option.ensures.rule in
    let five = c.in_ok-arg-5.ensures.shape c.idle_option.ensures.local ∙ ap₂ with_rule four c.idle_option.ensures.rule in
    let six = c.in_ok-arg-6.ensures.shape c.session_seconds_option.ensures.local ∙ ap₂ with_rule five c.session_seconds_option.ensures.rule in
    let seven = c.in_ok-arg-7.ensures.shape c.min_rate_option.ensures.local ∙ ap₂ with_rule six c.min_rate_option.ensures.rule in
    let eight = c.in_ok-arg-8.ensures.shape c.session_steps_option.ensures.local ∙ ap₂ with_rule seven c.session_steps_option.ensures.rule in
    let nine = c.in_ok-arg-9.ensures.shape c.session_reserve_option.ensures.local ∙ ap₂ with_rule eight c.session_reserve_option.ensures.rule in
    let ten = c.in_ok-arg-10.ensures.shape c.log_option.ensures.local ∙ ap₂ with_rule nine c.log_option.ensures.rule in
    let eleven = c.in_ok-arg-11.ensures.shape c.log_format_option.ensures.local ∙ ap₂ with_rule ten c.log_format_option.ensures.rule in
    let local_0 : (out-Command c.about.result).has_globals ≡ false = rw (c.about.ensures, c.new.ensures.local) refl in
    let local_1 = still_local c.in_ok-arg.ensures.globals local_0 c.port_option.ensures.local in
    let local_2 = still_local c.in_ok-arg-2.ensures.globals local_1 c.steps_option.ensures.local in
    let local_3 = still_local c.in_ok-arg-3.ensures.globals local_2 c.workers_option.ensures.local in
    let local_4 = still_local c.in_ok-arg-4.ensures.globals local_3 c.sessions_option.ensures.local in
    let local_5 = still_local c.in_ok-arg-5.ensures.globals local_4 c.idle_option.ensures.local in
    let local_6 = still_local c.in_ok-arg-6.ensures.globals local_5 c.session_seconds_option.ensures.local in
    let local_7 = still_local c.in_ok-arg-7.ensures.globals local_6 c.min_rate_option.ensures.local in
    let local_8 = still_local c.in_ok-arg-8.ensures.globals local_7 c.session_steps_option.ensures.local in
    let local_9 = still_local c.in_ok-arg-9.ensures.globals local_8 c.session_reserve_option.ensures.local in
    let local_10 = still_local c.in_ok-arg-10.ensures.globals local_9 c.log_option.ensures.local in
    let local = still_local c.in_ok-arg-11.ensures.globals local_10 c.log_format_option.ensures.local in
    IfOk-weaker c.arg-12.result _ _
    (λ command added. (
      added.shape c.log_every_option.ensures.local ∙ ap₂ with_rule eleven c.log_every_option.ensures.rule,
      rw (added.globals, local, c.log_every_option.ensures.local) refl,
    )) c.arg-12.ensures
