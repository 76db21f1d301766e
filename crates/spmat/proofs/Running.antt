-- How the contracts of a session on two devices follow from one another.
use Rattle.std.proofs.Common.{ℕ, ◌≡◌, ◌≢◌, List, [], ◌++◌, ◌∙◌, refl, sym, ap, subst, Option, Result, Ok, Err, IfOk}
use Rattle.wire.specs.Devices.{SourceState, SinkState}
use Rattle.step_budget.specs.Drawing.{Draws}
use Rattle.step_purse.specs.Histories.{newcomer, own_calls}
use Rattle.step_purse.specs.declared.dealings.Dealing.{Dealing}
use Rattle.step_purse.specs.declared.views.Books.{Books}
use Rattle.step_purse.specs.Passes.{PassState}
use Rattle.step_purse.specs.Shares.{whole}
use Rattle.session.specs.Sessions.{SessionState, full_session}
use Rattle.session.specs.Talk.{Outcome}
use Rattle.session.specs.declared.end.End.{End}
use Rattle.session.specs.declared.end.ServeFault.{ServeFault}
use Rattle.session.specs.declared.end.ServeFault.TheVariants.{Read, Write, Turns, Memory}
use Rattle.session_log.specs.declared.books.ClosedAccount.{ClosedAccount}
use Rattle.metered_session.specs.Metering.{spent_by, told_steps}
use Rattle.command_line.specs.declared.asked.Settings.{Settings}
use Rattle.command_line.specs.declared.asked.Settings.TheVariants.{Run, Serve}
use Rattle.command_line.specs.declared.asked.SettingsFault.{SettingsFault}
use Rattle.command_line.specs.declared.asked.SettingsFault.TheVariants as asked
use Rattle.command_line.specs.declared.ending.Failure.{Failure}
use Rattle.command_line.specs.declared.ending.Failure.TheVariants as failures
use Rattle.spmat.specs.declared.ended.Ended.{Ended}
use Rattle.spmat.specs.declared.ended.Ended.TheVariants as done
use Rattle.spmat.specs.declared.logged.Noted.{Noted}
use Rattle.spmat.specs.declared.serving.Server.{Server}
use Rattle.spmat.specs.declared.serving.Sessions.{Sessions}
use Rattle.spmat.specs.inner.Address.{IsLocal}
use Rattle.spmat.specs.inner.Serving.{AreSessionsOf, HasTerms, IsServedAs, IsServerOf}
use Rattle.spmat.specs.inner.Running.{Devices, Spoke, Ran, IsRunOf, IsServed, IsVersionTold, IsRefused, IsAnswer, IsOfSession, MayAskFor, MayEnd, explained}

module _ (steps workers : ℕ) (session : SessionState) (first last : PassState) (src src' : SourceState) (snk snk' : SinkState) (spent : ℕ)
    (is_full : session ≡ full_session workers) (allowance : first.allowance ≡ steps) (unused : first.known ≡ newcomer [] whole)
    (told : (ds : List Dealing) → own_calls last.known ≡ own_calls first.known ++ ds → spent ≡ told_steps (spent_by ds)) where
  -- a pass that had no call has the calls of its session alone
  told_all : spent ≡ told_steps (spent_by (own_calls last.known))
  told_all = told (own_calls last.known) (sym (ap (λ (k : Books). own_calls k ++ own_calls last.known) unused))

  spoke : (result : Result End ServeFault)
      → Outcome Draws session (record { budget = first; source = src; sink = snk }) (record { budget = last; source = src'; sink = snk' }) result
      → Spoke steps workers (record { source = src; sink = snk }) (record { source = src'; sink = snk' }) spent result
  spoke result said = (
    first,
    last,
    allowance,
    unused,
    told_all,
    subst (λ (r : SessionState). Outcome Draws r (record { budget = first; source = src; sink = snk })
        (record { budget = last; source = src'; sink = snk' }) result) is_full said,
  )

  -- a session in a full room, whose pass had made no call, that had memory to begin
  pub ran_from : (result : Result End ServeFault) → result ≢ Err Memory
      → Outcome Draws session (record { budget = first; source = src; sink = snk }) (record { budget = last; source = src'; sink = snk' }) result
      → Ran steps workers (record { source = src; sink = snk }) (record { source = src'; sink = snk' }) spent result
  ran_from (Ok end) begun said = spoke (Ok end) said
  ran_from (Err Read) begun said = spoke (Err Read) said
  ran_from (Err Write) begun said = spoke (Err Write) said
  ran_from (Err Turns) begun said = spoke (Err Turns) said
  ran_from (Err Memory) begun said = absurd (begun refl)

-- a source that may always be asked is no bound on what the command line asks for
pub asked_always : (asked : Result Settings SettingsFault) (old : Devices) → IfOk asked (λ settings. MayAskFor (λ source sink. Unit {0}) settings old)
asked_always (Ok (Run steps workers idle log log_format log_every)) old = λ now out answered. tt
asked_always (Ok (Serve port steps workers sessions idle session_seconds min_rate session_steps session_reserve log log_format log_every)) old = tt
asked_always (Err fault) old = tt

-- the devices may be left out of what became of an answer
of_session : (steps workers : ℕ) (old new : Devices) (outcome : Result Ended Failure) → IsRunOf steps workers old new outcome → IsOfSession outcome
of_session steps workers old new (Ok (done.Session s)) said = tt
of_session steps workers old new (Ok (done.Sessions served)) said = said
of_session steps workers old new (Ok done.Version) said = said
of_session steps workers old new (Err failure) said = said

pub may_end : (asked : Result Settings SettingsFault) (old new : Devices) (outcome : Result Ended Failure) → IsAnswer asked old new outcome
    → MayEnd asked outcome
may_end (Ok (Run steps workers idle log log_format log_every)) old new outcome said = of_session steps workers old new outcome said
may_end (Ok (Serve port steps workers sessions idle session_seconds min_rate session_steps session_reserve log log_format log_every)) old new outcome said = said.2
may_end (Err fault) old new outcome said = said.1

-- nor do the cause of a device and a log matter for how it may end
module _ (noted : Noted) (account : Option ClosedAccount) where
  explained_session : (outcome : Result Ended Failure) → IsOfSession outcome → IsOfSession (explained noted account outcome)
  explained_session (Ok (done.Session s)) said = tt
  explained_session (Ok (done.Sessions served)) said = said
  explained_session (Ok done.Version) said = said
  explained_session (Err failure) said = absurd said

  explained_server : (port : ℕ) (settings : Settings) (outcome : Result Ended Failure) → IsServed port settings outcome
      → IsServed port settings (explained noted account outcome)
  explained_server port settings (Ok (done.Session s)) said = said
  explained_server port settings (Ok (done.Sessions served)) said = said
  explained_server port settings (Ok done.Version) said = said
  explained_server port settings (Err (failures.Session fault cause)) said = said
  explained_server port settings (Err (failures.Settings fault)) said = said
  explained_server port settings (Err failures.Memory) said = said
  explained_server port settings (Err (failures.Output cause)) said = said
  explained_server port settings (Err (failures.Binding bound cause)) said = said
  explained_server port settings (Err (failures.Listening fault)) said = said

  explained_version : (outcome : Result Ended Failure) → IsVersionTold outcome → IsVersionTold (explained noted account outcome)
  explained_version (Ok (done.Session s)) said = said
  explained_version (Ok (done.Sessions served)) said = said
  explained_version (Ok done.Version) said = said
  explained_version (Err (failures.Session fault cause)) said = said
  explained_version (Err (failures.Settings fault)) said = said
  explained_version (Err failures.Memory) said = said
  explained_version (Err (failures.Output cause)) said = said
  explained_version (Err (failures.Binding port cause)) said = said
  explained_version (Err (failures.Listening fault)) said = said

  explained_refusal : (fault : SettingsFault) (outcome : Result Ended Failure) → IsRefused fault outcome
      → IsRefused fault (explained noted account outcome)
  explained_refusal asked.Version outcome said = explained_version outcome said
  explained_refusal (asked.Words text) outcome said = ap (explained noted account) said
  explained_refusal asked.Memory outcome said = ap (explained noted account) said

  pub may_end_explained : (asked : Result Settings SettingsFault) (outcome : Result Ended Failure) → MayEnd asked outcome
      → MayEnd asked (explained noted account outcome)
  may_end_explained (Ok (Run steps workers idle log log_format log_every)) outcome said = explained_session outcome said
  may_end_explained (Ok (Serve port steps workers sessions idle session_seconds min_rate session_steps session_reserve log log_format log_every)) outcome said =
      explained_server port (Serve port steps workers sessions idle session_seconds min_rate session_steps session_reserve log log_format log_every) outcome said
  may_end_explained (Err fault) outcome said = explained_refusal fault outcome said

-- what a server that settings ask for has served is what they ask for
pub served_of : (settings : Settings) (server : Server) (served : Sessions) → IsServerOf settings server → IsServedAs server served
    → AreSessionsOf settings served
served_of (Run steps workers idle log log_format log_every) server served opened said = opened
served_of (Serve port steps workers sessions idle session_seconds min_rate session_steps session_reserve log log_format log_every) server served opened said =
    let service = said.1 in (
      subst (IsLocal port) (sym said.0) opened.0.address,
      service.own.1 ∙ opened.0.allowance,
      subst (HasTerms (Serve port steps workers sessions idle session_seconds min_rate session_steps session_reserve log log_format log_every)) (sym service.on) opened.1,
      sym opened.1.1 ∙ service.whole,
    )
