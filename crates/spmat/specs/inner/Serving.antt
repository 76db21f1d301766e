-- The server that settings ask for (this project's own).
use Rattle.std.specs.Prelude.{ℕ, ◌≡◌, Some}
use Rattle.step_purse.specs.Passes.{IsPassOf}
use Rattle.metered_session.specs.declared.limits.Limits.{Limits}
use Rattle.listener.specs.Serving.{IsServiceOf}
use Rattle.listener.specs.declared.server.ServerTerms.{ServerTerms}
use Rattle.command_line.specs.declared.ending.Failure.{Failure}
use Rattle.command_line.specs.declared.ending.Failure.TheVariants as failures
use Rattle.command_line.specs.declared.asked.Settings.{Settings}
use Rattle.command_line.specs.declared.asked.Settings.TheVariants.{Run, Serve}
use Rattle.spmat.specs.declared.serving.Server.{Server}
use Rattle.spmat.specs.declared.serving.Sessions.{Sessions}
use Rattle.spmat.specs.inner.Address.{IsLocal}

-- these are settings of `serve`
abbrev pub IsOfServer : Settings → Type 0
IsOfServer (Run steps workers idle log log_format log_every) = ⊥
IsOfServer (Serve port steps workers sessions idle session_seconds min_rate session_steps session_reserve
    log log_format log_every) = Unit {0}

-- it was bound to 127.0.0.1 and this port, and its purse has so many steps and one pass
pub record IsOpened (port steps : ℕ) (server : Server) : Type 0 where
  pub address : IsLocal port server.address
  pub allowance : server.purse.allowance ≡ steps
  pub own : IsPassOf server.purse server.pass

-- the terms have these workers, this number of sessions, this patience and these limits
abbrev pub HasTerms : Settings → ServerTerms → Type 0
HasTerms (Run steps workers idle log log_format log_every) terms = ⊥
HasTerms (Serve port steps workers sessions idle session_seconds min_rate session_steps session_reserve
    log log_format log_every) terms =
    (terms.workers ≡ workers) × (terms.sessions ≡ sessions) × (terms.idle ≡ idle) × (terms.session_seconds ≡ session_seconds)
    × (terms.min_rate ≡ min_rate) × (terms.limits ≡ record { steps = session_steps; reserve = session_reserve })

-- such a server, on the terms that they ask for
abbrev pub IsServerOf : Settings → Server → Type 0
IsServerOf (Run steps workers idle log log_format log_every) server = ⊥
IsServerOf (Serve port steps workers sessions idle session_seconds min_rate session_steps session_reserve
    log log_format log_every) server =
    IsOpened port steps server
    × HasTerms
    (Serve port steps workers sessions idle session_seconds min_rate session_steps session_reserve log log_format log_every)
    server.terms

-- what this server has served, at its address, with its purse and on its terms
abbrev pub IsServedAs : Server → Sessions → Type 0
IsServedAs server sessions = (sessions.address ≡ server.address) × IsServiceOf server.purse server.terms sessions.service

-- What settings ask for was served: at 127.0.0.1 and their port, with a purse of their steps, on their terms and to their number.
abbrev pub AreSessionsOf : Settings → Sessions → Type 0
AreSessionsOf (Run steps workers idle log log_format log_every) served = ⊥
AreSessionsOf (Serve port steps workers sessions idle session_seconds min_rate session_steps session_reserve
    log log_format log_every) served =
    IsLocal port served.address × (served.service.pass.allowance ≡ steps)
    × HasTerms
    (Serve port steps workers sessions idle session_seconds min_rate session_steps session_reserve log log_format log_every)
    served.service.terms
    × (sessions ≡ Some served.service.sessions)

-- why there may be none: there was no memory, this port could not be bound, or the line that reports it could not be written
abbrev pub MayRefuse : (port : ℕ) → Failure → Type 0
MayRefuse port (failures.Settings fault) = ⊥
MayRefuse port failures.Memory = Unit {0}
MayRefuse port (failures.Output cause) = Unit {0}
MayRefuse port (failures.Session fault cause) = ⊥
MayRefuse port (failures.Binding bound cause) = bound ≡ port
MayRefuse port (failures.Listening fault) = ⊥

-- why a server that was to listen on this port may have ended: there was none, or it takes no more connections
abbrev pub MayFail : (port : ℕ) → Failure → Type 0
MayFail port (failures.Settings fault) = ⊥
MayFail port failures.Memory = Unit {0}
MayFail port (failures.Output cause) = Unit {0}
MayFail port (failures.Session fault cause) = ⊥
MayFail port (failures.Binding bound cause) = bound ≡ port
MayFail port (failures.Listening fault) = Unit {0}

-- why there may be no server that settings ask for
abbrev pub MayNotOpen : Settings → Failure → Type 0
MayNotOpen (Run steps workers idle log log_format log_every) failure = ⊥
MayNotOpen (Serve port steps workers sessions idle session_seconds min_rate session_steps session_reserve
    log log_format log_every) failure =
    MayRefuse port failure
