-- How serving a listener ends (this project's own).
use Rattle.std.specs.Prelude.{◌≡◌, ◌+◌, Result, Ok, Err}
use Rattle.step_purse.specs.Passes.{PurseState}
use Rattle.listener.specs.Acceptors.{AcceptorState, IsAccounted}
use Rattle.listener.specs.Serving.{ServiceState, IsServiceOf}
use Rattle.listener.specs.declared.server.ServerTerms.{ServerTerms}
use Rattle.session_log.specs.declared.listen_fault.ListenFault.{ListenFault}
use Rattle.session_log.specs.declared.listen_fault.ListenFault.TheVariants.{Network, Memory}

-- It ends well only where a number of sessions was asked for: as many were started, with this purse and on these terms, and no call
-- failed. It ends with a fault of the network only by one call that failed, the last. Each connection has a session, or its client
-- was turned away.
abbrev pub Listened : PurseState → ServerTerms → AcceptorState → AcceptorState → Result ServiceState ListenFault → Type 0
Listened purse terms old new (Ok service) =
    IsServiceOf purse terms service × (new.started ≡ old.started + service.sessions) × (new.failures ≡ old.failures)
    × IsAccounted old new
Listened purse terms old new (Err (Network cause)) = (new.failures ≡ old.failures + 1) × IsAccounted old new
Listened purse terms old new (Err Memory) = new ≡ old
