-- What becomes of a connection (this project's own).
use Rattle.std.specs.Prelude.{◌≡◌, Bool}
use Rattle.std.specs.declared.net.tcp.TcpStream.{TcpStream}
use Rattle.step_purse.specs.Passes.{PurseState, PassState}
use Rattle.listener.specs.declared.connection.Admitted.{Admitted}
use Rattle.listener.specs.declared.connection.Admitted.TheVariants as admitted
use Rattle.listener.specs.declared.promise.Attending.{Attending}
use Rattle.listener.specs.declared.server.ServerTerms.{ServerTerms}

-- it promises a session of this purse and these terms, by this pass, over this stream, with an account in the log, if there is one
abbrev pub IsPromiseOf : PurseState → PassState → ServerTerms → TcpStream → (has_log : Bool) → Attending → Type 0
IsPromiseOf purse pass terms stream has_log promise =
    (promise.purse.value ≡ purse) × (promise.pass.value ≡ pass) × (promise.terms ≡ terms) × (promise.stream.value ≡ stream)
    × (promise.has_log ≡ has_log)

-- Its client was turned away; or a thread was started for it, which promises such a session.
abbrev pub IsAdmitted : PurseState → PassState → ServerTerms → TcpStream → (has_log : Bool) → Admitted → Type 0
IsAdmitted purse pass terms stream has_log (admitted.Started started) =
    IsPromiseOf purse pass terms stream has_log started.thread.promise
IsAdmitted purse pass terms stream has_log (admitted.TurnedAway told) = Unit {0}
