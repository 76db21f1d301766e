-- What a session of a server leaves, by the pass that it was given (this project's own).
use Rattle.std.specs.Prelude.{◌≡◌, ℕ, List, Option, Result, Bool, true, false}
use Rattle.std.specs.declared.net.tcp.TcpStream.{TcpStream}
use Rattle.wire.specs.Devices.{SourceState, SinkState}
use Rattle.step_purse.specs.Passes.{PurseState, PassState, IsPassOf}
use Rattle.session.specs.Sessions.{full_session}
use Rattle.session.specs.Talk.{Outcome}
use Rattle.session.specs.declared.end.End.{End}
use Rattle.session.specs.declared.end.ServeFault.{ServeFault}
use Rattle.metered_session.specs.Ends.{IsLoggedAs}
use Rattle.metered_session.specs.Limits.{Metered, Meters, IsWithin}
use Rattle.metered_session.specs.declared.limits.Limits.{Limits}
use Rattle.metered_session.specs.declared.streams.Given.{Given}
use Rattle.listener.specs.declared.server.ServerTerms.{ServerTerms}
use Rattle.listener.specs.declared.sides.Attended.{Attended}

-- a session's pass and limits before it has spent anything
abbrev pub beginning : PassState → Limits → Metered
beginning pass limits = record { pass = pass; spent = 0; limits = limits }

-- what a server of this purse and these terms gives to a session: a pass, a session of its workers that may make as many reads as
-- any, and its limits, within which the pass is
abbrev pub IsGivenBy : PurseState → ServerTerms → Given → Type 0
IsGivenBy purse terms given =
    IsPassOf purse given.pass × IsWithin (beginning given.pass terms.limits) × (given.session ≡ full_session terms.workers)
    × (given.limits ≡ terms.limits)

-- What such a session leaves. It is a session by this pass, within the limits of the terms, over a reader and a writer that knew
-- these bytes: what was read and written, how it ended, and its calls of the budget, which lead from the pass that it was given to
-- the one that is left, belong to one talk. The steps that are told are those that these calls spent, and nothing more is owed than
-- before.
pub record IsServedOver (purse : PurseState) (pass : PassState) (terms : ServerTerms) (remaining contents : Option (List ℕ))
    (left : PassState) (outcome : Result End ServeFault) (spent : ℕ) : Type 0 where
  pub source : SourceState
  pub sink : SinkState
  pub said : Outcome Meters (full_session terms.workers)
      (record {
        budget = beginning pass terms.limits;
        source = record { remaining = remaining; reads = 0; failures = 0; told_end = false };
        sink = record { contents = contents; writes = 0; failures = 0 };
      })
      (record { budget = record { pass = left; spent = spent; limits = terms.limits }; source = source; sink = sink }) outcome
  pub own : IsPassOf purse left
  pub owed : left.known.owes ≡ pass.known.owes
  pub within : IsWithin (record { pass = left; spent = spent; limits = terms.limits })

-- where there is a log, it has such a session's end and its steps
abbrev pub IsAccounted : (has_log : Bool) → Attended → Type 0
IsAccounted true attended = IsLoggedAs attended.account attended.outcome attended.cut attended.spent
IsAccounted false attended = Unit {0}

-- A session of this purse and these terms was served over both sides of this stream, by the pass that it was given. Where there is
-- a log, it has the session's end and its steps.
abbrev pub IsServedBy : PurseState → PassState → ServerTerms → TcpStream → (has_log : Bool) → Attended → Type 0
IsServedBy purse pass terms stream has_log attended =
    (attended.stream.value ≡ stream) × (attended.given.value ≡ pass) × IsAccounted has_log attended
    × ((remaining : Option (List ℕ)) × (contents : Option (List ℕ))
    × IsServedOver purse pass terms remaining contents attended.left.value attended.outcome attended.spent)
