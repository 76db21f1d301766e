-- What contracts see of what a server has served (this project's own).
use Rattle.std.specs.Prelude.{ℕ, ◌≡◌, Option, Some, None}
use Rattle.step_purse.specs.Passes.{PurseState, PassState, IsPassOf}
use Rattle.metered_session.specs.Limits.{unbounded}
use Rattle.listener.specs.declared.server.ServerTerms.{ServerTerms}

-- a pass of the purse, the terms, and how many sessions were started
pub record ServiceState : Type 0 where
  pub pass : PassState
  pub terms : ServerTerms
  pub sessions : ℕ

-- It was served with this purse, on these terms, and to the number of sessions that they give.
pub record IsServiceOf (purse : PurseState) (terms : ServerTerms) (service : ServiceState) : Type 0 where
  pub own : IsPassOf purse service.pass
  pub on : service.terms ≡ terms
  pub whole : terms.sessions ≡ Some service.sessions

-- terms of so many workers and sessions, if a number of sessions is given, and of nothing else
abbrev pub IsPlain : (workers : ℕ) → (sessions : Option ℕ) → ServerTerms → Type 0
IsPlain workers sessions terms =
    (terms.workers ≡ workers) × (terms.sessions ≡ sessions) × (terms.idle ≡ None) × (terms.session_seconds ≡ None)
    × (terms.min_rate ≡ None) × (terms.limits ≡ unbounded)
