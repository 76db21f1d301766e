-- What a listener starts its next session with (this project's own).
use Rattle.std.specs.Prelude.{ℕ, ◌≡◌, IfSome}
use Rattle.step_purse.specs.Passes.{PurseState, IsPassOf}
use Rattle.session.specs.Sessions.{full_session}
use Rattle.listener.specs.declared.accepting.Ready.{Ready}

-- a pass of this purse, and a session with so many workers, if there is any
abbrev pub IsReady : PurseState → (workers : ℕ) → Ready → Type 0
IsReady purse workers ready =
    IsPassOf purse ready.pass × IfSome ready.session (λ r. r ≡ full_session workers)
