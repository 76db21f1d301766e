-- What contracts see of what connections come in by (this project's own). The counts have no last value, and no code sees them.
use Rattle.std.specs.Prelude.{ℕ, ◌≡◌, ◌+◌, Result, Ok, Err}

-- how many connections were accepted, how many calls failed, for how many connections a session was started, and how many clients
-- were turned away
pub record AcceptorState : Type 0 where
  pub accepted : ℕ
  pub failures : ℕ
  pub started : ℕ
  pub turned_away : ℕ

-- nothing yet
abbrev pub unused : AcceptorState
unused = record { accepted = 0; failures = 0; started = 0; turned_away = 0 }

-- what a call leaves
abbrev pub after_accept : {A E : Type 0} → AcceptorState → Result A E → AcceptorState
after_accept s (Ok a) = record s { accepted = s.accepted + 1 }
after_accept s (Err e) = record s { failures = s.failures + 1 }

-- Each connection that was accepted meanwhile has a session, or its client was turned away.
abbrev pub IsAccounted : AcceptorState → AcceptorState → Type 0
IsAccounted old new = new.accepted + old.started + old.turned_away ≡ old.accepted + new.started + new.turned_away
