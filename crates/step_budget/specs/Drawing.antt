-- What a call of a budget over a purse and a pass does (this project's own).
use Rattle.std.specs.Prelude.{◌≡◌}
use Rattle.step_purse.specs.Histories.{Makes}
use Rattle.step_purse.specs.Passes.{PassState}
use Rattle.step_purse.specs.declared.dealings.Dealing.{Dealing}

-- the call is one more of the pass's own, and it stays a pass of its purse
pub record Draws (old : PassState) (call : Dealing) (new : PassState) : Type 0 where
  pub purse : new.purse ≡ old.purse
  pub allowance : new.allowance ≡ old.allowance
  pub recorded : Makes old.allowance old.known call new.known
