-- Handles of workers' threads, one more.
use Rattle.std.proofs.Common.{◌≡◌, List, [], ◌∷◌, ◌++◌, Bool, true, false, cond, sym, subst}
use Rattle.std.specs.List.{AllByRecursion}
use Rattle.job_runner.proofs.Working.{all_more}

pub all_pushed : {X : Type 0} (P : X → Type 0) (b : Bool) (old new : List X) (x : X) → new ≡ cond b (old ++ x ∷ []) old
    → AllByRecursion P old → P x → AllByRecursion P new
all_pushed P true old new x e h k = subst (AllByRecursion P) (sym e) (all_more P old x h k)
all_pushed P false old new x e h k = subst (AllByRecursion P) (sym e) h

pub all_same : {X : Type 0} (P : X → Type 0) (old new : List X) → new ≡ old → AllByRecursion P old → AllByRecursion P new
all_same P old new e h = subst (AllByRecursion P) (sym e) h
