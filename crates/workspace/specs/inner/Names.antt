-- What stands beside specs/Names.antt for this crate's own modules and proofs.
use Rattle.std.specs.Prelude.{ℕ, Bool, List, is_some}
use Rattle.std.specs.BTreeMap.{get_by_text}
use Rattle.workspace.specs.Names.{Declared}

abbrev pub is_declared : {V : Type 0} → Declared V → List ℕ → Bool
is_declared declared name = is_some (get_by_text declared name)
