-- What stands under a name (this project's own).
use Rattle.std.specs.Prelude.{String, ℕ, List, Option, option_and_then}
use Rattle.std.specs.declared.alloc.Global.{Global}
use Rattle.std.specs.BTreeMap.{BTreeMap, get_by_text}

-- values by the bytes of their names; a name may be declared before its value is there
abbrev pub Declared : Type 0 → Type 0
Declared V = BTreeMap (String Global) (Option V)

-- the value that stands under a name, if one does
abbrev pub value_at : {V : Type 0} → Declared V → List ℕ → Option V
value_at declared name = option_and_then (λ v. v) (get_by_text declared name)
