-- What reaches a device that may fail on the way (this project's own).
use Rattle.std.specs.Prelude.{ℕ, ◌≡◌, List, ◌++◌}

-- bytes with which a text begins
abbrev pub IsPrefixOf : List ℕ → List ℕ → Type 0
IsPrefixOf front text = (rest : List ℕ) × (text ≡ front ++ rest)
