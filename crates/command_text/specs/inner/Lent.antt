-- What is lent, by its value. This project's own.
use denote.Ref.{Bor}
use Rattle.std.specs.Prelude.{ℕ, List}

-- a word that is lent
abbrev pub lent : Bor (List ℕ) → List ℕ
lent word = word.now
