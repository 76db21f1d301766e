-- How the first line of the bytes that are held is represented by two numbers (this project's own).
use Rattle.std.specs.Prelude.{ℕ, ◌≡◌, ◌<◌, List, take, drop}
use Rattle.wire.specs.Lines.{First, MayBeLine}
use Rattle.wire.specs.Lines as lines
use Rattle.wire.specs.declared.lines.Found.{Found}
use Rattle.wire.specs.declared.lines.Found.TheVariants.{Partial, Over, Line, Nothing}

-- What was found says what comes first. A line is represented by its length and by how many bytes it takes with its line end.
abbrev pub Matches : List ℕ → Found → First → Type 0
Matches bytes Partial is = is ≡ lines.Partial
Matches bytes Over is = is ≡ lines.Over
Matches bytes (Line len taken) is =
    MayBeLine len taken bytes × (0 < taken) × (is ≡ lines.Line (take len bytes) (drop taken bytes))
Matches bytes Nothing is = is ≡ lines.Nothing
