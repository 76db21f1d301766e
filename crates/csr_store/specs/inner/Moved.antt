-- Where rows end, counted from another start. This project's own.
use Rattle.std.specs.Prelude.{◌+◌, ◌%◌, ◌^◌, ℕ}

-- an end moved by a distance, as words are added
abbrev pub moved : ℕ → ℕ → ℕ
moved distance end = (distance + end) % 2 ^ 64
