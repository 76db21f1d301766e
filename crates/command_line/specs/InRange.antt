-- The numbers that the command line of the program takes (this project's own).
use Rattle.std.specs.Prelude.{ℕ, ◌≤◌, ◌^◌, Option, IfSome}
use Rattle.command_line.specs.declared.asked.Settings.{Settings}
use Rattle.command_line.specs.declared.asked.Settings.TheVariants.{Run, Serve}

-- none, or a number from 1 to the most
abbrev pub IsWithin : ℕ → Option ℕ → Type 0
IsWithin most number = IfSome number (λ n. (1 ≤ n) × (n ≤ most))

-- a budget of at most 2^62 steps, and 1 to 64 workers
abbrev pub HasRoom : ℕ → ℕ → Type 0
HasRoom steps workers = (steps ≤ 2 ^ 62) × (1 ≤ workers) × (workers ≤ 64)

-- these and at most 1000000 seconds, and of a server a port from 1 to 65535, at most 1000000 sessions, at most 1000000000 bytes a
-- second, and at most 2^62 steps for each
abbrev pub IsInRange : Settings → Type 0
IsInRange (Run steps workers idle log log_format log_every) =
    HasRoom steps workers × IsWithin 1000000 idle × IsWithin 1000000 log_every
IsInRange (Serve port steps workers sessions idle session_seconds min_rate session_steps session_reserve log log_format log_every) =
    HasRoom steps workers × (1 ≤ port) × (port ≤ 65535) × IsWithin 1000000 sessions × IsWithin 1000000 idle
    × IsWithin 1000000 session_seconds × IsWithin 1000000000 min_rate
    × IsWithin (2 ^ 62) session_steps × IsWithin (2 ^ 62) session_reserve × IsWithin 1000000 log_every
