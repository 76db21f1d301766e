-- For how long a session waits for its client (this project's own). Times are thousandths of a second.
use Rattle.std.specs.Prelude.{ℕ, ◌+◌, ◌-◌, ◌*◌, ◌/◌, ◌^◌, min, max, nat_lt, if◌then◌else◌, Option, None, Some}
use Rattle.listener.specs.declared.patience.Arrival.{Arrival}
use Rattle.listener.specs.declared.patience.Bound.{Bound}
use Rattle.session_log.specs.declared.entry.Cut.TheVariants.{Idle, Seconds, Slow}
use Rattle.listener.specs.declared.patience.Patience.{Patience}

-- thousand times a number: the largest number of 64 bits stands for all above it
abbrev pub thousandths : ℕ → ℕ
thousandths n = min (n * 1000) (2 ^ 64 - 1)

-- the bound of one call
abbrev pub call_bound : (idle : Option ℕ) → Option Bound
call_bound None = None
call_bound (Some seconds) = Some (record { left = thousandths seconds; cut = Idle })

-- how long a command may take whatever its rate: ten seconds, or as long as one call may wait where that is less
abbrev pub grace_by : (idle : Option ℕ) → ℕ
grace_by None = 10000
grace_by (Some seconds) = min 10000 (thousandths seconds)

-- the bound of a session that has lasted so long, and so much longer where there is something to give it
abbrev pub age_bound : (seconds : Option ℕ) → (lasted more : ℕ) → Option Bound
age_bound None lasted more = None
age_bound (Some seconds) lasted more =
    Some (record { left = min ((thousandths seconds - lasted) + more) (2 ^ 64 - 1); cut = Seconds })

-- the bound of a command that arrives: the grace, and as long as its bytes may take at the least rate, without what it took
abbrev pub rate_bound : (rate : Option ℕ) → (grace : ℕ) → Arrival → Option Bound
rate_bound None grace arrival = None
rate_bound (Some rate) grace arrival =
    if nat_lt 0 arrival.bytes then Some (record {
      left = min (grace + thousandths arrival.bytes / max rate 1) (2 ^ 64 - 1) - arrival.waited;
      cut = Slow;
    }) else None

-- the bound that comes first
abbrev pub sooner : Option Bound → Option Bound → Option Bound
sooner None other = other
sooner (Some one) None = Some one
sooner (Some one) (Some other) = if nat_lt other.left one.left then Some other else Some one

-- For how long a session that has lasted so long may wait for bytes of its client, where so much of a command has come.
abbrev pub read_bound : Patience → (lasted : ℕ) → Arrival → Option Bound
read_bound p lasted arrival =
    sooner (sooner (call_bound p.idle) (age_bound p.seconds lasted 0)) (rate_bound p.rate (grace_by p.idle) arrival)

-- For how long it may wait until its client takes bytes, where it has waited for so long already past its time.
abbrev pub write_bound : Patience → (lasted late : ℕ) → Option Bound
write_bound p lasted late = sooner (call_bound p.idle) (age_bound p.seconds lasted (10000 - late))

-- How long a session that has lasted so long has been over its time.
abbrev pub time_over : (seconds : Option ℕ) → (lasted : ℕ) → ℕ
time_over None lasted = 0
time_over (Some seconds) lasted = lasted - thousandths seconds
