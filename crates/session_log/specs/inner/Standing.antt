-- What a note of a session changes in its row (this project's own).
use Rattle.std.specs.Prelude.{ℕ, ◌+◌, ◌-◌, ◌^◌, min, true, false, if◌then◌else◌}
use Rattle.step_purse.specs.declared.dealings.Reply.TheVariants.{Took, NotEnough}
use Rattle.session_log.specs.declared.roster.Note.{Note}
use Rattle.session_log.specs.declared.roster.Note.TheVariants as notes
use Rattle.session_log.specs.declared.roster.Row.{Row}
use Rattle.session_log.specs.declared.roster.State.TheVariants.{Running, Waiting, Reading, Writing}

-- a sum: the largest number of 64 bits stands for all above it
abbrev pub added : ℕ → ℕ → ℕ
added a b = min (a + b) (2 ^ 64 - 1)

abbrev pub noted : Row → Note → Row
noted r (notes.Reserved (Took amount) reserved) = record r {
  standing =
      record r.standing { jobs = added r.standing.jobs 1; jobs_in_all = added r.standing.jobs_in_all 1; reserved = reserved };
}
noted r (notes.Reserved (NotEnough left) reserved) = record r { standing = record r.standing { reserved = reserved } }
noted r (notes.Settled reserved spent) = record r {
  standing =
      record r.standing { jobs = r.standing.jobs - 1; reserved = reserved; spent = spent };
}
noted r (notes.Took commands) = record r { standing = record r.standing { commands = commands } }
noted r notes.Reads = record r { standing = record r.standing { state = if r.is_amid then Reading else Waiting } }
noted r (notes.Read count) = record r {
  standing = record r.standing { state = Running; received = added r.standing.received count };
  is_amid = true;
}
noted r notes.Writes = record r { standing = record r.standing { state = Writing } }
noted r (notes.Wrote count) = record r {
  standing = record r.standing { state = Running; sent = added r.standing.sent count };
  is_amid = false;
}
