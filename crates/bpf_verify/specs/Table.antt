-- How an operator keeps what is known: a table of facts by slot, in which the marks of stored bytes are bits.
use Rattle.std.specs.Prelude.{ℕ, ◌/◌, ◌%◌, Bool, List, Option, Some, None, nat_eq, slice_get, slice_index_or}
use Rattle.std.specs.Int.{bit_at}
use Rattle.bpf_verify.specs.declared.marks.Marks.{Marks}
use Rattle.bpf_verify.specs.declared.facts.Facts.{Facts}
use Rattle.bpf_verify.specs.Tags.{Types}

-- the mark of a byte: one of 64 bits of one of eight words
abbrev pub is_marked : Marks → ℕ → Bool
is_marked m byte = nat_eq (bit_at (slice_index_or m.words (byte / 64) 0) (byte % 64)) 1

abbrev pub known : Facts → Types
known f = record { tags = f.tags; stored = is_marked f.marks }

abbrev pub known_in : Option (Option Facts) → Option Types
known_in (Some (Some f)) = Some (known f)
known_in _ = None

-- what is known at a slot, if it has facts
abbrev pub known_at : List (Option Facts) → ℕ → Option Types
known_at table slot = known_in (slice_get table slot)
