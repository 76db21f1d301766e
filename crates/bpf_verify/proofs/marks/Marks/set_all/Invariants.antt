use Rattle.std.proofs.Common.{ℕ, ◌≡◌, ◌||◌, ◌-◌, ◌+◌}
use Rattle.std.specs.Prelude.{nat_eq}
use Rattle.std.specs.List.{list_any}
use Rattle.bpf_verify.specs.Tags.{bytes_from}
use Rattle.bpf_verify.specs.Table.{is_marked}
use Rattle.bpf_verify.proofs.marks.Marks.set_all.Given as goal

abbrev pub invariant-loop-byte : goal.invariant-loop-byte
invariant-loop-byte l = (other : ℕ) → (is_marked l.self other || list_any (nat_eq other) (bytes_from l.byte (l.fn.first + l.fn.count - l.byte))) ≡ (is_marked l.fn.self other || list_any (nat_eq other) (bytes_from l.fn.first l.fn.count))
