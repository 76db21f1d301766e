use Rattle.std.proofs.Common.{◌≡◌, ◌-◌, ◌+◌, not}
use Rattle.std.specs.List.{list_any}
use Rattle.bpf_verify.specs.Tags.{bytes_from}
use Rattle.bpf_verify.specs.Table.{is_marked}
use Rattle.bpf_verify.proofs.marks.Marks.misses.Given as goal

abbrev pub invariant-loop-byte : goal.invariant-loop-byte
invariant-loop-byte l = list_any (λ byte. not (is_marked l.fn.self byte)) (bytes_from l.byte (l.fn.first + l.fn.count - l.byte)) ≡ list_any (λ byte. not (is_marked l.fn.self byte)) (bytes_from l.fn.first l.fn.count)
