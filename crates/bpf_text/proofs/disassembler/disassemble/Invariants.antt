use Rattle.std.proofs.Common.{◌≡◌}
use Rattle.std.specs.Prelude.{string_bytes}
use Rattle.std.specs.List.{flat_map}
use Rattle.bpf_text.specs.Canonical.{canonical_line}
use Rattle.bpf_text.proofs.Slots.{upto}
use Rattle.bpf_text.proofs.disassembler.disassemble.Given as goal

abbrev pub invariant-loop-slot : goal.invariant-loop-slot
invariant-loop-slot l = string_bytes l.text ≡ flat_map canonical_line (upto l.program l.slot)
