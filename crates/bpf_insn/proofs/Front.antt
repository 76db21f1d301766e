-- What stands at the front of some bytes.
use Rattle.std.proofs.Common.{◌≡◌, ◌≤◌, ◌*◌, ℕ, arith, List, ◌++◌, take, drop, length, sym, ◌∙◌, ap}
use Rattle.bpf_insn.specs.declared.insn.Insn.{Insn}
use Rattle.bpf_insn.specs.declared.slot.Slot.{Slot}
use Rattle.bpf_insn.specs.Spelling.{spelling, slot_bytes, Fits}
use Rattle.bpf_insn.specs.inner.Code.{BeginsWith}
use Rattle.bpf_insn.specs.Program.{slots_of}
use Rattle.std.proofs.lemmas.List.{take-append-drop}

begins_at : (bytes front : List ℕ) (n : ℕ) → front ≡ take (8 * n) bytes → bytes ≡ front ++ drop (8 * n) bytes
begins_at bytes front n e = sym (ap (λ f. f ++ drop (8 * n) bytes) e ∙ take-append-drop (8 * n) bytes)

pub begins : (bytes : List ℕ) (i : Insn) (s : Slot) → slot_bytes s ≡ take 8 bytes → spelling i ≡ slot_bytes s
    → slots_of i ≡ 1 → Fits i → 8 ≤ length bytes → BeginsWith bytes i
begins bytes i s read e one fits long =
    let front : spelling i ≡ take (8 * slots_of i) bytes = rw one (e ∙ read) in
    record {
      fits = fits;
      spelled = begins_at bytes (spelling i) (slots_of i) front;
      whole = omega arith;
    }
