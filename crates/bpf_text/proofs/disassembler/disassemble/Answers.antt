use Rattle.std.proofs.Common.{◌≡◌, ◌∙◌, List, ℕ, Some, None, sym, ap, subst, arith}
use Rattle.std.specs.Prelude.{string_bytes}
use Rattle.std.specs.List.{flat_map}
use Rattle.bpf_insn.specs.Program.{insn_at}
use Rattle.bpf_text.specs.Canonical.{canonical_line, IsOnlyTextOf}
use Rattle.std.specs.Option.{option_copied}
use Rattle.bpf_text.proofs.Slots.{upto-none, written_insn, written_nothing, written_all}
use Rattle.bpf_text.proofs.CanonicalTexts.{only_canonical}
use Rattle.bpf_text.proofs.disassembler.disassemble.Goals as goal
use Rattle.bpf_text.proofs.disassembler.disassemble.Goals.{in-Some+in_ok-push_line, in_default}

pub loop-slot-init : goal.loop-slot-init
loop-slot-init c = c.new-text.ensures.bytes ∙ ap (flat_map canonical_line) (sym (upto-none c.args.program.now))

pub returns-in_err-push_line-clause-law : goal.returns-in_err-push_line-clause-law
returns-in_err-push_line-clause-law c = only_canonical

pub loop-slot-preserved : goal.loop-slot-preserved
loop-slot-preserved c =
    let is = c.args.program.now in
    let k = c.loop-slot.slot in
    elim c.match-insn_at.branch [
      | in-Some+in_ok-push_line w ↦
          let here : insn_at is k ≡ Some w.in-Some.insn.now = sym c.insn_at.ensures ∙ ap option_copied w.in-Some.is in
          written_insn is k (string_bytes c.loop-slot.text) (string_bytes c.match-insn_at.text) w.in-Some.insn.now here c.loop-slot.invariant
          (ap string_bytes w.text-is ∙ w.in_ok-push_line.ensures)
      | in_default w ↦
          let here : insn_at is k ≡ None = sym c.insn_at.ensures ∙ ap option_copied w.in_default.is in
          ap string_bytes w.text-is ∙ written_nothing is k (string_bytes c.loop-slot.text) here c.loop-slot.invariant
    ]

pub returns-clause-text : goal.returns-clause-text
returns-clause-text c =
    let count = c.slots-slot-end.ensures.count in
    written_all c.args.program.now c.loop-slot.slot (string_bytes c.loop-slot.text) (omega arith) c.loop-slot.invariant

pub returns-clause-only : goal.returns-clause-only
returns-clause-only c =
    let count = c.slots-slot-end.ensures.count in
    let whole = written_all c.args.program.now c.loop-slot.slot (string_bytes c.loop-slot.text) (omega arith) c.loop-slot.invariant in
    subst (λ (t : List ℕ). IsOnlyTextOf t c.args.program.now) (sym whole) (only_canonical c.args.program.now c.slots-slot-end.ensures.program)

pub returns-clause-law : goal.returns-clause-law
returns-clause-law c = only_canonical
