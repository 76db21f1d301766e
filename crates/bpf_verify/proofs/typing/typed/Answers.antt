use Rattle.std.proofs.Common.{◌≡◌, ◌∙◌, ◌<◌, sym, ap, arith, length, Some, None}
use Rattle.std.specs.Prelude.{slice_set, replicate}
use Rattle.std.proofs.lemmas.List.{length-replicate}
use Rattle.bpf_verify.specs.Table.{known, known_at}
use Rattle.bpf_verify.proofs.SlotPass.{inside}
use Rattle.bpf_verify.proofs.Stepping.{exact_all, exact_start}
use Rattle.bpf_verify.proofs.Table.{known_set, known_other, none_replicated}
use Rattle.bpf_verify.proofs.typing.typed.Goals as goal

pub loop-slot-init : goal.loop-slot-init
loop-slot-init c =
    let n = c.slots.result in
    let table = c.in-Ok.table.items in
    let items : table ≡ replicate n None = c.in-Ok.ensures.items_if_clones_equal (λ y k. grind arith) in
    let count = c.slots.ensures.count in
    let len : length table ≡ n = ap length items ∙ length-replicate n None in
    let first : 0 < length table = omega (arith, len, c.slots.ensures.some) in (
      c.in-Ok.ensures.len ∙ count,
      exact_start c.args.program.now c.args.entry (slice_set table 0 (Some c.at_entry.result)) (known c.at_entry.result) c.requires.entry (known_set table 0 c.at_entry.result first) c.at_entry.ensures.tags c.at_entry.ensures.bytes
          (λ slot k d e. none_replicated n slot k (ap (λ t. known_at t slot) (sym items) ∙ sym (known_other table 0 slot (Some c.at_entry.result) d) ∙ e)),
    )

pub returns-in-Err-clause-refused : goal.returns-in-Err-clause-refused
returns-in-Err-clause-refused c =
    record { shown = c.in-Err.ensures.refused c.args.entry c.loop-slot.invariant.1; before = c.loop-slot.invariant.1.nothing }

pub returns-clause-exact : goal.returns-clause-exact
returns-clause-exact c = exact_all c.loop-slot.slot c.args.program.now c.args.entry c.loop-slot.table.items (λ slot i at. let h = inside c.args.program.now slot i at in omega (arith, h)) c.loop-slot.invariant.1 c.requires.entry
