use Rattle.std.proofs.Common.{arith, ap, ◌∙◌, ◌++◌, sym, ◌+◌, get_or}
use Rattle.bpf_insn.specs.inner.Program.{cells_of}
use Rattle.bpf_insn.proofs.Laying.{past_end, slot_count-take, slot_count-take_le, layout-take}
use Rattle.bpf_insn.proofs.program.lay.Goals as goal

pub push_cells-requires : goal.push_cells-requires
push_cells-requires c =
    let insns = c.args.insns.now in
    let n = c.loop-insn.insn-index in
    omega (arith, slot_count-take insns n c.loop-insn-test.true, slot_count-take_le insns (n + 1))

pub loop-insn-preserved : goal.loop-insn-preserved
loop-insn-preserved c =
    let insns = c.args.insns.now in
    let n = c.loop-insn.insn-index in
    record {
      laid = c.push_cells.ensures.items ∙ ap (λ x. x ++ cells_of (get_or insns n past_end)) c.loop-insn.invariant.laid ∙ sym (layout-take insns n c.loop-insn-test.true);
      capacity = omega (arith, c.push_cells.ensures.capacity);
      len = omega (arith, slot_count-take insns n c.loop-insn-test.true, c.push_cells.ensures.len);
    }
