use Rattle.std.proofs.Common.{arith, ◌+◌}
use Rattle.bpf_insn.proofs.Laying.{slot_count-take, slot_count-take_le, fits-take}
use Rattle.bpf_insn.proofs.program.slots_of_all.Goals as goal

pub returns-then-slots-gt-MOST_SLOTS-clause-none : goal.returns-then-slots-gt-MOST_SLOTS-clause-none
returns-then-slots-gt-MOST_SLOTS-clause-none c =
    let insns = c.args.insns.now in
    let n = c.loop-insn.insn-index in
    omega (arith, slot_count-take insns n c.loop-insn-test.true, slot_count-take_le insns (n + 1), c.slots-slots.ensures.count)

pub loop-insn-preserved : goal.loop-insn-preserved
loop-insn-preserved c =
    let insns = c.args.insns.now in
    let n = c.loop-insn.insn-index in
    record {
      count = omega (arith, slot_count-take insns n c.loop-insn-test.true, c.slots-slots.ensures.count);
      few = omega arith;
      fits = fits-take insns n c.loop-insn-test.true c.loop-insn.invariant.fits c.slots-slots.ensures.fits;
    }
