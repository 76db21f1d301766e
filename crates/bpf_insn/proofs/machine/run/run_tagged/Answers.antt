use Rattle.std.proofs.Common.{◌≤◌, arith, sym, subst}
use Rattle.bpf_insn.specs.Program.{slot_count}
use Rattle.bpf_insn.proofs.Slots.{length_within}
use Rattle.bpf_insn.proofs.Runs.{IsUnderway, begun, ends, gets_stuck, goes_further, one_outcome, underway_within, all_within}
use Rattle.bpf_insn.proofs.machine.run.run_tagged.Goals as goal

pub loop-taken-init : goal.loop-taken-init
loop-taken-init c =
    let some : 1 ≤ slot_count c.args.program.now = omega (arith, c.slots-taken-end.ensures.some, c.slots-taken-end.ensures.count) in
    subst (λ s. IsUnderway c.args.program.now c.args.operands.now 0 s) (sym c.enter-tagged.ensures.entry) (begun c.args.program.now c.args.operands.now some)

pub returns-in-Done-clause-outcome : goal.returns-in-Done-clause-outcome
returns-in-Done-clause-outcome c = ends c.args.program.now c.args.operands.now c.loop-taken.taken c.in-Done.value c.loop-taken.tagged c.step.new.self c.loop-taken.invariant c.in-Done.ensures.0 c.in-Done.ensures.1

pub returns-in-Done-clause-unique : goal.returns-in-Done-clause-unique
returns-in-Done-clause-unique c =
    λ other o. one_outcome c.args.program.now c.args.operands.now _ other (returns-in-Done-clause-outcome c) o

pub returns-in-Done-clause-steps_within : goal.returns-in-Done-clause-steps_within
returns-in-Done-clause-steps_within c = omega (arith, underway_within c.args.program.now c.args.operands.now c.loop-taken.taken c.loop-taken.tagged c.loop-taken.invariant)

pub returns-in-Stuck-clause-outcome : goal.returns-in-Stuck-clause-outcome
returns-in-Stuck-clause-outcome c = gets_stuck c.args.program.now c.args.operands.now c.loop-taken.taken c.loop-taken.tagged c.in-Stuck.fault c.loop-taken.invariant c.in-Stuck.ensures.0 c.in-Stuck.ensures.1

pub returns-in-Stuck-clause-unique : goal.returns-in-Stuck-clause-unique
returns-in-Stuck-clause-unique c =
    λ other o. one_outcome c.args.program.now c.args.operands.now _ other (returns-in-Stuck-clause-outcome c) o

pub returns-in-Done-clause-ends : goal.returns-in-Done-clause-ends
returns-in-Done-clause-ends c =
    let some : 1 ≤ slot_count c.args.program.now = omega (arith, c.slots-taken-end.ensures.some, c.slots-taken-end.ensures.count) in
    all_within c.args.program.now c.args.operands.now some

pub returns-in-Stuck-clause-ends : goal.returns-in-Stuck-clause-ends
returns-in-Stuck-clause-ends c =
    let some : 1 ≤ slot_count c.args.program.now = omega (arith, c.slots-taken-end.ensures.some, c.slots-taken-end.ensures.count) in
    all_within c.args.program.now c.args.operands.now some

pub loop-taken-preserved : goal.loop-taken-preserved
loop-taken-preserved c = goes_further c.args.program.now c.args.operands.now c.loop-taken.taken c.loop-taken.tagged c.step.new.self c.loop-taken.invariant c.in-Went.ensures.0 c.in-Went.ensures.1

pub unreachable-requires : goal.unreachable-requires
unreachable-requires c =
    let most = underway_within c.args.program.now c.args.operands.now c.loop-taken.taken c.loop-taken.tagged c.loop-taken.invariant in
    omega (arith, most, length_within c.args.program.now, c.loop-taken-test.false, c.slots-taken-end.ensures.count)
