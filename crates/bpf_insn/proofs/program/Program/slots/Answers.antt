use Rattle.std.proofs.Common.{arith, ap, length, ◌∙◌}
use Rattle.bpf_insn.specs.Program.{insns_of, slot_count}
use Rattle.bpf_insn.proofs.Layouts.{length-layout}
use Rattle.bpf_insn.proofs.program.Program.slots.Goals as goal

pub returns-clause-count : goal.returns-clause-count
returns-clause-count c = let e = ap length c.self.invariant.0.same ∙ length-layout (insns_of c.self.inside.cells.items) ∙ ap slot_count c.self.view_is in omega (arith, e)

pub returns-clause-few : goal.returns-clause-few
returns-clause-few c =
    let e = ap length c.self.invariant.0.same ∙ length-layout (insns_of c.self.inside.cells.items) in
    omega (arith, e, c.self.invariant.0.program.few)
