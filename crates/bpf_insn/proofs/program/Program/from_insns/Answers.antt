use Rattle.std.proofs.Common.{arith, ap, ◌∙◌, ◌≡◌, ◌≢◌, [], subst, length, List}
use Rattle.std.specs.List.{AllByRecursion}
use Rattle.bpf_insn.specs.declared.insn.Insn.{Insn}
use Rattle.bpf_insn.specs.Spelling.{Fits}
use Rattle.bpf_insn.specs.Program.{insns_of, slot_count, IsProgram}
use Rattle.bpf_insn.specs.inner.Program.{layout}
use Rattle.bpf_insn.proofs.Laying.{some_slots, layout-laid}
use Rattle.bpf_insn.proofs.Layouts.{insns_of-layout}
use Rattle.bpf_insn.proofs.program.Program.from_insns.Goals as goal

is_program : (c : goal.After-len) → IsProgram c.args.insns.items
is_program c =
    let counted = c.in-Some.ensures.some in
    let same : c.deref.result.now ≡ c.args.insns.items = c.deref.ensures.value in
    let some : c.args.insns.items ≢ [] = λ e. grind arith in
    record {
      fits = let P : List Insn → Type 0 = AllByRecursion Fits in subst P same counted.2;
      some = some_slots c.args.insns.items some;
      few = omega (arith, counted.0, counted.1, ap slot_count same);
    }

pub from_cells-requires-clause-laid : goal.from_cells-requires-clause-laid
from_cells-requires-clause-laid c =
    let same = c.lay-cells.ensures ∙ ap layout c.deref-2.ensures.value in
    rw same (layout-laid c.args.insns.items (is_program c))

pub from_cells-requires-clause-len : goal.from_cells-requires-clause-len
from_cells-requires-clause-len c =
    let same = ap insns_of (c.lay-cells.ensures ∙ ap layout c.deref-2.ensures.value) ∙ insns_of-layout c.args.insns.items in
    omega (arith, ap length same, c.deref.ensures.len, ap length c.deref.ensures.value)

pub returns-clause-ok : goal.returns-clause-ok
returns-clause-ok c =
    let same = c.from_cells.ensures.insns ∙ ap insns_of (c.lay-cells.ensures ∙ ap layout c.deref-2.ensures.value) ∙ insns_of-layout c.args.insns.items in
    (same, c.from_cells.ensures.program)
