use Rattle.std.proofs.Common.{ap, ◌∙◌, sym, length, get_or, ◌≤◌, ◌++◌, ◌∷◌, []}
use Rattle.std.specs.Prelude.{None}
use Rattle.bpf_insn.specs.Program.{insns_of}
use Rattle.bpf_insn.specs.inner.Program.{layout}
use Rattle.bpf_insn.specs.Code.{code_of, Spells}
use Rattle.bpf_insn.proofs.Reading.{spelling-injective}
use Rattle.bpf_insn.proofs.Encoding.{code_before, code_before-more, code_before-end}
use Rattle.bpf_insn.proofs.OneReading.{Spells-only}
use Rattle.bpf_insn.proofs.encoder.encode.Goals as goal

pub returns-in_err-code-clause-law : goal.returns-in_err-code-clause-law
returns-in_err-code-clause-law c = spelling-injective

pub returns-in_err-push_cell-clause-law : goal.returns-in_err-push_cell-clause-law
returns-in_err-push_cell-clause-law c = spelling-injective

pub returns-clause-law : goal.returns-clause-law
returns-clause-law c = spelling-injective

pub loop-cell-preserved : goal.loop-cell-preserved
loop-cell-preserved c =
    let cells = c.cells-cells.result.now in
    let n = c.loop-cell.cell-index in
    let more = code_before-more cells n c.loop-cell-test.true in
    c.in_ok-push_cell.ensures ∙ ap (λ x. x ++ code_of (insns_of (get_or cells n None ∷ []))) c.loop-cell.invariant ∙ sym more

spelled : (c : goal.After-loop-cell) → Spells c.loop-cell.code.items c.args.program.now
spelled c =
    let n = c.loop-cell.cell-index in
    let long : length (layout c.args.program.now) ≤ n = rw (← c.cells-cells.ensures.slots) c.loop-cell-test.false in
    let e = code_before-end c.args.program.now n long in
    record { program = c.cells-cells.ensures.program; same = c.loop-cell.invariant ∙ ap (λ cells. code_before cells n) c.cells-cells.ensures.slots ∙ e }

pub returns-clause-code : goal.returns-clause-code
returns-clause-code c = spelled c

pub returns-clause-only : goal.returns-clause-only
returns-clause-only c = Spells-only c.loop-cell.code.items c.args.program.now (spelled c)
