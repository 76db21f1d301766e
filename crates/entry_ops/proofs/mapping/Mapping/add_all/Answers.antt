use Rattle.std.proofs.Common.{◌-◌, List, length, Some, arith, ap, sym, ◌∙◌, subst}
use Rattle.bpf_insn.specs.declared.operands.Operands.{Operands}
use Rattle.csr_store.specs.Run.{Run}
use Rattle.csr_store.specs.Valued.{all_cells, entries_of}
use Rattle.bpf_run.specs.Calls.{words_of, calls_on, steps_of}
use Rattle.entry_ops.specs.inner.Mapped.{range_operands, IsFurther}
use Rattle.entry_ops.proofs.Whole.{copied-words, applied-entries}
use Rattle.entry_ops.proofs.mapping.Mapping.add_all.Goals as goal

pub add_words-requires-clause-capacity : goal.add_words-requires-clause-capacity
add_words-requires-clause-capacity c =
    let w = ap (λ (r : Run). words_of (all_cells r)) c.requires.copied.copied ∙ copied-words c.args.a.now c.args.range.start
    (c.args.range.end - c.args.range.start)
    ∙ ap (λ t. range_operands t c.args.a.now c.args.range.start (c.args.range.end - c.args.range.start)) (sym c.in-None.is) in
    let s = ap (λ os. steps_of (calls_on c.args.operator.now os)) w in
    let r = c.requires.copied.capacity in
    (c.requires.copied.none, omega (arith, s, r))

pub add_entries-requires-clause-capacity : goal.add_entries-requires-clause-capacity
add_entries-requires-clause-capacity c =
    let n = applied-entries c.args.a.now (Some c.in-Some.thunk) c.args.range.start (c.args.range.end - c.args.range.start) in
    let r = ap (λ (r : Run). entries_of r) c.requires.copied.copied in
    let z = c.requires.copied.none in
    let o = ap (λ (os : List Operands). length os) c.of_rows.ensures in
    let t = ap (λ t. steps_of (calls_on c.args.operator.now
    (range_operands t c.args.a.now c.args.range.start (c.args.range.end - c.args.range.start)))) c.in-Some.is in
    let s = ap (λ os. steps_of (calls_on c.args.operator.now os)) c.of_rows.ensures in
    let q = c.requires.copied.capacity in
    record { entries = omega (arith, n, r, z, o); steps = omega (arith, t, s, q) }

pub returns-in-None : goal.returns-in-None
returns-in-None c =
    let w = ap (λ (r : Run). words_of (all_cells r)) c.requires.copied.copied ∙ copied-words c.args.a.now c.args.range.start
    (c.args.range.end - c.args.range.start)
    ∙ ap (λ t. range_operands t c.args.a.now c.args.range.start (c.args.range.end - c.args.range.start)) (sym c.in-None.is) in
    subst (λ os. IsFurther c.args.operator.now os c.args.self.now c.add_words.new.self) w c.add_words.ensures
