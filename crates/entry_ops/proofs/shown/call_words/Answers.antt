use Rattle.std.proofs.Common.{◌+◌, length, slice_range, ap, ◌∙◌, refl, sym, arith}
use Rattle.std.proofs.lemmas.List.{drop_all}
use Rattle.csr_store.specs.Valued.{all_cells, valued_from}
use Rattle.csr_store.proofs.Valuing.{entries_are, alike_entries}
use Rattle.bpf_run.specs.Calls.{words_of, Gathered}
use Rattle.entry_ops.proofs.Applying.{calling}
use Rattle.entry_ops.proofs.Mapped.{mapping-start, mapping-end, words-count, words-room, words-made, length_words, length_values}
use Rattle.entry_ops.proofs.shown.call_words.Goals as goal

pub loop-written-init : goal.loop-written-init
loop-written-init c =
    let rows = c.args.rows.now in
    let few = c.requires.few in
    let e = entries_are rows in
    let w = length_words (all_cells rows) in
    record {
      mapping = mapping-start c.args.operator.now (words_of (all_cells rows)) (calling rows 0 0) (omega (arith, e, w)) (omega (arith, few));
      many = refl;
      within = omega arith;
    }

pub offset_bounds-cells-written : goal.offset_bounds-cells-written
offset_bounds-cells-written c =
    let t = c.loop-written-test.true in
    let a = c.entries-entries.ensures in
    let s = c.loop-written.invariant.many in
    let e = entries_are c.loop-written.rows in
    let l = ap length c.cells.ensures in
    let small = c.cells.type_inv in
    omega (arith, t, a, s, e, l, small)

pub slice_bounds-make_on_words-end : goal.slice_bounds-make_on_words-end
slice_bounds-make_on_words-end c =
    let t = c.loop-written-test.true in
    let a = c.entries-entries.ensures in
    let s = c.loop-written.invariant.many in
    let e = entries_are c.loop-written.rows in
    let l = ap length c.cells.ensures in
    let m = c.min-many.ensures in
    omega (arith, t, a, s, e, l, m)

pub overflow_add-steps : goal.overflow_add-steps
overflow_add-steps c =
    let t = c.loop-written-test.true in
    let a = c.entries-entries.ensures in
    let s = c.loop-written.invariant.many in
    let m = c.min-many.ensures in
    let w = c.loop-written.written in
    let room = words-room c.args.operator.now _ _ (calling c.loop-written.rows w c.loop-written.steps) (w + c.min-many.result) _ _
    c.loop-written.invariant.mapping (omega arith) (omega (arith, t, a, s, m))
    (ap (λ cells. slice_range cells w (w + c.min-many.result)) c.cells.ensures) refl in
    let made = c.make_on_words-steps.ensures.steps in
    omega (arith, room, made)

pub set_values-requires : goal.set_values-requires
set_values-requires c =
    let t = c.loop-written-test.true in
    let a = c.entries-entries.ensures in
    let s = c.loop-written.invariant.many in
    let m = c.min-many.ensures in
    let w = c.loop-written.written in
    let many = words-count c.args.operator.now _ _ (calling c.loop-written.rows w c.loop-written.steps) (w + c.min-many.result) _ _
    c.loop-written.invariant.mapping (omega arith) (omega (arith, t, a, s, m))
    (ap (λ cells. slice_range cells w (w + c.min-many.result)) c.cells.ensures) refl in
    let values = ap length (c.values.ensures ∙ ap (λ (g : Gathered). g.values) c.make_on_words-steps.ensures.values) in
    let each = length_values c.args.operator.now (words_of (slice_range c.cells.result.now w (w + c.min-many.result))) in
    omega (arith, t, a, s, m, many, values, each)

pub loop-written-preserved : goal.loop-written-preserved
loop-written-preserved c =
    let t = c.loop-written-test.true in
    let a = c.entries-entries.ensures in
    let s = c.loop-written.invariant.many in
    let m = c.min-many.ensures in
    let w = c.loop-written.written in
    let f = c.args.operator.now in
    let now = calling c.loop-written.rows w c.loop-written.steps in
    let to = w + c.min-many.result in
    let cells = slice_range c.cells.result.now w to in
    let here = ap (λ cs. slice_range cs w to) c.cells.ensures in
    let many = words-count f _ _ now to cells _ c.loop-written.invariant.mapping (omega arith) (omega (arith, t, a, s, m)) here refl in
    let values = c.values.ensures ∙ ap (λ (g : Gathered). g.values) c.make_on_words-steps.ensures.values in
    let made = c.make_on_words-steps.ensures.steps in
    record {
      mapping = words-made f _ _ now to cells (words_of cells) c.loop-written.invariant.mapping (omega arith) (omega (arith, t, a, s, m)) here refl
          (calling c.set_values.new.self to (c.loop-written.steps + c.make_on_words-steps.result)) (record {
            alike = c.set_values.ensures.alike;
            number = omega (arith, many);
            cells = c.set_values.ensures.values ∙ ap (λ vs. valued_from w vs (all_cells c.loop-written.rows)) values;
            steps = omega (arith, made);
          });
      many = sym (alike_entries c.loop-written.rows c.set_values.new.self c.set_values.ensures.alike) ∙ s;
      within = omega (arith, t, m);
    }

pub returns-clause-alike : goal.returns-clause-alike
returns-clause-alike c =
    let t = c.loop-written-test.false in
    let a = c.entries-entries.ensures in
    let s = c.loop-written.invariant.many in
    let e = entries_are c.loop-written.rows in
    (mapping-end c.args.operator.now _ _ _ _ c.loop-written.invariant.mapping
    (ap words_of (drop_all c.loop-written.written (all_cells c.loop-written.rows) (omega (arith, s, t, a, e))))).alike

pub returns-clause-values : goal.returns-clause-values
returns-clause-values c =
    let t = c.loop-written-test.false in
    let a = c.entries-entries.ensures in
    let s = c.loop-written.invariant.many in
    let e = entries_are c.loop-written.rows in
    (mapping-end c.args.operator.now _ _ _ _ c.loop-written.invariant.mapping
    (ap words_of (drop_all c.loop-written.written (all_cells c.loop-written.rows) (omega (arith, s, t, a, e))))).cells

pub returns-clause-steps : goal.returns-clause-steps
returns-clause-steps c =
    let t = c.loop-written-test.false in
    let a = c.entries-entries.ensures in
    let s = c.loop-written.invariant.many in
    let e = entries_are c.loop-written.rows in
    let made = (mapping-end c.args.operator.now _ _ _ _ c.loop-written.invariant.mapping
    (ap words_of (drop_all c.loop-written.written (all_cells c.loop-written.rows) (omega (arith, s, t, a, e))))).steps in
    omega (arith, made)
