use Rattle.std.proofs.Common.{◌<◌, ◌+◌, ◌-◌, ◌^◌, ◌∙◌, ℕ, List, length, Some, ap, arith, refl, subst, sym}
use Rattle.bpf_insn.specs.declared.operands.Operands.{Operands}
use Rattle.bpf_run.specs.Calls.{calls_on, steps_of}
use Rattle.csr_store.specs.Copied.{Copied}
use Rattle.csr_store.specs.Grid.{row_of}
use Rattle.csr_store.specs.Run.{Run}
use Rattle.csr_store.specs.Valued.{entries_of}
use Rattle.entry_ops.specs.inner.Forms.{form_of}
use Rattle.entry_ops.specs.inner.Mapped.{IsFurther}
use Rattle.entry_ops.specs.inner.Paired.{pairs_in}
use Rattle.entry_ops.proofs.Paired.{joint_kind, paired_mapped, paired_made}
use Rattle.entry_ops.proofs.Whole.{copied-entries, whole-room, made-all, made-rows, made-steps}
use Rattle.entry_ops.proofs.mapping.merge_region.Goals as goal

pub add_pairs-requires-clause-kind : goal.add_pairs-requires-clause-kind
add_pairs-requires-clause-kind c = c.requires.form.suits.kind ∙ joint_kind (form_of c.args.form) c.requires.form.joint_is

pub add_pairs-requires-clause-capacity : goal.add_pairs-requires-clause-capacity
add_pairs-requires-clause-capacity c =
    let f = c.args.operator.now in
    let a = c.args.sources.left.now in
    let first = c.args.range.start in
    let n = c.args.range.end - first in
    let h = c.in-Some.ensures.pairs in
    let os : ℕ → List Operands = λ i. pairs_in (row_of a i) (row_of h.other i) in
    let mapped = paired_mapped (form_of c.args.form) f c.args.sources first n _ h c.requires.form.joint_is in
    let copied = c.in-Ok.ensures in
    let e = ap (λ (r : Run). entries_of r) (ap (λ (d : Copied). d.run) copied) in
    let z = ap (λ (d : Copied). d.written) copied in
    let m = ap (λ (ps : List Operands). length ps) h.all ∙ copied-entries a os first n mapped.many in
    let r = whole-room (form_of c.args.form) f a (Some h.other) os first n mapped h.grids.0 c.requires.form.suits.kind
    c.recall.ensures (let w = c.requires.rows.within in omega (arith, w)) in
    record { entries = omega (arith, e, z, m); steps = subst (λ ps. 0 + steps_of (calls_on f ps) < 2 ^ 64) (sym h.all) r }

pub finish-requires : goal.finish-requires
finish-requires c =
    let f = c.args.operator.now in
    let a = c.args.sources.left.now in
    let first = c.args.range.start in
    let n = c.args.range.end - first in
    let h = c.in-Some.ensures.pairs in
    let os : ℕ → List Operands = λ i. pairs_in (row_of a i) (row_of h.other i) in
    let mapped = paired_mapped (form_of c.args.form) f c.args.sources first n _ h c.requires.form.joint_is in
    let copied = c.in-Ok.ensures in
    made-all (form_of c.args.form) f a (Some h.other) os first n mapped h.grids.0 c.requires.form.suits.kind
    c.recall.ensures (let w = c.requires.rows.within in omega (arith, w))
    (record { rows = c.in-Ok.rows; steps = 0 }) c.add_pairs.new.self (ap (λ (d : Copied). d.run) copied)
    (ap (λ (d : Copied). d.written) copied) refl
    (subst (λ ps. IsFurther f ps (record { rows = c.in-Ok.rows; steps = 0 }) c.add_pairs.new.self) h.all c.add_pairs.ensures)

pub returns : goal.returns
returns c =
    let f = c.args.operator.now in
    let a = c.args.sources.left.now in
    let first = c.args.range.start in
    let n = c.args.range.end - first in
    let h = c.in-Some.ensures.pairs in
    let os : ℕ → List Operands = λ i. pairs_in (row_of a i) (row_of h.other i) in
    let mapped = paired_mapped (form_of c.args.form) f c.args.sources first n _ h c.requires.form.joint_is in
    let copied = c.in-Ok.ensures in
    let begun = ap (λ (d : Copied). d.run) copied in
    let none = ap (λ (d : Copied). d.written) copied in
    let further =
    subst (λ ps. IsFurther f ps (record { rows = c.in-Ok.rows; steps = 0 }) c.add_pairs.new.self) h.all c.add_pairs.ensures in
    paired_made (form_of c.args.form) f c.args.sources first n _ h _ (rw c.finish.ensures (record {
      rows = made-rows (form_of c.args.form) f a (Some h.other) os first n mapped h.grids.0
          c.requires.form.suits.kind c.recall.ensures (let w = c.requires.rows.within in omega (arith, w))
          (record { rows = c.in-Ok.rows; steps = 0 }) c.add_pairs.new.self begun none refl further;
      steps = made-steps (form_of c.args.form) f a (Some h.other) os first n mapped h.grids.0
          c.requires.form.suits.kind c.recall.ensures (let w = c.requires.rows.within in omega (arith, w))
          (record { rows = c.in-Ok.rows; steps = 0 }) c.add_pairs.new.self begun none refl further;
      spent = tt;
    }))

pub returns-in-Err : goal.returns-in-Err
returns-in-Err c = c.refused.ensures _ _
