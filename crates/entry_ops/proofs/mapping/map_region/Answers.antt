use Rattle.std.proofs.Common.{◌-◌, ◌∙◌, None, ap, arith, refl, sym}
use Rattle.csr_store.specs.Copied.{Copied}
use Rattle.csr_store.specs.Grid.{row_of}
use Rattle.entry_ops.specs.inner.Forms.{Apply}
use Rattle.entry_ops.specs.inner.Mapped.{row_operands}
use Rattle.entry_ops.proofs.Whole.{apply_mapped, apply_kind_is, whole-room, made-all, made-rows, made-steps}
use Rattle.entry_ops.proofs.mapping.map_region.Goals as goal

pub add_all-requires-clause-copied : goal.add_all-requires-clause-copied
add_all-requires-clause-copied c =
    let f = c.args.operator.now in
    let a = c.args.a.now in
    let g = c.recall-2.ensures in
    let thunk = c.args.thunk in
    let first = c.args.range.start in
    let n = c.args.range.end - first in
    let copied = c.in-Ok.ensures in
    record {
      copied = ap (λ (d : Copied). d.run) copied;
      none = ap (λ (d : Copied). d.written) copied;
      capacity = whole-room (Apply thunk) f a None (λ i. row_operands thunk i (row_of a i)) first n
          (apply_mapped f a g thunk first n) g (c.requires.kind ∙ sym (apply_kind_is thunk)) c.recall.ensures
          (let w = c.requires.within in omega (arith, w));
    }

pub finish-requires : goal.finish-requires
finish-requires c =
    let f = c.args.operator.now in
    let a = c.args.a.now in
    let g = c.recall-2.ensures in
    let thunk = c.args.thunk in
    let first = c.args.range.start in
    let n = c.args.range.end - first in
    let copied = c.in-Ok.ensures in
    made-all (Apply thunk) f a None (λ i. row_operands thunk i (row_of a i)) first n (apply_mapped f a g thunk first n) g
    (c.requires.kind ∙ sym (apply_kind_is thunk)) c.recall.ensures
    (let w = c.requires.within in omega (arith, w))
    (record { rows = c.in-Ok.rows; steps = 0 }) c.add_all.new.self (ap (λ (d : Copied). d.run) copied)
    (ap (λ (d : Copied). d.written) copied) refl c.add_all.ensures

pub returns : goal.returns
returns c =
    let f = c.args.operator.now in
    let a = c.args.a.now in
    let g = c.recall-2.ensures in
    let thunk = c.args.thunk in
    let first = c.args.range.start in
    let n = c.args.range.end - first in
    let copied = c.in-Ok.ensures in
    let begun = ap (λ (d : Copied). d.run) copied in
    let none = ap (λ (d : Copied). d.written) copied in
    rw c.finish.ensures (record {
      rows = made-rows (Apply thunk) f a None (λ i. row_operands thunk i (row_of a i)) first n
          (apply_mapped f a g thunk first n) g (c.requires.kind ∙ sym (apply_kind_is thunk)) c.recall.ensures
          (let w = c.requires.within in omega (arith, w))
          (record { rows = c.in-Ok.rows; steps = 0 }) c.add_all.new.self begun none refl c.add_all.ensures;
      steps = made-steps (Apply thunk) f a None (λ i. row_operands thunk i (row_of a i)) first n
          (apply_mapped f a g thunk first n) g (c.requires.kind ∙ sym (apply_kind_is thunk)) c.recall.ensures
          (let w = c.requires.within in omega (arith, w))
          (record { rows = c.in-Ok.rows; steps = 0 }) c.add_all.new.self begun none refl c.add_all.ensures;
      spent = tt;
    })

pub returns-in-Err : goal.returns-in-Err
returns-in-Err c = c.refused.ensures _ _
