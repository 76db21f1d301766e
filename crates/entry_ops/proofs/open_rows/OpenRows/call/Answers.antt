use Rattle.std.proofs.Common.{◌≡◌, ◌++◌, ℕ, List, length, take, ap, sym, ◌∙◌, arith}
use Rattle.std.proofs.lemmas.List.{with_items_is}
use Rattle.bpf_run.specs.Calls.{Gathered, steps_of, calls_on, values_on, pairs_of}
use Rattle.entry_ops.specs.inner.Folding.{Open}
use Rattle.entry_ops.specs.declared.open_rows.Lane.{Lane}
use Rattle.entry_ops.proofs.OpenRows.{length_columns, length_called, columns_same_three, placed_for, gives_called, next_more}
use Rattle.entry_ops.proofs.open_rows.OpenRows.call.Goals as goal

pub copy_from_slice-requires : goal.copy_from_slice-requires
copy_from_slice-requires c =
    let vs = c.self.inside.so_far.items in
    let ws = c.self.inside.next.items in
    let i = c.self.invariant in
    let operands : c.gather_pairs.new.self.operands ≡ pairs_of vs ws = ap (λ (g : Gathered). g.operands) c.gather_pairs.ensures
    ∙ ap (λ os. os ++ pairs_of c.deref.result.now c.deref-2.result.now) c.requires.waits.none
    ∙ ap (λ xs. pairs_of xs c.deref-2.result.now) c.deref.ensures.value
    ∙ ap (λ ys. pairs_of vs ys) c.deref-2.ensures.value in
    let values : c.values.result.now ≡ values_on c.args.operator.now (pairs_of vs ws) =
    c.values.ensures ∙ ap (λ (g : Gathered). g.values) c.make-steps.ensures.values
    ∙ ap (λ os. values_on c.args.operator.now os) operands in
    c.self.inside.so_far.ok.0 ∙ sym (length_called c.args.operator.now vs ws (i.5 ∙ sym i.4)) ∙ ap (λ (xs : List ℕ). length xs)
    (sym values)

pub take_next-left-requires-clause-lanes : goal.take_next-left-requires-clause-lanes
take_next-left-requires-clause-lanes c =
    let ls = c.self.inside.lanes.items in
    let vs = c.self.inside.so_far.items in
    let ws = c.self.inside.next.items in
    let i = c.self.invariant in
    let operands : c.gather_pairs.new.self.operands ≡ pairs_of vs ws = ap (λ (g : Gathered). g.operands) c.gather_pairs.ensures
    ∙ ap (λ os. os ++ pairs_of c.deref.result.now c.deref-2.result.now) c.requires.waits.none
    ∙ ap (λ xs. pairs_of xs c.deref-2.result.now) c.deref.ensures.value
    ∙ ap (λ ys. pairs_of vs ys) c.deref-2.ensures.value in
    let values : c.values.result.now ≡ values_on c.args.operator.now (pairs_of vs ws) =
    c.values.ensures ∙ ap (λ (g : Gathered). g.values) c.make-steps.ensures.values
    ∙ ap (λ os. values_on c.args.operator.now os) operands in
    placed_for c.args.operator.now ls vs ws i.4 i.5 c.args.results.now c.args.self.now c.self.view_is _ _ c.deref_mut.ensures.value
    (c.deref_mut-2.ensures.value ∙ c.copy_from_slice.ensures.items ∙ values) c.requires.lanes

pub returns-clause-gives : goal.returns-clause-gives
returns-clause-gives c =
    let ls = c.self.inside.lanes.items in
    let vs = c.self.inside.so_far.items in
    let ws = c.self.inside.next.items in
    let i = c.self.invariant in
    let operands : c.gather_pairs.new.self.operands ≡ pairs_of vs ws = ap (λ (g : Gathered). g.operands) c.gather_pairs.ensures
    ∙ ap (λ os. os ++ pairs_of c.deref.result.now c.deref-2.result.now) c.requires.waits.none
    ∙ ap (λ xs. pairs_of xs c.deref-2.result.now) c.deref.ensures.value
    ∙ ap (λ ys. pairs_of vs ys) c.deref-2.ensures.value in
    let values : c.values.result.now ≡ values_on c.args.operator.now (pairs_of vs ws) =
    c.values.ensures ∙ ap (λ (g : Gathered). g.values) c.make-steps.ensures.values
    ∙ ap (λ os. values_on c.args.operator.now os) operands in
    let l : length c.take_next-left.new.lanes ≡ length ls =
    c.take_next-left.auto.lanes ∙ ap (λ (xs : List Lane). length xs) c.deref_mut.ensures.value in
    let s : length c.take_next-left.new.so_far ≡ length c.copy_from_slice.new.self.items =
    c.take_next-left.auto.so_far ∙ ap (λ (xs : List ℕ). length xs) c.deref_mut-2.ensures.value in
    let n : length c.take_next-left.new.next ≡ length ws =
    c.take_next-left.auto.next ∙ ap (λ (xs : List ℕ). length xs) c.deref_mut-3.ensures.value in
    gives_called c.args.operator.now ls vs ws i.4 i.5 c.args.results.now c.args.self.now c.self.view_is _ _
    c.deref_mut.ensures.value
    (c.deref_mut-2.ensures.value ∙ c.copy_from_slice.ensures.items ∙ values) _ _ _ _
    (c.take_next-left.ensures.gives c.args.operator.now)
    (c.make-steps.ensures.steps ∙ ap (λ os. steps_of (calls_on c.args.operator.now os)) operands)
    (columns_same_three _ _ _ _ _ _
    (c.truncate.ensures.items ∙ ap (λ (xs : List Lane). take c.take_next-left.result xs)
    (with_items_is c.self.inside.lanes c.take_next-left.new.lanes (l ∙ sym c.self.inside.lanes.ok.0)))
    (c.truncate-2.ensures.items ∙ ap (λ (xs : List ℕ). take c.take_next-left.result xs)
    (with_items_is c.copy_from_slice.new.self c.take_next-left.new.so_far (s ∙ sym c.copy_from_slice.new.self.ok.0)))
    (c.truncate-3.ensures.items ∙ ap (λ (xs : List ℕ). take c.take_next-left.result xs)
    (with_items_is c.self.inside.next c.take_next-left.new.next (n ∙ sym c.self.inside.next.ok.0))))

pub returns-clause-more : goal.returns-clause-more
returns-clause-more c some =
    let ls = c.self.inside.lanes.items in
    let vs = c.self.inside.so_far.items in
    let ws = c.self.inside.next.items in
    let i = c.self.invariant in
    let operands : c.gather_pairs.new.self.operands ≡ pairs_of vs ws = ap (λ (g : Gathered). g.operands) c.gather_pairs.ensures
    ∙ ap (λ os. os ++ pairs_of c.deref.result.now c.deref-2.result.now) c.requires.waits.none
    ∙ ap (λ xs. pairs_of xs c.deref-2.result.now) c.deref.ensures.value
    ∙ ap (λ ys. pairs_of vs ys) c.deref-2.ensures.value in
    let n = length_columns ls vs ws i.4 i.5 in
    let v = ap (λ (os : List Open). length os) c.self.view_is in
    let p = i.4 in
    let made = c.make-steps.ensures.steps ∙ ap (λ os. steps_of (calls_on c.args.operator.now os)) operands in
    let m = next_more c.args.operator.now vs ws c.requires.accepted c.requires.kind (i.5 ∙ sym i.4) (omega (arith, n, v, p, some))
    in
    omega (arith, made, m)
