use Rattle.std.proofs.Common.{Some, refl, sym, subst, arith}
use Rattle.std.proofs.lemmas.List.{length-set}
use Rattle.entry_ops.specs.inner.Folding.{ArePlaced}
use Rattle.entry_ops.proofs.Singly.{last_placed, last_room, last_goes, last_more}
use Rattle.entry_ops.proofs.folds.Folds.finish_last.Goals as goal

pub fold-folded-requires-clause-capacity : goal.fold-folded-requires-clause-capacity
fold-folded-requires-clause-capacity c =
    let r = last_room c.args.operator.now c.self.inside.lanes c.pop-row.new.self c.self.inside.results.items c.self.inside.steps
    c.args.self.now
    c.self.view_is c.pop-row.result c.pop-row.ensures c.requires.can.capacity in
    omega (arith, r)

pub overflow_add-self : goal.overflow_add-self
overflow_add-self c =
    let r = last_room c.args.operator.now c.self.inside.lanes c.pop-row.new.self c.self.inside.results.items c.self.inside.steps
    c.args.self.now
    c.self.view_is c.pop-row.result c.pop-row.ensures c.requires.can.capacity in
    let e = c.fold-folded.ensures.steps in
    omega (arith, r, e)

pub index_mut-requires : goal.index_mut-requires
index_mut-requires c =
    let p = (last_placed c.args.operator.now c.self.inside.lanes c.pop-row.new.self c.self.inside.results.items
    c.self.inside.steps c.args.self.now
    c.self.view_is c.pop-row.result c.pop-row.ensures c.self.invariant.2).0 in
    let o = c.self.inside.results.ok.0 in
    omega (arith, p, o)

pub invariant_of-self : goal.invariant_of-self
invariant_of-self c =
    let p = (last_placed c.args.operator.now c.self.inside.lanes c.pop-row.new.self c.self.inside.results.items
    c.self.inside.steps c.args.self.now
    c.self.view_is c.pop-row.result c.pop-row.ensures c.self.invariant.2).1 in
    let n = length-set c.self.inside.results.items c.pop-row.result.number (Some c.fold-folded.result.value) in
    let l = c.self.invariant.1 in
    (c.self.invariant.0, omega (arith, n, l), subst (λ k. ArePlaced k c.pop-row.new.self) (sym n) p)

pub returns-clause-goes : goal.returns-clause-goes
returns-clause-goes c =
    last_goes c.args.operator.now c.self.inside.lanes c.pop-row.new.self c.self.inside.results.items c.self.inside.steps
    c.args.self.now
    c.self.view_is c.pop-row.result c.pop-row.ensures c.fold-folded.result.steps _ c.fold-folded.result.value _
    c.fold-folded.ensures.value
    c.fold-folded.ensures.steps refl refl c.self.invariant.2

pub returns-clause-more : goal.returns-clause-more
returns-clause-more c =
    last_more c.args.operator.now c.self.inside.lanes c.pop-row.new.self c.self.inside.results.items c.self.inside.steps
    c.args.self.now
    c.self.view_is c.pop-row.result c.pop-row.ensures c.fold-folded.result.steps _ c.fold-folded.result.value _
    c.fold-folded.ensures.value
    c.fold-folded.ensures.steps refl refl c.requires.can.accepted c.requires.can.kind
