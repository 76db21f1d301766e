use Rattle.std.proofs.Common.{List, length, take, subst, sym, ap, ◌∙◌, refl, arith}
use Rattle.std.proofs.lemmas.List.{with_items_is}
use Rattle.csr_store.specs.Ascending.{Ascends}
use Rattle.csr_store.specs.Grid.{Cell}
use Rattle.row_product.specs.inner.Adding.{taking}
use Rattle.row_product.specs.inner.Rows.{AddsCells}
use Rattle.row_product.specs.inner.Sums.{takes, flag}
use Rattle.row_product.proofs.Parts.{ascends_wider, taking_all, taking_few, taking_ascends, length_after}
use Rattle.row_product.proofs.progress.Progress.add_part.Goals as goal

pub add_cells-requires : goal.add_cells-requires
add_cells-requires c = record {
  factors = c.requires.part.factors;
  few = c.requires.part.few;
  apart = ascends_wider 0 _ _ c.args.cells.now c.requires.ready.sums c.requires.part.apart;
}

pub returns-then-not-masked-clause-added : goal.returns-then-not-masked-clause-added
returns-then-not-masked-clause-added c =
    let items = c.args.self.now.allowed.items in
    let all = taking_all (takes c.args.masked items) c.args.cells.now (λ j. ap (λ m. takes m items j) c.if-not-masked.true) in
    subst (λ (us : List Cell). AddsCells c.args.factors.now c.args.x us c.args.self.now.sums c.add_cells.new.self
    c.add_cells.result)
    (sym all) c.add_cells.ensures

pub returns-then-not-masked-clause-ready : goal.returns-then-not-masked-clause-ready
returns-then-not-masked-clause-ready c =
    let r = c.requires.ready in
    let s = r.sums in
    let l = ap length c.add_cells.ensures.sums
    ∙ length_after c.args.factors.now.add.now c.args.factors.now.mul.now c.args.x c.args.self.now.sums c.args.cells.now in
    (record { sums = omega (arith, s, l); allowed = r.allowed; passing = r.passing; passing_columns = r.passing_columns }, refl)

pub choose-count-requires-clause-within : goal.choose-count-requires-clause-within
choose-count-requires-clause-within c =
    let a = c.requires.ready.allowed in
    let d = ap length c.deref.ensures.value in
    ascends_wider 0 _ _ c.args.cells.now (omega (arith, a, d)) c.requires.part.apart

pub add_cells-requires-2 : goal.add_cells-requires-2
add_cells-requires-2 c =
    let put = with_items_is c.args.self.now.passing c.choose-count.new.passing (c.choose-count.ensures.capacity ∙ c.deref_mut.ensures.len) in
    let chosen = ap (take c.choose-count.result) (c.deref-2.ensures.value ∙ put) ∙ c.choose-count.ensures.taking in
    let f = c.requires.part.few in
    let t = taking_few (flag c.deref.result.now) c.args.cells.now in
    let e = ap length chosen in
    record {
      factors = c.requires.part.factors;
      few = omega (arith, f, t, e);
      apart = subst (Ascends 0 (length c.args.self.now.sums)) (sym chosen)
          (taking_ascends (flag c.deref.result.now) 0 _ _ c.args.cells.now c.requires.ready.sums c.requires.part.apart);
    }

pub returns-clause-added : goal.returns-clause-added
returns-clause-added c =
    let cells = c.args.cells.now in
    let put = with_items_is c.args.self.now.passing c.choose-count.new.passing (c.choose-count.ensures.capacity ∙ c.deref_mut.ensures.len) in
    let chosen = ap (take c.choose-count.result) (c.deref-2.ensures.value ∙ put)
    ∙ (c.choose-count.ensures.taking ∙ (ap (λ fs. taking (flag fs) cells) c.deref.ensures.value
    ∙ ap (λ m. taking (takes m c.args.self.now.allowed.items) cells) (sym c.if-not-masked.false))) in
    subst (λ (us : List Cell). AddsCells c.args.factors.now c.args.x us c.args.self.now.sums c.add_cells-2.new.self
    c.add_cells-2.result) chosen c.add_cells-2.ensures

pub returns-clause-ready : goal.returns-clause-ready
returns-clause-ready c =
    let r = c.requires.ready in
    let s = r.sums in
    let p = r.passing in
    let put = ap length (with_items_is c.args.self.now.passing c.choose-count.new.passing
    (c.choose-count.ensures.capacity ∙ c.deref_mut.ensures.len)) in
    let m = c.choose-count.ensures.capacity ∙ ap length c.deref_mut.ensures.value in
    let l = ap length c.add_cells-2.ensures.sums
    ∙ length_after c.args.factors.now.add.now c.args.factors.now.mul.now c.args.x c.args.self.now.sums
    (take c.choose-count.result c.deref-2.result.now) in
    (record { sums = omega (arith, s, l); allowed = r.allowed; passing = omega (arith, p, m, put); passing_columns = r.passing_columns }, refl)
