use Rattle.std.proofs.Common.{◌≡◌, ◌+◌, ◌-◌, ◌++◌, ◌∷◌, [], List, length, take, ap, sym, ◌∙◌, arith}
use Rattle.entry_ops.specs.inner.Folding.{Open, words}
use Rattle.entry_ops.proofs.OpenRows.{length_columns, columns_last}
use Rattle.entry_ops.proofs.open_rows.OpenRows.pop.Goals as goal

pub truncate-requires : goal.truncate-requires
truncate-requires c =
    let i = c.self.invariant in
    let n = length_columns c.self.inside.lanes.items c.self.inside.so_far.items c.self.inside.next.items i.4 i.5 in
    let v = ap (λ (os : List Open). length os) c.self.view_is in
    let l = c.len-last.ensures in
    let o = c.self.inside.lanes.ok.0 in
    omega (arith, n, v, l, o)

pub returns : goal.returns
returns c =
    let i = c.self.invariant in
    let n = length_columns c.self.inside.lanes.items c.self.inside.so_far.items c.self.inside.next.items i.4 i.5 in
    let v = ap (λ (os : List Open). length os) c.self.view_is in
    let l = c.len-last.ensures in
    let o = c.self.inside.lanes.ok.0 in
    let some = c.requires.some in
    let last : (c.len-last.result - 1) + 1 ≡ length c.self.inside.lanes.items = omega (arith, n, v, l, o, some) in
    sym c.self.view_is
    ∙ columns_last (c.len-last.result - 1) c.self.inside.lanes.items c.self.inside.so_far.items c.self.inside.next.items i.4 i.5 last
    c.index-lane.result.now c.index.result.now c.index-2.result.now c.index-lane.ensures c.index.ensures c.index-2.ensures
    ∙ ap (λ (os : List Open). os ++ record {
      number = c.index-lane.result.now.number;
      so_far = c.index.result.now;
      terms = c.index-2.result.now ∷ words c.index-lane.result.now.rest.now;
    } ∷ []) (ap (λ (os : List Open). take (c.len-last.result - 1) os) c.self.view_is ∙ sym c.truncate.ensures)
