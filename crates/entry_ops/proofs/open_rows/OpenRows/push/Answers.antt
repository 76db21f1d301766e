use Rattle.std.proofs.Common.{◌++◌, ◌∷◌, [], ℕ, List, if◌then◌else◌, length, ap, ◌∙◌, arith}
use Rattle.std.specs.Result.{is_ok}
use Rattle.std.proofs.lemmas.List.{length_push}
use Rattle.entry_ops.specs.inner.Folding.{Open, open_of}
use Rattle.entry_ops.specs.declared.open_rows.Lane.{Lane}
use Rattle.entry_ops.proofs.OpenRows.{length_columns, columns_pushed}
use Rattle.entry_ops.proofs.open_rows.OpenRows.push.Goals as goal

pub unwrap-requires : goal.unwrap-requires
unwrap-requires c =
    let i = c.self.invariant in
    let n = length_columns c.self.inside.lanes.items c.self.inside.so_far.items c.self.inside.next.items i.4 i.5 in
    let v = ap (λ (os : List Open). length os) c.self.view_is in
    let r = c.requires.capacity in
    let a = i.0 in
    let o = c.self.inside.lanes.ok.0 in
    c.push.ensures.succeeds (omega (arith, n, v, r, a, o))

pub unwrap-requires-2 : goal.unwrap-requires-2
unwrap-requires-2 c =
    let i = c.self.invariant in
    let n = length_columns c.self.inside.lanes.items c.self.inside.so_far.items c.self.inside.next.items i.4 i.5 in
    let v = ap (λ (os : List Open). length os) c.self.view_is in
    let r = c.requires.capacity in
    let a = i.1 in
    let e = i.4 in
    let o = c.self.inside.so_far.ok.0 in
    c.push-2.ensures.succeeds (omega (arith, n, v, r, a, e, o))

pub unwrap-requires-3 : goal.unwrap-requires-3
unwrap-requires-3 c =
    let i = c.self.invariant in
    let n = length_columns c.self.inside.lanes.items c.self.inside.so_far.items c.self.inside.next.items i.4 i.5 in
    let v = ap (λ (os : List Open). length os) c.self.view_is in
    let r = c.requires.capacity in
    let a = i.2 in
    let e = i.5 in
    let o = c.self.inside.next.ok.0 in
    c.push-3.ensures.succeeds (omega (arith, n, v, r, a, e, o))

pub invariant_of-self : goal.invariant_of-self
invariant_of-self c =
    let ls = c.self.inside.lanes.items in
    let vs = c.self.inside.so_far.items in
    let ws = c.self.inside.next.items in
    let x : Lane = record { number = c.args.row.number; rest = c.args.row.rest } in
    let i = c.self.invariant in
    let p = i.4 in
    let q = i.5 in
    let n = length_columns ls vs ws p q in
    let v = ap (λ (os : List Open). length os) c.self.view_is in
    let r = c.requires.capacity in
    let l = ap (λ (xs : List Lane). length xs) (c.push.ensures.items ∙ ap (λ u. if is_ok u then ls ++ x ∷ [] else ls) c.unwrap.ensures)
    ∙ length_push ls x in
    let s = ap (λ (xs : List ℕ). length xs)
    (c.push-2.ensures.items ∙ ap (λ u. if is_ok u then vs ++ c.args.row.so_far ∷ [] else vs) c.unwrap-2.ensures)
    ∙ length_push vs c.args.row.so_far in
    let t = ap (λ (xs : List ℕ). length xs)
    (c.push-3.ensures.items ∙ ap (λ u. if is_ok u then ws ++ c.args.row.next ∷ [] else ws) c.unwrap-3.ensures)
    ∙ length_push ws c.args.row.next in
    let a = c.push.ensures.capacity in
    let b = c.push-2.ensures.capacity in
    let d = c.push-3.ensures.capacity in
    let i0 = i.0 in
    let i1 = i.1 in
    let i2 = i.2 in
    (omega (arith, i0, a), omega (arith, i1, b), omega (arith, i2, d), omega (arith, l, n, v, r), omega (arith, s, l, p), omega (arith, t, l, q))

pub returns : goal.returns
returns c =
    let ls = c.self.inside.lanes.items in
    let vs = c.self.inside.so_far.items in
    let ws = c.self.inside.next.items in
    let x : Lane = record { number = c.args.row.number; rest = c.args.row.rest } in
    let i = c.self.invariant in
    columns_pushed ls vs ws x c.args.row.so_far c.args.row.next i.4 i.5 _ _ _
    (c.push.ensures.items ∙ ap (λ u. if is_ok u then ls ++ x ∷ [] else ls) c.unwrap.ensures)
    (c.push-2.ensures.items ∙ ap (λ u. if is_ok u then vs ++ c.args.row.so_far ∷ [] else vs) c.unwrap-2.ensures)
    (c.push-3.ensures.items ∙ ap (λ u. if is_ok u then ws ++ c.args.row.next ∷ [] else ws) c.unwrap-3.ensures)
    ∙ ap (λ (os : List Open). os ++ open_of c.args.row ∷ []) c.self.view_is
