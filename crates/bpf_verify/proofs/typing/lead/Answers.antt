use Rattle.std.proofs.Common.{arith, rules, ◌≡◌, ◌<◌, ◌∙◌, sym, ap, subst, length, w64}
use Rattle.std.proofs.lemmas.Int.{to_z-of_z}
use Rattle.std.specs.Prelude.{nat_abs, pos}
use Rattle.bpf_verify.specs.Table.{known}
use Rattle.bpf_verify.specs.inner.Pass.{IsMerged}
use Rattle.bpf_verify.proofs.SlotPass.{begins_inside}
use Rattle.bpf_verify.proofs.Table.{known_get, adds_set}
use Rattle.bpf_verify.proofs.typing.lead.Goals as goal

-- the slot is the target's
place_is : (c : goal.After-unsigned_abs-to) → c.unsigned_abs-to.result ≡ c.requires.good.destination
place_is c =
    c.unsigned_abs-to.ensures.value ∙ ap nat_abs (to_z-of_z w64 c.args.to (search rules)) ∙ ap nat_abs c.requires.good.is_place

within : (c : goal.After-unsigned_abs-to) → c.unsigned_abs-to.result < length c.args.table.now.items
within c =
    let h = begins_inside c.args.program.now c.requires.good.destination c.requires.good.begin in
    omega (arith, h, place_is c, c.requires.len)

pub index-requires : goal.index-requires
index-requires c =
    let h = begins_inside c.args.program.now c.requires.good.destination c.requires.good.begin in
    omega (arith, h, place_is c, c.requires.len)

pub index_mut-requires : goal.index_mut-requires
index_mut-requires c =
    let h = begins_inside c.args.program.now c.requires.good.destination c.requires.good.begin in
    let p : c.unsigned_abs-to.result ≡ c.requires.good.destination = c.unsigned_abs-to.ensures.value ∙ ap nat_abs (to_z-of_z w64 c.args.to (search rules)) ∙ ap nat_abs c.requires.good.is_place in
    omega (arith, h, p, c.requires.len)

pub returns-clause-adds : goal.returns-clause-adds
returns-clause-adds c =
    let table = c.args.table.now.items in
    let h = begins_inside c.args.program.now c.requires.good.destination c.requires.good.begin in
    let p : c.unsigned_abs-to.result ≡ c.requires.good.destination = c.unsigned_abs-to.ensures.value ∙ ap nat_abs (to_z-of_z w64 c.args.to (search rules)) ∙ ap nat_abs c.requires.good.is_place in
    let inside : c.unsigned_abs-to.result < length table = omega (arith, h, p, c.requires.len) in
    let was = known_get table c.unsigned_abs-to.result c.index.result.now inside c.index.ensures in
    adds_set table c.args.to c.unsigned_abs-to.result (known c.args.facts.now) c.merged.result (c.requires.good.is_place ∙ ap pos (sym p)) inside (subst (λ o. IsMerged o (known c.args.facts.now) (known c.merged.result)) (sym was) c.merged.ensures)
