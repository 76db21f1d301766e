use Rattle.std.proofs.Common.{◌/◌, ◌^◌, arith}
use Rattle.csr_store.specs.inner.Parts.{IsPartStart}
use Rattle.csr_store.specs.inner.Repeated.{number_at}
use Rattle.csr_store.proofs.Parting.{sorted_part, part_before, part_behind}
use Rattle.csr_store.proofs.parts.positions_before.Goals as goal

pub cells_before-requires-2 : goal.cells_before-requires-2
cells_before-requires-2 c = sorted_part _ _ c.args.positions.now c.requires.rise

start : (c : goal.After-cells_before-2) → IsPartStart c.args.positions.now c.args.bits (c.args.position / 2 ^ c.args.bits) (number_at c.args.starts.now (c.args.position / 2 ^ c.args.bits))
start c = c.requires.starts (c.args.position / 2 ^ c.args.bits) (let f = c.if-part-starts.false in omega (arith, f))

pub returns-clause-before : goal.returns-clause-before
returns-clause-before c =
    part_before c.args.positions.now c.args.bits c.args.position (number_at c.args.starts.now (c.args.position / 2 ^ c.args.bits)) c.end_of-to.result c.cells_before-2.result
    (start c) c.end_of-to.ensures.within c.end_of-to.ensures.behind c.cells_before-2.ensures.within c.cells_before-2.ensures.before

pub returns-clause-behind : goal.returns-clause-behind
returns-clause-behind c =
    part_behind c.args.positions.now c.args.bits c.args.position (number_at c.args.starts.now (c.args.position / 2 ^ c.args.bits)) c.end_of-to.result c.cells_before-2.result
    (start c) c.end_of-to.ensures.within c.end_of-to.ensures.behind c.cells_before-2.ensures.behind
