use Rattle.matrix_market.proofs.Repeated.{head, walk_start, walk_lacks, walk_met, walk_inside, walk_here, walk_on}
use Rattle.matrix_market.proofs.repeat.line_of_repeat.Goals as goal

pub loop-found-init : goal.loop-found-init
loop-found-init c = walk_start c.args.header c.args.start c.args.repeats c.requires

pub unreachable-requires : goal.unreachable-requires
unreachable-requires c =
    walk_lacks c.args.header c.args.start c.loop-found.repeats c.loop-found.cursor c.loop-found.invariant c.in_default.ensures.none

pub meets-requires-clause-row : goal.meets-requires-clause-row
meets-requires-clause-row c =
    (walk_inside c.args.header c.args.start c.loop-found.repeats c.loop-found.cursor c.loop-found.invariant c.in-Some.found c.in-Some.next c.in-Some.ensures.entry).0

pub meets-requires-clause-column : goal.meets-requires-clause-column
meets-requires-clause-column c =
    (walk_inside c.args.header c.args.start c.loop-found.repeats c.loop-found.cursor c.loop-found.invariant c.in-Some.found c.in-Some.next c.in-Some.ensures.entry).1

pub returns-then-meets : goal.returns-then-meets
returns-then-meets c =
    let walk = c.loop-found.invariant in
    let next = head c.args.header c.args.start c.loop-found.repeats c.loop-found.cursor walk in
    walk_here c.args.header c.args.start c.loop-found.repeats c.loop-found.cursor walk c.in-Some.found c.in-Some.next c.in-Some.ensures.entry
    (c.meets.ensures.again c.if-meets.true walk.entries walk.done next.taken.entries
    (walk_met c.args.header c.args.start c.loop-found.repeats c.loop-found.cursor walk c.in-Some.found c.in-Some.next c.in-Some.ensures.entry))

pub loop-found-preserved : goal.loop-found-preserved
loop-found-preserved c =
    let walk = c.loop-found.invariant in
    let next = head c.args.header c.args.start c.loop-found.repeats c.loop-found.cursor walk in
    walk_on c.args.header c.args.start c.loop-found.repeats c.loop-found.cursor walk c.in-Some.found c.in-Some.next c.in-Some.ensures.entry c.meets.new.repeats
    (c.meets.ensures.first c.if-meets.false walk.entries walk.done next.taken.entries
    (walk_met c.args.header c.args.start c.loop-found.repeats c.loop-found.cursor walk c.in-Some.found c.in-Some.next c.in-Some.ensures.entry))
