use Rattle.std.proofs.Common.{◌+◌, ◌-◌, ◌^◌, ◌%◌, drop, refl, arith}
use Rattle.matrix_market.specs.declared.kinds.Found.{Found}
use Rattle.matrix_market.proofs.Gathering.{adds_more, adds_usual, room_behind}
use Rattle.matrix_market.proofs.gather.gather_run.Goals as goal

pub loop-given-preserved : goal.loop-given-preserved
loop-given-preserved c =
    let l = c.in-Some-entry_line.ensures in
    let later = l.0 in let most = l.1 in let within = c.in-Some.ensures.within in
    let line = c.in-Some-entry_line.line in
    let old = c.loop-given in
    let order = old.invariant.order in
    let f : Found = record { row = (line.row + (2 ^ 64 - 1)) % 2 ^ 64; column = (line.column + (2 ^ 64 - 1)) % 2 ^ 64; word = line.word } in
    record {
      adds = adds_more c.args.header c.args.list.now old.list c.push_entry.new.list c.args.rest.now (drop old.next c.args.rest.now) (drop line.next c.args.rest.now) 0 old.given (old.given + 1) old.given 1 old.invariant.adds
          (adds_usual c.args.header old.list c.push_entry.new.list (drop old.next c.args.rest.now) (drop line.next c.args.rest.now) old.given line f c.args.header.rows_small c.args.header.columns_small l.2
          (let r = c.if-found-header.false in omega arith) (let r = c.if-found-header-2.false in omega arith) refl refl refl c.in_ok-push_entry.ensures);
      few = let t = c.loop-given-test.true in omega arith;
      order = omega arith;
      within = omega arith;
    }

pub push_entry-requires-clause-capacity : goal.push_entry-requires-clause-capacity
push_entry-requires-clause-capacity c =
    let old = c.loop-given in
    room_behind c.args.header c.args.list.now old.list c.args.rest.now (drop old.next c.args.rest.now) 0 old.given old.given c.args.most 1 c.requires old.invariant.adds (let t = c.loop-given-test.true in omega arith)
