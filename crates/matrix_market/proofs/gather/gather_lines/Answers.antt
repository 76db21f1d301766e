use Rattle.std.proofs.Common.{◌≡◌, ◌+◌, ◌-◌, refl, subst, sym, arith}
use Rattle.csr_store.specs.Listed.{Listed}
use Rattle.matrix_market.specs.declared.cursor.Cursor.{Cursor}
use Rattle.matrix_market.specs.inner.Gathering.{Adds, IsFaultAt, nothing}
use Rattle.matrix_market.proofs.Gathering.{adds_none, adds_more, adds_run, room_at_first, room_behind}
use Rattle.matrix_market.proofs.Telling.{tells_fault, tells_end, ok_case, err_case, on_err}
use Rattle.matrix_market.proofs.gather.gather_lines.Goals as goal

pub loop-given-init : goal.loop-given-init
loop-given-init c = record {
  adds = subst (λ (x : Listed). Adds c.args.header x c.args.list.now c.args.start.rest.now c.args.start.at 0 c.args.start.rest.now c.args.start.at) c.requires
      (adds_none c.args.header c.args.list.now c.args.start.rest.now c.args.start.at);
  few = omega arith;
}

pub loop-given-preserved : goal.loop-given-preserved
loop-given-preserved c = record {
  adds = adds_run c.args.header (nothing c.args.header) c.loop-given.list c.gather_run.new.list c.args.start.rest.now c.loop-given.cursor.rest.now c.cursor_behind-cursor.result.rest.now c.args.start.at c.loop-given.cursor.at c.cursor_behind-cursor.result.at
      c.loop-given.given c.in_ok-run.run'.given c.in_ok-run.run'.next c.loop-given.invariant.adds c.in_ok-run.ensures.added c.cursor_behind-cursor.ensures.rest c.cursor_behind-cursor.ensures.at;
  few = let f = c.in_ok-run.ensures.few in let g = c.loop-given.invariant.few in omega arith;
}

pub loop-given-preserved-in-Ok : goal.loop-given-preserved-in-Ok
loop-given-preserved-in-Ok c =
    let adds = adds_run c.args.header (nothing c.args.header) c.loop-given.list c.gather_run.new.list c.args.start.rest.now c.loop-given.cursor.rest.now c.cursor_behind-cursor.result.rest.now c.args.start.at c.loop-given.cursor.at c.cursor_behind-cursor.result.at
    c.loop-given.given c.in_ok-run.run'.given c.in_ok-run.run'.next c.loop-given.invariant.adds c.in_ok-run.ensures.added c.cursor_behind-cursor.ensures.rest c.cursor_behind-cursor.ensures.at in
    let line = ok_case (λ (p : Cursor). Adds c.args.header c.gather_run.new.list c.gather_line.new.list c.cursor_behind-cursor.result.rest.now c.cursor_behind-cursor.result.at 1 p.rest.now p.at)
    c.in_ok-behind.field-0 c.in-Ok.behind c.in-Ok.is c.in_ok-behind.ensures.added in
    record {
      adds = adds_more c.args.header (nothing c.args.header) c.gather_run.new.list c.gather_line.new.list c.args.start.rest.now c.cursor_behind-cursor.result.rest.now c.in-Ok.behind.rest.now c.args.start.at c.cursor_behind-cursor.result.at c.in-Ok.behind.at
          (c.loop-given.given + c.in_ok-run.run'.given) 1 adds line;
      few = omega arith;
    }

pub returns-in-Err-clause-read : goal.returns-in-Err-clause-read
returns-in-Err-clause-read c =
    let adds = adds_run c.args.header (nothing c.args.header) c.loop-given.list c.gather_run.new.list c.args.start.rest.now c.loop-given.cursor.rest.now c.cursor_behind-cursor.result.rest.now c.args.start.at c.loop-given.cursor.at c.cursor_behind-cursor.result.at
    c.loop-given.given c.in_ok-run.run'.given c.in_ok-run.run'.next c.loop-given.invariant.adds c.in_ok-run.ensures.added c.cursor_behind-cursor.ensures.rest c.cursor_behind-cursor.ensures.at in
    let kept = on_err (c.gather_line.new.list ≡ c.gather_run.new.list) c.in_ok-behind.field-0 c.in-Err.fault c.in-Err.is c.in_ok-behind.ensures.unchanged in
    record {
      given = c.loop-given.given + c.in_ok-run.run'.given;
      few = omega arith;
      end = c.cursor_behind-cursor.result.rest.now;
      last = c.cursor_behind-cursor.result.at;
      adds = subst (λ (x : Listed). Adds c.args.header (nothing c.args.header) x c.args.start.rest.now c.args.start.at (c.loop-given.given + c.in_ok-run.run'.given) c.cursor_behind-cursor.result.rest.now c.cursor_behind-cursor.result.at) (sym kept) adds;
    }

pub returns-in-Err-clause-reported : goal.returns-in-Err-clause-reported
returns-in-Err-clause-reported c =
    let adds = adds_run c.args.header (nothing c.args.header) c.loop-given.list c.gather_run.new.list c.args.start.rest.now c.loop-given.cursor.rest.now c.cursor_behind-cursor.result.rest.now c.args.start.at c.loop-given.cursor.at c.cursor_behind-cursor.result.at
    c.loop-given.given c.in_ok-run.run'.given c.in_ok-run.run'.next c.loop-given.invariant.adds c.in_ok-run.ensures.added c.cursor_behind-cursor.ensures.rest c.cursor_behind-cursor.ensures.at in
    let kept = on_err (c.gather_line.new.list ≡ c.gather_run.new.list) c.in_ok-behind.field-0 c.in-Err.fault c.in-Err.is c.in_ok-behind.ensures.unchanged in
    let all = subst (λ (x : Listed). Adds c.args.header (nothing c.args.header) x c.args.start.rest.now c.args.start.at (c.loop-given.given + c.in_ok-run.run'.given) c.cursor_behind-cursor.result.rest.now c.cursor_behind-cursor.result.at) (sym kept) adds in
    tells_fault c.args.header c.args.start c.cursor_behind-cursor.result c.gather_line.new.list (c.loop-given.given + c.in_ok-run.run'.given) c.in-Err.fault all (omega arith)
    (err_case (IsFaultAt c.args.header c.cursor_behind-cursor.result) c.in_ok-behind.field-0 c.in-Err.fault c.in-Err.is c.in_ok-behind.ensures.fault)

pub returns-clause-reported : goal.returns-clause-reported
returns-clause-reported c =
    let few = c.loop-given.invariant.few in
    tells_end c.args.header c.args.start c.loop-given.cursor c.loop-given.list c.loop-given.given c.fault_behind.result c.loop-given.invariant.adds (omega arith) c.fault_behind.ensures

pub gather_run-requires : goal.gather_run-requires
gather_run-requires c =
    room_behind c.args.header (nothing c.args.header) c.loop-given.list c.args.start.rest.now c.loop-given.cursor.rest.now c.args.start.at c.loop-given.given c.loop-given.cursor.at c.args.header.size.entries (c.args.header.size.entries - c.loop-given.given)
    (room_at_first c.args.header (nothing c.args.header) refl) c.loop-given.invariant.adds (let f = c.loop-given.invariant.few in omega arith)

pub gather_line-requires : goal.gather_line-requires
gather_line-requires c =
    let adds = adds_run c.args.header (nothing c.args.header) c.loop-given.list c.gather_run.new.list c.args.start.rest.now c.loop-given.cursor.rest.now c.cursor_behind-cursor.result.rest.now c.args.start.at c.loop-given.cursor.at c.cursor_behind-cursor.result.at
    c.loop-given.given c.in_ok-run.run'.given c.in_ok-run.run'.next c.loop-given.invariant.adds c.in_ok-run.ensures.added c.cursor_behind-cursor.ensures.rest c.cursor_behind-cursor.ensures.at in
    room_behind c.args.header (nothing c.args.header) c.gather_run.new.list c.args.start.rest.now c.cursor_behind-cursor.result.rest.now c.args.start.at (c.loop-given.given + c.in_ok-run.run'.given) c.cursor_behind-cursor.result.at c.args.header.size.entries 1
    (room_at_first c.args.header (nothing c.args.header) refl) adds (omega arith)
