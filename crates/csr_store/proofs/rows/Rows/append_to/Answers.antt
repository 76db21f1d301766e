use Rattle.std.proofs.Common.{◌≡◌, ◌+◌, ◌++◌, length, map, ap, ◌∙◌, arith}
use Rattle.csr_store.specs.ByRows.{ends_of}
use Rattle.csr_store.specs.Run.{Run, Row}
use Rattle.csr_store.specs.inner.Run.{ended_rows}
use Rattle.csr_store.proofs.Joining.{ends_fit, joined_rows, joined_closed_rows}
use Rattle.csr_store.proofs.rows.Rows.append_to.Goals as goal

pub add_to-requires : goal.add_to-requires
add_to-requires c =
    let n = c.len.ensures ∙ c.args.cells.now.ok.0 in
    let a = c.args.cells.now.small in let b = c.self.inside.cells.small in
    (ends_fit c.len.result 0 (length c.self.inside.cells.items) c.self.inside.ends c.self.invariant.ends_rise (omega (arith, c.args.cells.now.ok.0, c.self.inside.cells.ok.0)))

pub returns-in_err-add_to-clause-rows : goal.returns-in_err-add_to-clause-rows
returns-in_err-add_to-clause-rows c = rw (← c.self.view_is) c.self.invariant.ended_are

pub returns-in_err-append-clause-rows : goal.returns-in_err-append-clause-rows
returns-in_err-append-clause-rows c = rw (← c.self.view_is) c.self.invariant.ended_are

pub returns-clause-rows : goal.returns-clause-rows
returns-clause-rows c = rw (← c.self.view_is) c.self.invariant.ended_are

pub returns-clause-joined : goal.returns-clause-joined
returns-clause-joined c =
    let base = c.len.ensures ∙ c.args.cells.now.ok.0 in
    let starts : c.add_to.new.starts.items ≡ c.args.starts.now.items ++ map (λ e. length c.args.cells.now.items + e) c.self.inside.ends =
    c.in_ok-add_to.ensures ∙ ap (λ n. c.args.starts.now.items ++ map (λ e. n + e) c.self.inside.ends) base in
    let cells : c.append.new.cells.items ≡ c.args.cells.now.items ++ c.self.inside.cells.items = c.in_ok-append.ensures ∙ ap (λ (cs : Row). c.args.cells.now.items ++ cs) c.deref.ensures.value in
    let none = ap (λ (r : Run). r.opened) c.self.view_is ∙ c.requires.none_open in (
      joined_closed_rows c.args.starts.now.items c.add_to.new.starts.items c.self.inside.ends c.args.cells.now.items
          c.append.new.cells.items c.self.inside.cells.items c.requires.closed c.self.invariant.ends_rise none starts cells,
      joined_rows c.args.starts.now.items c.add_to.new.starts.items c.self.inside.ends c.args.cells.now.items
          c.append.new.cells.items c.self.inside.cells.items c.requires.closed c.self.invariant.ends_rise none starts cells
          ∙ ap (λ (r : Run). ended_rows 0 (ends_of c.args.starts.now.items) c.args.cells.now.items ++ r.ended) c.self.view_is,
    )
