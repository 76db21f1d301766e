use Rattle.std.proofs.Common.{◌≡◌, ◌++◌, ℕ, List, take, ap, sym, ◌∙◌, subst}
use Rattle.std.proofs.lemmas.List.{take_all}
use Rattle.std.specs.List.{AllByRecursion}
use Rattle.csr_store.specs.ByRows.{grid, by_rows, ends_of}
use Rattle.csr_store.specs.Run.{Run, Row, all_ended}
use Rattle.csr_store.specs.inner.Run.{IsRow}
use Rattle.csr_store.proofs.Joining.{follow_each, ended_more, rows_more, follow_count, joined_entries, joined_grid, joined_starts}
use Rattle.csr_store.proofs.join.join_rows.Goals as goal

pub append_to-requires-clause-none_open : goal.append_to-requires-clause-none_open
append_to-requires-clause-none_open c =
    let f = follow_each c.loop-piece.piece-index c.args.columns 0 c.args.rows c.deref-piece-items.result.now c.piece-item.result c.loop-piece-test.true (rw c.deref-piece-items.ensures.value c.requires.follow) in
    ap (λ (r : Run). r.opened) c.piece-item.is ∙ f.1

pub loop-piece-preserved : goal.loop-piece-preserved
loop-piece-preserved c =
    let f = follow_each c.loop-piece.piece-index c.args.columns 0 c.args.rows c.deref-piece-items.result.now c.piece-item.result c.loop-piece-test.true (rw c.deref-piece-items.ensures.value c.requires.follow) in
    let columns : c.piece-item.result.columns ≡ c.args.columns = ap (λ (r : Run). r.columns) c.piece-item.is ∙ f.0 in
    record {
      closed = c.in_ok-append_to.ensures.joined.0;
      listed = c.in_ok-append_to.ensures.joined.1 ∙ ap (λ (rs : List Row). rs ++ c.piece-item.result.ended) c.loop-piece.invariant.listed
          ∙ sym (ended_more c.loop-piece.piece-index c.deref-piece-items.result.now c.piece-item.result c.loop-piece-test.true c.piece-item.is);
      are_rows = rows_more c.loop-piece.piece-index c.args.columns c.deref-piece-items.result.now c.piece-item.result c.loop-piece-test.true c.piece-item.is c.loop-piece.invariant.are_rows
          (subst (λ (n : ℕ). AllByRecursion (λ q. IsRow n q) c.piece-item.result.ended) columns c.in_ok-append_to.ensures.rows);
    }

pub from_rows-requires-clause-is_grid : goal.from_rows-requires-clause-is_grid
from_rows-requires-clause-is_grid c =
    let v = c.deref-piece-items.ensures.value in
    let all : take c.loop-piece.piece-index c.deref-piece-items.result.now ≡ c.args.pieces.items = take_all c.loop-piece.piece-index c.deref-piece-items.result.now c.loop-piece-test.false ∙ v in
    rw c.in_ok-give.ensures
    (joined_grid c.args.rows c.args.columns c.loop-piece.starts.items c.loop-piece.cells.items (all_ended c.args.pieces.items) c.requires.rows c.requires.columns
    (follow_count c.args.columns c.args.rows c.args.pieces.items c.requires.follow) c.requires.small
    c.loop-piece.invariant.closed (c.loop-piece.invariant.listed ∙ ap all_ended all) (subst (λ (rs : List Run). AllByRecursion (λ q. IsRow c.args.columns q) (all_ended rs)) all c.loop-piece.invariant.are_rows))

pub from_rows-requires-clause-starts : goal.from_rows-requires-clause-starts
from_rows-requires-clause-starts c =
    let v = c.deref-piece-items.ensures.value in
    let all : take c.loop-piece.piece-index c.deref-piece-items.result.now ≡ c.args.pieces.items = take_all c.loop-piece.piece-index c.deref-piece-items.result.now c.loop-piece-test.false ∙ v in
    rw c.in_ok-give.ensures
    (joined_starts c.args.rows c.args.columns c.loop-piece.starts.items c.loop-piece.cells.items (all_ended c.args.pieces.items) c.requires.rows c.requires.columns
    (follow_count c.args.columns c.args.rows c.args.pieces.items c.requires.follow) c.requires.small
    c.loop-piece.invariant.closed (c.loop-piece.invariant.listed ∙ ap all_ended all) (subst (λ (rs : List Run). AllByRecursion (λ q. IsRow c.args.columns q) (all_ended rs)) all c.loop-piece.invariant.are_rows))

pub returns : goal.returns
returns c =
    let v = c.deref-piece-items.ensures.value in
    let all : take c.loop-piece.piece-index c.deref-piece-items.result.now ≡ c.args.pieces.items = take_all c.loop-piece.piece-index c.deref-piece-items.result.now c.loop-piece-test.false ∙ v in
    c.from_rows.ensures ∙ ap (λ (ss : List ℕ). grid c.args.rows c.args.columns (by_rows (ends_of ss) c.loop-piece.cells.items)) c.in_ok-give.ensures
    ∙ ap (grid c.args.rows c.args.columns)
    (joined_entries c.args.rows c.args.columns c.loop-piece.starts.items c.loop-piece.cells.items (all_ended c.args.pieces.items) c.requires.rows c.requires.columns
    (follow_count c.args.columns c.args.rows c.args.pieces.items c.requires.follow) c.requires.small
    c.loop-piece.invariant.closed (c.loop-piece.invariant.listed ∙ ap all_ended all) (subst (λ (rs : List Run). AllByRecursion (λ q. IsRow c.args.columns q) (all_ended rs)) all c.loop-piece.invariant.are_rows))
