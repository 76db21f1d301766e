use Rattle.std.proofs.Common.{◌≡◌, ◌-◌, List, ℕ, length, ap, ◌∙◌, arith}
use Rattle.csr_store.specs.ByRows.{grid, by_rows, ends_of}
use Rattle.csr_store.specs.Run.{Run, numbered}
use Rattle.csr_store.specs.inner.Cells.{joined}
use Rattle.csr_store.proofs.InRuns.{length_closed}
use Rattle.csr_store.proofs.Joining.{entries_closed}
use Rattle.csr_store.proofs.Runs.{length-ended}
use Rattle.csr_store.proofs.stack.Stack.finish.Goals as goal

pub from_lists-requires-clause-rows : goal.from_lists-requires-clause-rows
from_lists-requires-clause-rows c =
    let starts = length_closed c.self.inside.starts (joined c.self.inside.lists.items) c.self.invariant.closed in
    let list = ap (λ (ss : List ℕ). length ss) (c.list.ensures ∙ c.in_ok-starts.ensures) in
    let ends = ap (λ (ss : List ℕ). length (ends_of ss)) c.in_ok-starts.ensures in
    let ended = length-ended 0 (ends_of c.self.inside.starts) (joined c.self.inside.lists.items) in
    let rows = ap (λ (r : Run). length r.ended) c.self.view_is in
    let few = c.requires.rows in
    (omega (arith, starts, list, ends), omega (arith, starts, list, ended, rows, few))

pub returns : goal.returns
returns c =
    let cells = joined c.self.inside.lists.items in
    let starts = length_closed c.self.inside.starts cells c.self.invariant.closed in
    let list = ap (λ (ss : List ℕ). length ss) (c.list.ensures ∙ c.in_ok-starts.ensures) in
    let ended = length-ended 0 (ends_of c.self.inside.starts) cells in
    let rows = ap (λ (r : Run). length r.ended) c.self.view_is in
    c.from_lists.ensures
    ∙ ap (λ (n : ℕ). grid n c.self.inside.columns (by_rows (ends_of c.in_ok-starts.starts) cells)) (let n : length c.list.result.now - 1 ≡ length c.args.self.ended = omega (arith, starts, list, ended, rows) in n)
    ∙ ap (λ (ss : List ℕ). grid (length c.args.self.ended) c.self.inside.columns (by_rows (ends_of ss) cells)) c.in_ok-starts.ensures
    ∙ ap (grid (length c.args.self.ended) c.self.inside.columns) (entries_closed (ends_of c.self.inside.starts) cells c.self.invariant.closed.none_open)
    ∙ ap (λ (r : Run). grid (length c.args.self.ended) r.columns (numbered 0 r.ended)) c.self.view_is
