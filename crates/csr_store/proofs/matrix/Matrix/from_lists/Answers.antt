use Rattle.std.proofs.Common.{sym, ◌∙◌, refl, arith}
use Rattle.csr_store.specs.ByRows.{ends_of}
use Rattle.csr_store.specs.inner.Run.{ended_rows}
use Rattle.csr_store.specs.inner.Cells.{joined}
use Rattle.csr_store.proofs.InRuns.{run_parts, stacked_few}
use Rattle.csr_store.proofs.Joining.{joined_grid, joined_starts}
use Rattle.csr_store.proofs.Runs.{length-ended}
use Rattle.csr_store.proofs.matrix.Matrix.from_lists.Goals as goal

pub invariant_of-result : goal.invariant_of-result
invariant_of-result c =
    let h = c.requires.stacked in
    let cells = joined c.args.lists.items in
    let ended = ended_rows 0 (ends_of c.args.starts) cells in
    let rows = c.requires.rows.0 in
    let filled = h.filled in
    let count = length-ended 0 (ends_of c.args.starts) cells ∙ sym rows in
    let few = stacked_few c.args.columns c.args.entries c.args.starts c.args.lists.items h in
    let starts = joined_starts c.args.rows c.args.columns c.args.starts cells ended c.requires.rows.1 c.requires.columns count few h.closed refl h.are_rows in (
      joined_grid c.args.rows c.args.columns c.args.starts cells ended c.requires.rows.1 c.requires.columns count few h.closed refl h.are_rows,
      starts,
      run_parts c.args.rows c.args.columns c.args.starts c.args.lists starts h.bases (omega (arith, rows, filled)),
      h.count,
      tt,
    )
