use Rattle.std.proofs.Common.{◌∙◌}
use Rattle.csr_store.proofs.InRuns.{whole_parts}
use Rattle.csr_store.proofs.matrix.Matrix.from_rows.Goals as goal

pub invariant_of-result : goal.invariant_of-result
invariant_of-result c =
    (c.requires.is_grid, c.requires.starts, whole_parts c.args.rows c.args.columns c.args.starts c.args.cells c.requires.starts, c.len.ensures ∙ c.args.cells.ok.0, tt)
