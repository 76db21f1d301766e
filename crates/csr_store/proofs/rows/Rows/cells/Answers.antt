use Rattle.std.proofs.Common.{sym, ap, ◌∙◌}
use Rattle.csr_store.specs.Valued.{all_cells}
use Rattle.csr_store.proofs.Valuing.{cells_in_run}
use Rattle.csr_store.proofs.rows.Rows.cells.Goals as goal

pub returns : goal.returns
returns c = c.deref.ensures.value ∙ (sym (cells_in_run c.self.inside.first c.self.inside.columns c.self.inside.ends c.self.inside.cells.items c.self.invariant) ∙ ap all_cells c.self.view_is)
