use Rattle.std.proofs.Common.{ap, ◌∙◌, sym}
use Rattle.csr_store.specs.Valued.{entries_of}
use Rattle.csr_store.proofs.Valuing.{entries_in_run}
use Rattle.csr_store.proofs.rows.Rows.entries.Goals as goal

pub returns : goal.returns
returns c = c.len.ensures ∙ (c.self.inside.cells.ok.0 ∙ (sym (entries_in_run c.self.inside.first c.self.inside.columns c.self.inside.ends c.self.inside.cells.items c.self.invariant) ∙ ap entries_of c.self.view_is))
