use Rattle.std.proofs.Common.{ap, sym, ◌∙◌, length}
use Rattle.csr_store.specs.Run.{Run}
use Rattle.csr_store.proofs.Runs.{length-ended}
use Rattle.csr_store.proofs.rows.Rows.len.Goals as goal

pub returns : goal.returns
returns c = c.len.ensures ∙ (sym (length-ended 0 c.self.inside.ends c.self.inside.cells.items) ∙ ap (λ (r : Run). length r.ended) c.self.view_is)
