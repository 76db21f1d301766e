use Rattle.std.proofs.Common.{ap, sym, ◌∙◌}
use Rattle.csr_store.specs.Copied.{Copied}
use Rattle.csr_store.specs.Valued.{entries_of}
use Rattle.csr_store.specs.inner.Copied.{copied_cells}
use Rattle.csr_store.proofs.Copied.{copied_length}
use Rattle.csr_store.proofs.Valuing.{entries_in_run}
use Rattle.csr_store.proofs.row_copy.RowCopy.entries.Goals as goal

pub returns : goal.returns
returns c =
    sym (copied_length c.self.inside.written.items c.self.inside.source.now c.self.invariant.1)
    ∙ (sym (entries_in_run c.self.inside.first c.self.inside.columns c.self.inside.ends.items (copied_cells c.self.inside.written.items c.self.inside.source.now) c.self.invariant.0)
    ∙ ap (λ (d : Copied). entries_of d.run) c.self.view_is)
