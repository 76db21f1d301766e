use Rattle.std.proofs.Common.{ap, sym, ◌∙◌, subst, arith}
use Rattle.csr_store.specs.Copied.{Copied}
use Rattle.csr_store.specs.Valued.{entries_of}
use Rattle.csr_store.specs.inner.Copied.{copied_cells, run_by_ends}
use Rattle.csr_store.specs.inner.Run.{AreRows}
use Rattle.csr_store.proofs.Copied.{copied_length, all_copied}
use Rattle.csr_store.proofs.Valuing.{entries_in_run}
use Rattle.csr_store.proofs.row_copy.RowCopy.finish.Goals as goal

pub of_ends-requires : goal.of_ends-requires
of_ends-requires c =
    let e = entries_in_run c.self.inside.first c.self.inside.columns c.self.inside.ends.items (copied_cells c.self.inside.written.items c.self.inside.source.now) c.self.invariant.0 in
    let n = copied_length c.self.inside.written.items c.self.inside.source.now c.self.invariant.1 in
    let v = ap (λ (d : Copied). entries_of d.run) c.self.view_is in
    let w = ap (λ (d : Copied). d.written) c.self.view_is in
    let r = c.requires in
    let all = all_copied c.self.inside.written.items c.self.inside.source.now (omega (arith, e, n, v, w, r)) in
    subst (AreRows c.self.inside.columns c.self.inside.ends.items) all c.self.invariant.0

pub returns : goal.returns
returns c =
    let e = entries_in_run c.self.inside.first c.self.inside.columns c.self.inside.ends.items (copied_cells c.self.inside.written.items c.self.inside.source.now) c.self.invariant.0 in
    let n = copied_length c.self.inside.written.items c.self.inside.source.now c.self.invariant.1 in
    let v = ap (λ (d : Copied). entries_of d.run) c.self.view_is in
    let w = ap (λ (d : Copied). d.written) c.self.view_is in
    let r = c.requires in
    let all = all_copied c.self.inside.written.items c.self.inside.source.now (omega (arith, e, n, v, w, r)) in
    c.of_ends.ensures ∙ (ap (run_by_ends c.self.inside.first c.self.inside.columns c.self.inside.ends.items) (sym all) ∙ ap (λ (d : Copied). d.run) c.self.view_is)
