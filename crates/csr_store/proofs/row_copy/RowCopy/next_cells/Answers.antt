use Rattle.std.proofs.Common.{◌≡◌, ◌+◌, ◌-◌, take, drop, ap, sym, ◌∙◌, arith, List}
use Rattle.csr_store.specs.Grid.{Cell}
use Rattle.csr_store.specs.Copied.{Copied}
use Rattle.csr_store.specs.Valued.{all_cells, entries_of}
use Rattle.csr_store.specs.inner.Copied.{copied_cells}
use Rattle.csr_store.proofs.Copied.{copied_length, copied_next}
use Rattle.csr_store.proofs.Valuing.{entries_in_run, cells_in_run}
use Rattle.csr_store.proofs.row_copy.RowCopy.next_cells.Goals as goal

pub overflow_add-result : goal.overflow_add-result
overflow_add-result c =
    let e = entries_in_run c.self.inside.first c.self.inside.columns c.self.inside.ends.items (copied_cells c.self.inside.written.items c.self.inside.source.now) c.self.invariant.0 in
    let n = copied_length c.self.inside.written.items c.self.inside.source.now c.self.invariant.1 in
    let v = ap (λ (d : Copied). entries_of d.run) c.self.view_is in
    let w = ap (λ (d : Copied). d.written) c.self.view_is in
    let k = c.len-from.ensures in let o = c.self.inside.written.ok.0 in let r = c.requires in let cap = c.self.invariant.2 in let most = c.self.inside.written.small in
    omega (arith, e, n, v, w, k, o, r, cap, most)

pub slice_bounds-result-end : goal.slice_bounds-result-end
slice_bounds-result-end c =
    let e = entries_in_run c.self.inside.first c.self.inside.columns c.self.inside.ends.items (copied_cells c.self.inside.written.items c.self.inside.source.now) c.self.invariant.0 in
    let n = copied_length c.self.inside.written.items c.self.inside.source.now c.self.invariant.1 in
    let v = ap (λ (d : Copied). entries_of d.run) c.self.view_is in
    let w = ap (λ (d : Copied). d.written) c.self.view_is in
    let k = c.len-from.ensures in let o = c.self.inside.written.ok.0 in let r = c.requires in
    omega (arith, e, n, v, w, k, o, r)

pub returns : goal.returns
returns c =
    let k = c.len-from.ensures ∙ c.self.inside.written.ok.0 in
    let w = ap (λ (d : Copied). d.written) c.self.view_is in
    let n : c.len-from.result ≡ c.args.self.now.written = k ∙ w in
    let cells = sym (cells_in_run c.self.inside.first c.self.inside.columns c.self.inside.ends.items (copied_cells c.self.inside.written.items c.self.inside.source.now) c.self.invariant.0)
    ∙ ap (λ (d : Copied). all_cells d.run) c.self.view_is in
    sym (copied_next c.len-from.result c.args.many c.self.inside.written.items c.self.inside.source.now k)
    ∙ (ap (λ (cs : List Cell). take (c.len-from.result + c.args.many - c.len-from.result) (drop c.len-from.result cs)) cells
    ∙ ap (λ m. take (m + c.args.many - m) (drop m (all_cells c.args.self.now.run))) n)
