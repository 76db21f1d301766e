use Rattle.std.proofs.Common.{◌≡◌, ◌+◌, ◌-◌, length, drop, ap, sym, ◌∙◌, subst, arith, List, vec_capacity, length-drop}
use Rattle.std.proofs.lemmas.List.{length-take-le}
use Rattle.csr_store.specs.Grid.{Cell}
use Rattle.csr_store.specs.Run.{Row, Run}
use Rattle.csr_store.specs.Copied.{Copied}
use Rattle.csr_store.specs.Valued.{AreAlike, all_cells, entries_of, valued_from}
use Rattle.csr_store.specs.inner.Copied.{copied_cells, run_by_ends}
use Rattle.csr_store.proofs.Copied.{copied_length, rewritten}
use Rattle.csr_store.proofs.Valuing.{entries_in_run, cells_in_run, run_with_values, words_fit}
use Rattle.csr_store.proofs.row_copy.RowCopy.write_values.Goals as goal

pub cells_between-columns-requires-clause-within : goal.cells_between-columns-requires-clause-within
cells_between-columns-requires-clause-within c =
    let e = entries_in_run c.self.inside.first c.self.inside.columns c.self.inside.ends.items (copied_cells c.self.inside.written.items c.self.inside.source.now) c.self.invariant.0 in
    let n = copied_length c.self.inside.written.items c.self.inside.source.now c.self.invariant.1 in
    let v = ap (λ (d : Copied). entries_of d.run) c.self.view_is in
    let w = ap (λ (d : Copied). d.written) c.self.view_is in
    let k = c.len-from.ensures in let o = c.self.inside.written.ok.0 in let r = c.requires in
    omega (arith, e, n, v, w, k, o, r)

pub push_valued-requires-clause-same : goal.push_valued-requires-clause-same
push_valued-requires-clause-same c =
    let e = entries_in_run c.self.inside.first c.self.inside.columns c.self.inside.ends.items (copied_cells c.self.inside.written.items c.self.inside.source.now) c.self.invariant.0 in
    let n = copied_length c.self.inside.written.items c.self.inside.source.now c.self.invariant.1 in
    let v = ap (λ (d : Copied). entries_of d.run) c.self.view_is in
    let w = ap (λ (d : Copied). d.written) c.self.view_is in
    let k = c.len-from.ensures in let o = c.self.inside.written.ok.0 in let r = c.requires in
    let p = ap (λ (cs : List Cell). length cs) c.cells_between-columns.ensures in
    let z : c.len-from.result + length c.args.values.now - c.len-from.result ≡ length c.args.values.now = omega arith in
    let t = length-take-le (c.len-from.result + length c.args.values.now - c.len-from.result) (drop c.len-from.result c.self.inside.source.now)
    (omega (arith, length-drop c.len-from.result c.self.inside.source.now, e, n, v, w, k, o, r)) in
    omega (arith, p, t, z)

pub push_valued-requires-clause-capacity : goal.push_valued-requires-clause-capacity
push_valued-requires-clause-capacity c =
    let e = entries_in_run c.self.inside.first c.self.inside.columns c.self.inside.ends.items (copied_cells c.self.inside.written.items c.self.inside.source.now) c.self.invariant.0 in
    let n = copied_length c.self.inside.written.items c.self.inside.source.now c.self.invariant.1 in
    let v = ap (λ (d : Copied). entries_of d.run) c.self.view_is in
    let w = ap (λ (d : Copied). d.written) c.self.view_is in
    let k = c.len-from.ensures in let o = c.self.inside.written.ok.0 in let r = c.requires in
    let a = c.self.invariant.2 in
    let b = ap (λ u. length u.items) c.replace-written.ensures.value in
    let d = ap vec_capacity c.replace-written.ensures.value in
    omega (arith, e, n, v, w, o, r, a, b, d)

pub invariant_of-self : goal.invariant_of-self
invariant_of-self c =
    let e = entries_in_run c.self.inside.first c.self.inside.columns c.self.inside.ends.items (copied_cells c.self.inside.written.items c.self.inside.source.now) c.self.invariant.0 in
    let n = copied_length c.self.inside.written.items c.self.inside.source.now c.self.invariant.1 in
    let v = ap (λ (d : Copied). entries_of d.run) c.self.view_is in
    let w = ap (λ (d : Copied). d.written) c.self.view_is in
    let k = c.len-from.ensures in let o = c.self.inside.written.ok.0 in let r = c.requires in
    let x = rewritten c.self.inside.columns c.len-from.result c.self.inside.ends.items c.self.inside.written.items c.replace-written.result.items c.push_valued.new.written.items c.self.inside.source.now c.cells_between-columns.result.now
    c.args.values.now c.self.invariant.0 (omega (arith, e, n, v, w, o, r)) (k ∙ o) (ap (λ u. u.items) c.replace-written.ensures.value) c.cells_between-columns.ensures c.push_valued.ensures.pushed (words_fit c.args.values.now c.type_inv.values) in
    let m = x.count in
    let a = c.self.invariant.2 in
    let d = ap vec_capacity c.replace-written.ensures.value in
    let g = c.push_valued.ensures.capacity in
    (x.rows, omega (arith, m, e, n, v, w, o, r), omega (arith, a, d, g))

pub returns-clause-written : goal.returns-clause-written
returns-clause-written c =
    let e = entries_in_run c.self.inside.first c.self.inside.columns c.self.inside.ends.items (copied_cells c.self.inside.written.items c.self.inside.source.now) c.self.invariant.0 in
    let n = copied_length c.self.inside.written.items c.self.inside.source.now c.self.invariant.1 in
    let v = ap (λ (d : Copied). entries_of d.run) c.self.view_is in
    let w = ap (λ (d : Copied). d.written) c.self.view_is in
    let k = c.len-from.ensures in let o = c.self.inside.written.ok.0 in let r = c.requires in
    let x = rewritten c.self.inside.columns c.len-from.result c.self.inside.ends.items c.self.inside.written.items c.replace-written.result.items c.push_valued.new.written.items c.self.inside.source.now c.cells_between-columns.result.now
    c.args.values.now c.self.invariant.0 (omega (arith, e, n, v, w, o, r)) (k ∙ o) (ap (λ u. u.items) c.replace-written.ensures.value) c.cells_between-columns.ensures c.push_valued.ensures.pushed (words_fit c.args.values.now c.type_inv.values) in
    let m = x.count in
    omega (arith, m, w, o)

pub returns-clause-alike : goal.returns-clause-alike
returns-clause-alike c =
    let e = entries_in_run c.self.inside.first c.self.inside.columns c.self.inside.ends.items (copied_cells c.self.inside.written.items c.self.inside.source.now) c.self.invariant.0 in
    let n = copied_length c.self.inside.written.items c.self.inside.source.now c.self.invariant.1 in
    let v = ap (λ (d : Copied). entries_of d.run) c.self.view_is in
    let w = ap (λ (d : Copied). d.written) c.self.view_is in
    let k = c.len-from.ensures in let o = c.self.inside.written.ok.0 in let r = c.requires in
    let x = rewritten c.self.inside.columns c.len-from.result c.self.inside.ends.items c.self.inside.written.items c.replace-written.result.items c.push_valued.new.written.items c.self.inside.source.now c.cells_between-columns.result.now
    c.args.values.now c.self.invariant.0 (omega (arith, e, n, v, w, o, r)) (k ∙ o) (ap (λ u. u.items) c.replace-written.ensures.value) c.cells_between-columns.ensures c.push_valued.ensures.pushed (words_fit c.args.values.now c.type_inv.values) in
    subst (λ (q : Run). AreAlike q (run_by_ends c.self.inside.first c.self.inside.columns c.self.inside.ends.items (copied_cells c.push_valued.new.written.items c.self.inside.source.now))) (ap (λ (d : Copied). d.run) c.self.view_is)
    (subst (λ (cs : Row). AreAlike (run_by_ends c.self.inside.first c.self.inside.columns c.self.inside.ends.items (copied_cells c.self.inside.written.items c.self.inside.source.now)) (run_by_ends c.self.inside.first c.self.inside.columns c.self.inside.ends.items cs)) (sym x.cells)
    (run_with_values c.self.inside.first c.self.inside.columns (length c.self.inside.written.items) c.args.values.now c.self.inside.ends.items (copied_cells c.self.inside.written.items c.self.inside.source.now) (words_fit c.args.values.now c.type_inv.values) c.self.invariant.0))

pub returns-clause-values : goal.returns-clause-values
returns-clause-values c =
    let e = entries_in_run c.self.inside.first c.self.inside.columns c.self.inside.ends.items (copied_cells c.self.inside.written.items c.self.inside.source.now) c.self.invariant.0 in
    let n = copied_length c.self.inside.written.items c.self.inside.source.now c.self.invariant.1 in
    let v = ap (λ (d : Copied). entries_of d.run) c.self.view_is in
    let w = ap (λ (d : Copied). d.written) c.self.view_is in
    let k = c.len-from.ensures in let o = c.self.inside.written.ok.0 in let r = c.requires in
    let x = rewritten c.self.inside.columns c.len-from.result c.self.inside.ends.items c.self.inside.written.items c.replace-written.result.items c.push_valued.new.written.items c.self.inside.source.now c.cells_between-columns.result.now
    c.args.values.now c.self.invariant.0 (omega (arith, e, n, v, w, o, r)) (k ∙ o) (ap (λ u. u.items) c.replace-written.ensures.value) c.cells_between-columns.ensures c.push_valued.ensures.pushed (words_fit c.args.values.now c.type_inv.values) in
    cells_in_run c.self.inside.first c.self.inside.columns c.self.inside.ends.items (copied_cells c.push_valued.new.written.items c.self.inside.source.now) x.rows
    ∙ (x.cells ∙ (ap (valued_from (length c.self.inside.written.items) c.args.values.now)
    (sym (cells_in_run c.self.inside.first c.self.inside.columns c.self.inside.ends.items (copied_cells c.self.inside.written.items c.self.inside.source.now) c.self.invariant.0)
    ∙ ap (λ (d : Copied). all_cells d.run) c.self.view_is)
    ∙ ap (λ m. valued_from m c.args.values.now (all_cells c.args.self.now.run)) w))
