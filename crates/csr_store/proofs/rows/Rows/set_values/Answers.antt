use Rattle.std.proofs.Common.{◌≡◌, ap, sym, subst, ◌∙◌, length, arith}
use Rattle.std.proofs.lemmas.List.{with_items_is}
use Rattle.csr_store.specs.Run.{Row}
use Rattle.csr_store.specs.inner.Run.{AreRows}
use Rattle.csr_store.specs.Valued.{entries_of, valued_from, all_cells, AreAlike}
use Rattle.csr_store.proofs.Runs.{run}
use Rattle.csr_store.proofs.Valuing.{entries_in_run, cells_in_run, length-valued_from, words_fit, rows_with_values, run_with_values}
use Rattle.csr_store.proofs.rows.Rows.set_values.Goals as goal

pub put_values-requires : goal.put_values-requires
put_values-requires c =
    let e = entries_in_run c.self.inside.first c.self.inside.columns c.self.inside.ends c.self.inside.cells.items c.self.invariant in
    let n = ap entries_of c.self.view_is in
    let r = c.requires in
    let v = ap (λ (cs : Row). length cs) c.deref_mut.ensures.value in
    omega (arith, e, n, r, v)

pub invariant_of-self : goal.invariant_of-self
invariant_of-self c =
    let put : c.put_values.new.cells ≡ valued_from c.args.from c.args.values.now c.self.inside.cells.items
    = c.put_values.ensures ∙ ap (valued_from c.args.from c.args.values.now) c.deref_mut.ensures.value in
    let count : length c.put_values.new.cells ≡ c.self.inside.cells.len
    = ap (λ (cs : Row). length cs) put ∙ (length-valued_from c.args.from c.args.values.now c.self.inside.cells.items ∙ sym c.self.inside.cells.ok.0) in
    subst (λ (cs : Row). AreRows c.self.inside.columns c.self.inside.ends cs) (sym (with_items_is c.self.inside.cells c.put_values.new.cells count ∙ put))
    (rows_with_values c.self.inside.columns c.args.from c.args.values.now c.self.inside.ends c.self.inside.cells.items (words_fit c.args.values.now c.type_inv.values) c.self.invariant)

pub returns-clause-alike : goal.returns-clause-alike
returns-clause-alike c =
    let put : c.put_values.new.cells ≡ valued_from c.args.from c.args.values.now c.self.inside.cells.items
    = c.put_values.ensures ∙ ap (valued_from c.args.from c.args.values.now) c.deref_mut.ensures.value in
    let count : length c.put_values.new.cells ≡ c.self.inside.cells.len
    = ap (λ (cs : Row). length cs) put ∙ (length-valued_from c.args.from c.args.values.now c.self.inside.cells.items ∙ sym c.self.inside.cells.ok.0) in
    subst (λ (cs : Row). AreAlike c.args.self.now (run c.self.inside.first c.self.inside.columns c.self.inside.ends cs))
    (sym (with_items_is c.self.inside.cells c.put_values.new.cells count ∙ put))
    (subst (λ r. AreAlike r (run c.self.inside.first c.self.inside.columns c.self.inside.ends (valued_from c.args.from c.args.values.now c.self.inside.cells.items)))
    c.self.view_is
    (run_with_values c.self.inside.first c.self.inside.columns c.args.from c.args.values.now c.self.inside.ends c.self.inside.cells.items (words_fit c.args.values.now c.type_inv.values) c.self.invariant))

pub returns-clause-values : goal.returns-clause-values
returns-clause-values c =
    let put : c.put_values.new.cells ≡ valued_from c.args.from c.args.values.now c.self.inside.cells.items
    = c.put_values.ensures ∙ ap (valued_from c.args.from c.args.values.now) c.deref_mut.ensures.value in
    let count : length c.put_values.new.cells ≡ c.self.inside.cells.len
    = ap (λ (cs : Row). length cs) put ∙ (length-valued_from c.args.from c.args.values.now c.self.inside.cells.items ∙ sym c.self.inside.cells.ok.0) in
    subst (λ (cs : Row). all_cells (run c.self.inside.first c.self.inside.columns c.self.inside.ends cs) ≡ valued_from c.args.from c.args.values.now (all_cells c.args.self.now))
    (sym (with_items_is c.self.inside.cells c.put_values.new.cells count ∙ put))
    (cells_in_run c.self.inside.first c.self.inside.columns c.self.inside.ends _
    (rows_with_values c.self.inside.columns c.args.from c.args.values.now c.self.inside.ends c.self.inside.cells.items (words_fit c.args.values.now c.type_inv.values) c.self.invariant)
    ∙ ap (valued_from c.args.from c.args.values.now)
    (sym (cells_in_run c.self.inside.first c.self.inside.columns c.self.inside.ends c.self.inside.cells.items c.self.invariant) ∙ ap all_cells c.self.view_is))
