use Rattle.std.proofs.Common.{arith, ap, sym, subst}
use Rattle.csr_store.specs.Grid.{Cell}
use Rattle.csr_store.specs.Run.{Row}
use Rattle.csr_store.specs.inner.Run.{AreRows}
use Rattle.csr_store.proofs.Valuing.{entry_inside, rows_with_value, run_with_value, set_is_valued}
use Rattle.csr_store.proofs.rows.Rows.set_value.Goals as goal

pub index_mut-requires : goal.index_mut-requires
index_mut-requires c = let l = entry_inside _ _ c.args.entry _ _ _ c.self.invariant c.self.view_is c.requires in let k = c.self.inside.cells.ok.0 in omega (arith, l, k)

pub invariant_of-self : goal.invariant_of-self
invariant_of-self c =
    let l = entry_inside _ _ c.args.entry _ _ _ c.self.invariant c.self.view_is c.requires in
    subst (λ (cs : Row). AreRows c.self.inside.columns c.self.inside.ends cs)
    (sym (set_is_valued c.args.entry _ c.args.value c.self.inside.cells.items c.index_mut.result.now l (ap (λ (x : Cell). x.0) c.index_mut.ensures.value)))
    (rows_with_value c.self.inside.columns c.args.entry c.args.value c.self.inside.ends c.self.inside.cells.items c.ranges.value.fits c.self.invariant)

pub returns : goal.returns
returns c =
    let l = entry_inside _ _ c.args.entry _ _ _ c.self.invariant c.self.view_is c.requires in
    run_with_value c.self.inside.first c.self.inside.columns c.args.entry c.args.value c.self.inside.ends c.self.inside.cells.items _ _ c.self.invariant
    (set_is_valued c.args.entry _ c.args.value c.self.inside.cells.items c.index_mut.result.now l (ap (λ (x : Cell). x.0) c.index_mut.ensures.value)) c.self.view_is
