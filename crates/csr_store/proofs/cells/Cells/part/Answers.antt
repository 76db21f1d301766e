use Rattle.std.proofs.Common.{◌≡◌, ◌-◌, ◌*◌, List, length, take, drop, get_or, sym, ap, ◌∙◌, subst, arith}
use Rattle.std.proofs.lemmas.List.{get_or_read}
use Rattle.csr_store.specs.Grid.{Cell}
use Rattle.csr_store.specs.inner.Cells.{IsPart, joined_cells}
use Rattle.csr_store.specs.declared.cells.Cells.{Cells}
use Rattle.csr_store.proofs.InRuns.{run_split, part_of_run}
use Rattle.csr_store.proofs.cells.Cells.part.Goals as goal

pub cells_between-requires-in-Runs-clause-within : goal.cells_between-requires-in-Runs-clause-within
cells_between-requires-in-Runs-clause-within c =
    let p = subst (λ (s : Cells). IsPart s c.args.run (get_or c.args.starts.now (c.args.run * 256) 0) c.args.from c.args.to) c.in-Runs.is c.requires.part in
    let l = p.0 in let b = p.1 in let w = p.4 in
    let at : c.index.result.now ≡ get_or c.in-Runs.runs.items c.args.run c.index.result.now = get_or_read c.in-Runs.runs.items _ _ l c.index.ensures c.index.result.now in
    let e = run_split c.args.run c.in-Runs.runs.items c.index.result.now l in
    let same = ap (λ v. length v.items) at in
    let f = ap (λ (cs : List Cell). length cs) c.deref-in-Runs.ensures.value in
    omega (arith, e, b, w, same, f)

pub returns-in-Runs : goal.returns-in-Runs
returns-in-Runs c =
    let p = subst (λ (s : Cells). IsPart s c.args.run (get_or c.args.starts.now (c.args.run * 256) 0) c.args.from c.args.to) c.in-Runs.is c.requires.part in
    let at : c.index.result.now ≡ get_or c.in-Runs.runs.items c.args.run c.index.result.now = get_or_read c.in-Runs.runs.items _ _ p.0 c.index.ensures c.index.result.now in
    let b = p.1 in let low = p.2 in
    c.cells_between-in-Runs.ensures
    ∙ (ap (λ (cs : List Cell). take (c.args.to - get_or c.args.starts.now (c.args.run * 256) 0 - (c.args.from - get_or c.args.starts.now (c.args.run * 256) 0)) (drop (c.args.from - get_or c.args.starts.now (c.args.run * 256) 0) cs))
    (c.deref-in-Runs.ensures.value ∙ ap (λ v. v.items) at)
    ∙ (ap (λ n. take (c.args.to - n - (c.args.from - n)) (drop (c.args.from - n) (get_or c.in-Runs.runs.items c.args.run c.index.result.now).items)) b
    ∙ (part_of_run c.args.run c.args.from c.args.to c.in-Runs.runs.items c.index.result.now p.0 (omega (arith, b, low)) p.3 p.4
    ∙ ap (λ (s : Cells). take (c.args.to - c.args.from) (drop c.args.from (joined_cells s))) (sym c.in-Runs.is))))
