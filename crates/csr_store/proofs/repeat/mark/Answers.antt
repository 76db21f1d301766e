use Rattle.std.proofs.Common.{◌≡◌, ◌<◌, ℕ, List, None, nat_eq, length, take, get_or, ap, sym, ◌∙◌, arith}
use Rattle.std.proofs.lemmas.List.{get_or_default}
use Rattle.csr_store.specs.Grid.{Cell}
use Rattle.csr_store.specs.Repeated.{is_met}
use Rattle.csr_store.specs.inner.Repeated.{found_in, number_at, place_of}
use Rattle.csr_store.proofs.Indexed.{absent, indexed_marked, met_there, marked_there}
use Rattle.csr_store.proofs.Marking.{none_marked}
use Rattle.csr_store.proofs.repeat.mark.Goals as goal
use Rattle.csr_store.proofs.repeat.mark.Goals.{then-nth-count-via-then-nth-count, then-nth-count-via-else-nth-count+then-index-position}

-- a cell that is read
read : (cells : List Cell) (k : ℕ) (x : Cell) → k < length cells → x ≡ get_or cells k x → x ≡ get_or cells k (0, 0)
read cells k x l e = e ∙ get_or_default cells k x (0, 0) l

-- no cell has the position
none : (c : goal.Joined-then-nth-count) → found_in (take c.args.count c.args.cells.now.items) (place_of c.args.position) ≡ None
none c =
    absent c.args.count c.args.bits c.args.cells.now.items c.requires c.split_at.result.0.now (c.split_at.ensures.front ∙ ap (take c.args.count) c.deref.ensures.value)
    c.args.position c.positions_before-nth.result c.positions_before-nth.ensures.before c.positions_before-nth.ensures.behind c.positions_before-nth.ensures.within
    (λ l q. elim c.then-nth-count.branch [
      | then-nth-count-via-then-nth-count w ↦ (let t = w.if-nth-count.true in absurd (omega (arith, t, l)))
      | then-nth-count-via-else-nth-count+then-index-position w ↦
          w.if-index-position.true (ap (λ (x : Cell). x.0) (read c.args.cells.now.items c.positions_before-nth.result w.index.result.now (let k = c.requires.within in omega (arith, l, k)) w.index.ensures) ∙ q)
    ])

pub returns-then-nth-count-clause-met : goal.returns-then-nth-count-clause-met
returns-then-nth-count-clause-met c = ap is_met (sym (none c))

pub returns-then-nth-count-clause-marked : goal.returns-then-nth-count-clause-marked
returns-then-nth-count-clause-marked c = none_marked (take c.args.count c.args.cells.now.items) c.args.position (none c)

-- the cell that has it
before : (c : goal.After-cells-1) → c.positions_before-nth.result < c.args.count
before c = let f = c.if-nth-count.false in omega (arith, f)

inside : (c : goal.After-cells-1) → c.positions_before-nth.result < length c.args.cells.now.items
inside c = let b = before c in let k = c.requires.within in omega (arith, b, k)

here : (c : goal.After-cells-1) → number_at c.args.cells.now.items c.positions_before-nth.result ≡ c.args.position
here c = ap (λ (x : Cell). x.0) (sym (read c.args.cells.now.items c.positions_before-nth.result c.index.result.now (inside c) c.index.ensures)) ∙ c.if-index-position.false

written : (c : goal.After-cells-1) → c.index_mut.result.now.0 ≡ c.args.position
written c = ap (λ (x : Cell). x.0) (read c.args.cells.now.items c.positions_before-nth.result c.index_mut.result.now (inside c) c.index_mut.ensures.value) ∙ here c

pub returns-clause-indexed : goal.returns-clause-indexed
returns-clause-indexed c = rw (written c) (indexed_marked c.args.count c.args.bits c.args.cells.now.items c.requires c.args.position c.positions_before-nth.result (before c) (here c))

pub returns-clause-met : goal.returns-clause-met
returns-clause-met c =
    ap (λ (x : Cell). nat_eq x.1 1) (read c.args.cells.now.items c.positions_before-nth.result c.index-2.result.now (inside c) c.index-2.ensures)
    ∙ sym (met_there c.args.count c.args.bits c.args.cells.now.items c.requires c.args.position c.positions_before-nth.result (before c) (here c))

pub returns-clause-marked : goal.returns-clause-marked
returns-clause-marked c =
    rw (written c) (marked_there c.args.count c.args.bits c.args.cells.now.items c.requires c.args.position c.positions_before-nth.result (before c) (here c))
