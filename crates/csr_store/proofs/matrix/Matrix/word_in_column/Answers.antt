use Rattle.std.proofs.Common.{ℕ, ◌≡◌, ◌+◌, ◌-◌, ◌*◌, ◌/◌, ◌%◌, List, Some, length, take, drop, get_or, ap, sym, ◌∙◌, subst, arith}
use Rattle.std.specs.FinMap.{get}
use Rattle.csr_store.specs.Grid.{Grid, Cell, IsGrid}
use Rattle.csr_store.specs.ByRows.{grid, by_rows, ends_of}
use Rattle.csr_store.specs.inner.ByRows.{AreStarts}
use Rattle.csr_store.specs.inner.Cells.{joined_cells, AreParts}
use Rattle.csr_store.specs.inner.Column.{first_word}
use Rattle.csr_store.specs.declared.cells.Cells.{Cells}
use Rattle.csr_store.proofs.InColumn.{word_whole, word_full, in_run, word_in_run, word_in_full_run}
use Rattle.csr_store.proofs.matrix.Matrix.word_in_column.Goals as goal

abbrev grid_by : ℕ → ℕ → List ℕ → Cells → Grid
grid_by rows columns starts cells = grid rows columns (by_rows (ends_of starts) (joined_cells cells))

-- what holds of the matrix by its cells holds by what these are
starts_by : (rows : ℕ) (starts : List ℕ) (cells kind : Cells) → cells ≡ kind → AreStarts rows starts (joined_cells cells)
    → AreStarts rows starts (joined_cells kind)
starts_by rows starts cells kind e h = subst (λ (s : Cells). AreStarts rows starts (joined_cells s)) e h

grid_of : (rows columns : ℕ) (starts : List ℕ) (cells kind : Cells) → cells ≡ kind → IsGrid (grid_by rows columns starts cells)
    → IsGrid (grid_by rows columns starts kind)
grid_of rows columns starts cells kind e h = subst (λ (s : Cells). IsGrid (grid_by rows columns starts s)) e h

parts_of : (rows : ℕ) (starts : List ℕ) (cells kind : Cells) → cells ≡ kind → AreParts rows starts cells → AreParts rows starts kind
parts_of rows starts cells kind e h = subst (λ (s : Cells). AreParts rows starts s) e h

word_by : (g : Grid) (rows columns : ℕ) (starts : List ℕ) (cells kind : Cells) (k : ℕ) → cells ≡ kind
    → grid_by rows columns starts cells ≡ g → get g.cells (k, 0) ≡ get (grid_by rows columns starts kind).cells (k, 0)
word_by g rows columns starts cells kind k e v =
    ap (λ (m : Grid). get m.cells (k, 0)) (sym v) ∙ ap (λ (s : Cells). get (grid_by rows columns starts s).cells (k, 0)) e

pub returns-then-len-self : goal.returns-then-len-self
returns-then-len-self c =
    let s = c.self.inside in
    let n = ap (λ (m : Grid). m.rows) c.self.view_is in
    let one = ap (λ (m : Grid). m.columns) c.self.view_is ∙ c.requires.column in
    let l = c.requires.row in
    let t = c.if-len-self.true in
    let o = c.in-Whole.cells.ok.0 in
    let e = c.len.ensures in
    word_by _ _ _ s.starts _ _ c.args.k c.in-Whole.is c.self.view_is
    ∙ (word_full s.rows s.columns s.starts c.in-Whole.cells (starts_by _ _ _ _ c.in-Whole.is c.self.invariant.1)
    (grid_of _ _ s.starts _ _ c.in-Whole.is c.self.invariant.0) one c.args.k (omega (arith, n, l)) (omega (arith, t, o, e)) c.index.result.now
    ∙ ap (λ (d : Cell). Some d.1) (sym c.index.ensures))

pub returns-then-len-eq-RUN_ROWS : goal.returns-then-len-eq-RUN_ROWS
returns-then-len-eq-RUN_ROWS c =
    let s = c.self.inside in
    let n = ap (λ (m : Grid). m.rows) c.self.view_is in
    let one = ap (λ (m : Grid). m.columns) c.self.view_is ∙ c.requires.column in
    let l = c.requires.row in
    let v = c.index-cells.result.now in
    let t = c.if-len-eq-RUN_ROWS.true in
    let o = v.ok.0 in
    let e = c.len-in-Runs.ensures in
    let run = ap (λ u. u.items) c.index-cells.ensures in
    let many = ap length run in
    let j = c.args.k % 256 in
    let d = c.index-then-len-eq-RUN_ROWS.result.now in
    word_by _ _ _ s.starts _ _ c.args.k c.in-Runs.is c.self.view_is
    ∙ (word_in_full_run s.rows s.columns s.starts c.in-Runs.runs (starts_by _ _ _ _ c.in-Runs.is c.self.invariant.1)
    (parts_of _ _ _ _ c.in-Runs.is c.self.invariant.2) (grid_of _ _ s.starts _ _ c.in-Runs.is c.self.invariant.0) one c.args.k
    (omega (arith, n, l)) v (omega (arith, t, o, e, many)) d
    ∙ (ap (λ (us : List Cell). Some (get_or us j d).1) (sym run) ∙ ap (λ (u : Cell). Some u.1) (sym c.index-then-len-eq-RUN_ROWS.ensures)))

pub first_between-requires-in-Runs-clause-within : goal.first_between-requires-in-Runs-clause-within
first_between-requires-in-Runs-clause-within c =
    let s = c.self.inside in
    let n = ap (λ (m : Grid). m.rows) c.self.view_is in
    let one = ap (λ (m : Grid). m.columns) c.self.view_is ∙ c.requires.column in
    let l = c.requires.row in
    let v = c.index-cells.result.now in
    let run = ap length (ap (λ u. u.items) c.index-cells.ensures) in
    let w = (in_run s.rows s.columns s.starts c.in-Runs.runs (starts_by _ _ _ _ c.in-Runs.is c.self.invariant.1)
    (parts_of _ _ _ _ c.in-Runs.is c.self.invariant.2) (grid_of _ _ s.starts _ _ c.in-Runs.is c.self.invariant.0) one c.args.k
    (omega (arith, n, l)) v).2 in
    let to = ap (λ us. get_or us (c.args.k + 1) 0) c.list-starts.ensures in
    let from = ap (λ us. get_or us (c.args.k / 256 * 256) 0) c.list-starts.ensures in
    let d = ap length c.deref-in-Runs.ensures.value in
    omega (arith, w, to, from, d, run)

pub returns-else-len-self : goal.returns-else-len-self
returns-else-len-self c =
    let s = c.self.inside in
    let n = ap (λ (m : Grid). m.rows) c.self.view_is in
    let one = ap (λ (m : Grid). m.columns) c.self.view_is ∙ c.requires.column in
    let l = c.requires.row in
    let k = c.args.k in
    word_by _ _ _ s.starts _ _ k c.in-Whole.is c.self.view_is
    ∙ (word_whole s.rows s.columns s.starts c.in-Whole.cells (starts_by _ _ _ _ c.in-Whole.is c.self.invariant.1)
    (grid_of _ _ s.starts _ _ c.in-Whole.is c.self.invariant.0) one k (omega (arith, n, l))
    ∙ (ap (λ (us : List Cell). first_word (take (get_or s.starts (k + 1) 0 - get_or s.starts k 0) (drop (get_or s.starts k 0) us)))
    (sym c.deref.ensures.value)
    ∙ (ap (λ us. first_word (take (get_or us (k + 1) 0 - get_or us k 0) (drop (get_or us k 0) c.deref.result.now)))
    (sym c.list-starts.ensures) ∙ c.first_between.ensures)))

pub returns-else-len-eq-RUN_ROWS : goal.returns-else-len-eq-RUN_ROWS
returns-else-len-eq-RUN_ROWS c =
    let s = c.self.inside in
    let n = ap (λ (m : Grid). m.rows) c.self.view_is in
    let one = ap (λ (m : Grid). m.columns) c.self.view_is ∙ c.requires.column in
    let l = c.requires.row in
    let k = c.args.k in
    let b = k / 256 * 256 in
    let v = c.index-cells.result.now in
    let cells = c.deref-in-Runs.ensures.value ∙ ap (λ u. u.items) c.index-cells.ensures in
    word_by _ _ _ s.starts _ _ k c.in-Runs.is c.self.view_is
    ∙ (word_in_run s.rows s.columns s.starts c.in-Runs.runs (starts_by _ _ _ _ c.in-Runs.is c.self.invariant.1)
    (parts_of _ _ _ _ c.in-Runs.is c.self.invariant.2) (grid_of _ _ s.starts _ _ c.in-Runs.is c.self.invariant.0) one k (omega (arith, n, l)) v
    ∙ (ap (λ (us : List Cell). first_word (take (get_or s.starts (k + 1) 0 - get_or s.starts b 0
    - (get_or s.starts k 0 - get_or s.starts b 0)) (drop (get_or s.starts k 0 - get_or s.starts b 0) us))) (sym cells)
    ∙ (ap (λ us. first_word (take (get_or us (k + 1) 0 - get_or us b 0 - (get_or us k 0 - get_or us b 0))
    (drop (get_or us k 0 - get_or us b 0) c.deref-in-Runs.result.now))) (sym c.list-starts.ensures) ∙ c.first_between-in-Runs.ensures)))
