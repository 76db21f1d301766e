-- Rows of one column: each has one cell or none. So where some rows have as many cells as there are rows, each has one.
use Rattle.std.proofs.Common.{◌≡◌, ◌≤◌, ◌<◌, ◌+◌, ◌-◌, ℕ, zero, suc, cond, nat_lt, List, [], ◌∷◌, None, Some, length, take, drop, get_or, refl, sym, ap, ◌∙◌, subst, arith, length-append, ◌*◌, ◌/◌, ◌%◌}
use Rattle.std.proofs.lemmas.List.{drop_more, take-append-drop}
use Rattle.std.proofs.lemmas.Bool.{lt-ltb, le-ltb, cases_lt}
use Rattle.std.proofs.Math.Logic.{⊎_elim}
use Rattle.std.specs.FinMap.{get, len-entries}
use Rattle.std.specs.Global.{Vec}
use Rattle.csr_store.specs.Grid.{Grid, IsGrid, Cell, row_of, row_start}
use Rattle.csr_store.specs.inner.Column.{first_word}
use Rattle.csr_store.specs.ByRows.{grid, by_rows, ends_of}
use Rattle.csr_store.specs.inner.ByRows.{AreStarts}
use Rattle.csr_store.specs.inner.Cells.{joined, cells_before, AreParts}
use Rattle.csr_store.specs.declared.cells.Cells.TheVariants.{Runs}
use Rattle.csr_store.proofs.ByRow.{lookup-row_of, row_start-next, row_start-zero, row_start-all}
use Rattle.csr_store.proofs.Along.{Ascends, at, at-first, row_of-ascends, length-row_of}
use Rattle.csr_store.proofs.Filling.{sorted_entries}
use Rattle.csr_store.proofs.InRuns.{run_split, part_of_run, joined_append}
use Rattle.csr_store.proofs.Slicing.{start_is, row_between}

first_at : (cs : List Cell) → Ascends 0 1 cs → at cs 0 ≡ first_word cs
first_at [] h = refl
first_at (c ∷ cs) h =
    let u = h.1 in
    let z : 0 ≡ c.0 = omega (arith, u) in
    ap (λ j. at (c ∷ cs) j) z ∙ at-first c cs

-- the word at a row is that of its one cell
pub column_word : (g : Grid) (k : ℕ) → IsGrid g → g.columns ≡ 1 → get g.cells (k, 0) ≡ first_word (row_of g k)
column_word g k h one =
    sym (lookup-row_of g k 0) ∙ first_at (row_of g k) (subst (λ n. Ascends 0 n (row_of g k)) one (row_of-ascends g k h))

-- ---- where rows start

module _ (g : Grid) (h : IsGrid g) (one : g.columns ≡ 1) where
  starts_near : (i n : ℕ) → row_start g (i + n) ≤ row_start g i + n
  starts_near i zero = let z : i + 0 ≡ i = omega arith in let e = ap (row_start g) z in omega (arith, e)
  starts_near i (suc n) =
      let z : i + suc n ≡ i + n + 1 = omega arith in
      let e = ap (row_start g) z in
      let r = row_start-next g (i + n) in
      let l = length-row_of g (i + n) h in
      let before = starts_near i n in
      omega (arith, e, r, l, before, one)

  -- the rows from `base` up to `end`, no more than n, have n cells at least
  pub start_full : (base n end k : ℕ) → base ≤ k → k ≤ end → end ≤ base + n → row_start g base + n ≤ row_start g end
      → row_start g k ≡ row_start g base + (k - base)
  start_full base n end k a b w f =
      let low = starts_near base (k - base) in
      let zl = ap (row_start g) (let q : base + (k - base) ≡ k = omega arith in q) in
      let high = starts_near k (end - k) in
      let zh = ap (row_start g) (let q : k + (end - k) ≡ end = omega arith in q) in
      omega (arith, low, zl, high, zh, f, a, b, w)

-- ---- a cell among cells

pub one_cell : (cs : List Cell) (many from j : ℕ) (d : Cell) → many ≡ 1 → from ≡ j → j < length cs
    → first_word (take many (drop from cs)) ≡ Some (get_or cs j d).1
one_cell cs many from j d m f l =
    ap (λ n. first_word (take n (drop from cs))) m
    ∙ (ap (λ n. first_word (take 1 (drop n cs))) f ∙ ap (λ us. first_word (take 1 us)) (drop_more cs j d l))

-- the first of the cells between two places
pub first_there : (cs : List Cell) (from to nth : ℕ) (d : Cell) (word : ℕ) → from ≤ to → to ≤ length cs → (from < to → nth ≡ from)
    → word ≡ (get_or cs nth d).1
    → first_word (take (to - from) (drop from cs)) ≡ (cond (nat_lt from to) (Some word) None)
first_there cs from to nth d word o w p e =
    ⊎_elim (λ (l : from < to).
    let s : to - from ≡ suc (to - from - 1) = omega arith in
    ap (λ us. first_word (take (to - from) us)) (drop_more cs from d (omega arith))
    ∙ (ap (λ n. first_word (take n (get_or cs from d ∷ drop (from + 1) cs))) s
    ∙ (ap (λ k. Some (get_or cs k d).1) (sym (p l)) ∙ (ap (λ v. Some v) (sym e)
    ∙ ap (λ b. cond b (Some word) None) (sym (lt-ltb from to l))))))
    (λ (l : to ≤ from).
    let z : to - from ≡ 0 = omega arith in
    ap (λ n. first_word (take n (drop from cs))) z ∙ ap (λ b. cond b (Some word) None) (sym (le-ltb from to l)))
    (cases_lt from to)

-- ---- the word at a row, by where it stands

-- all cells end where the last row does
last_start : (rows columns : ℕ) (starts : List ℕ) (cells : List Cell) → AreStarts rows starts cells
    → IsGrid (grid rows columns (by_rows (ends_of starts) cells)) → get_or starts rows 0 ≡ length cells
last_start rows columns starts cells h g =
    let m = grid rows columns (by_rows (ends_of starts) cells) in
    start_is rows columns starts cells h rows (omega arith)
    ∙ (row_start-all m g ∙ (sym (len-entries m.cells) ∙ sorted_entries (ends_of starts) cells h.within h.ascending))

-- cells that stand in one list
module _ (rows columns : ℕ) (starts : List ℕ) (cells : Vec Cell) (h : AreStarts rows starts cells.items)
    (g : IsGrid (grid rows columns (by_rows (ends_of starts) cells.items))) (one : columns ≡ 1) (k : ℕ) (l : k < rows) where
  pub word_whole : get (grid rows columns (by_rows (ends_of starts) cells.items)).cells (k, 0)
      ≡ first_word (take (get_or starts (k + 1) 0 - get_or starts k 0) (drop (get_or starts k 0) cells.items))
  word_whole =
      column_word (grid rows columns (by_rows (ends_of starts) cells.items)) k g one
      ∙ ap first_word (row_between rows columns starts cells.items h k l)

  full_start : length cells.items ≡ rows → (j : ℕ) → j ≤ rows → get_or starts j 0 ≡ j
  full_start full j w =
      let m = grid rows columns (by_rows (ends_of starts) cells.items) in
      let z = row_start-zero m in
      let e = start_is rows columns starts cells.items h rows (omega arith) in
      let a = last_start rows columns starts cells.items h g in
      let s = start_full m g one 0 rows rows j (omega arith) w (omega arith) (omega (arith, z, e, a, full)) in
      let b = start_is rows columns starts cells.items h j w in
      omega (arith, z, s, b)

  pub word_full : length cells.items ≡ rows → (d : Cell)
      → get (grid rows columns (by_rows (ends_of starts) cells.items)).cells (k, 0) ≡ Some (get_or cells.items k d).1
  word_full full d =
      let a = full_start full k (omega arith) in
      let b = full_start full (k + 1) (omega arith) in
      word_whole ∙ one_cell cells.items (get_or starts (k + 1) 0 - get_or starts k 0) (get_or starts k 0) k d (omega (arith, a, b)) a
      (omega (arith, l, full))

-- cells that stand in runs
module _ (rows columns : ℕ) (starts : List ℕ) (runs : Vec (Vec Cell)) (h : AreStarts rows starts (joined runs.items))
    (parts : AreParts rows starts (Runs runs)) (g : IsGrid (grid rows columns (by_rows (ends_of starts) (joined runs.items))))
    (one : columns ≡ 1) (k : ℕ) (l : k < rows) (d : Vec Cell) where
  abbrev before : ℕ
  before = get_or starts (k / 256 * 256) 0

  abbrev run : List Cell
  run = (get_or runs.items (k / 256) d).items

  -- the places of the row in its run
  pub in_run : (before ≤ get_or starts k 0) × (get_or starts k 0 ≤ get_or starts (k + 1) 0) × (get_or starts (k + 1) 0 ≤ before + length run)
  in_run =
      let p = parts k l in
      let b = p.1 in
      let s = run_split (k / 256) runs.items d p.0 in
      let w = p.4 in
      (p.2, p.3, omega (arith, b, s, w))

  pub word_in_run : get (grid rows columns (by_rows (ends_of starts) (joined runs.items))).cells (k, 0)
      ≡ first_word (take (get_or starts (k + 1) 0 - before - (get_or starts k 0 - before)) (drop (get_or starts k 0 - before) run))
  word_in_run =
      let p = parts k l in
      let b = p.1 in
      let low = p.2 in
      column_word (grid rows columns (by_rows (ends_of starts) (joined runs.items))) k g one
      ∙ (ap first_word (row_between rows columns starts (joined runs.items) h k l
      ∙ sym (part_of_run (k / 256) (get_or starts k 0) (get_or starts (k + 1) 0) runs.items d p.0 (omega (arith, b, low)) p.3 p.4))
      ∙ ap (λ n. first_word (take (get_or starts (k + 1) 0 - n - (get_or starts k 0 - n)) (drop (get_or starts k 0 - n) run))) (sym b))

  -- where the run ends
  run_end : length run ≡ 256 → (e : ℕ) × (k < e) × (e ≤ rows) × (e ≤ k / 256 * 256 + 256) × (before + 256 ≤ get_or starts e 0)
  run_end full =
      let p = parts k l in
      let b = p.1 in
      let s = run_split (k / 256) runs.items d p.0 in
      let next = k / 256 * 256 + 256 in
      ⊎_elim (λ (a : next < rows).
      let q = parts next a in
      let same : next / 256 ≡ k / 256 + 1 = omega arith in
      let there = q.1 in
      let c : get_or starts next 0 ≡ cells_before runs.items (k / 256 + 1) =
      ap (λ n. get_or starts n 0) (let z : next ≡ next / 256 * 256 = omega arith in z) ∙ (there ∙ ap (cells_before runs.items) same) in
      (next, omega arith, omega arith, omega arith, omega (arith, b, s, c, full)))
      (λ (a : rows ≤ next).
      let e = last_start rows columns starts (joined runs.items) h g in
      let w = few_before (k / 256 + 1) in
      (rows, l, omega arith, a, omega (arith, b, s, e, w, full)))
      (cases_lt next rows)
    where
      few_before : (n : ℕ) → cells_before runs.items n ≤ length (joined runs.items)
      few_before n =
          let e = ap (λ vs. length (joined vs)) (take-append-drop n runs.items) in
          let j = ap length (joined_append (take n runs.items) (drop n runs.items)) in
          let a = length-append (joined (take n runs.items)) (joined (drop n runs.items)) in
          omega (arith, e, j, a)

  full_place : length run ≡ 256 → (j : ℕ) → k ≤ j → j ≤ k + 1 → get_or starts j 0 ≡ before + (j - k / 256 * 256)
  full_place full j low high =
      let m = grid rows columns (by_rows (ends_of starts) (joined runs.items)) in
      let end = run_end full in
      let kl = end.1 in
      let el = end.2 in
      let ew = end.3 in
      let many = end.4 in
      let base = k / 256 * 256 in
      let sb = start_is rows columns starts (joined runs.items) h base (omega arith) in
      let se = start_is rows columns starts (joined runs.items) h end.0 el in
      let sj = start_is rows columns starts (joined runs.items) h j (omega arith) in
      let s = start_full m g one base 256 end.0 j (omega arith) (omega arith) ew (omega (arith, sb, se, many)) in
      omega (arith, s, sb, sj)

  pub word_in_full_run : length run ≡ 256 → (c : Cell)
      → get (grid rows columns (by_rows (ends_of starts) (joined runs.items))).cells (k, 0) ≡ Some (get_or run (k % 256) c).1
  word_in_full_run full c =
      let a = full_place full k (omega arith) (omega arith) in
      let b = full_place full (k + 1) (omega arith) (omega arith) in
      word_in_run ∙ one_cell run (get_or starts (k + 1) 0 - before - (get_or starts k 0 - before)) (get_or starts k 0 - before) (k % 256) c
      (omega (arith, a, b)) (omega (arith, a)) (omega (arith, full))
