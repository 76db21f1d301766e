-- Rows that are copied with other values.
use Rattle.std.proofs.Common.{◌≡◌, ◌≤◌, ◌<◌, ◌+◌, ◌-◌, ◌^◌, ℕ, List, [], ◌∷◌, ◌++◌, length, take, drop, get_or, sym, ap, ◌∙◌, subst, arith, length-append, length-drop, append_assoc, append-nil}
use Rattle.std.proofs.lemmas.List.{take-append-drop, drop-drop, drop_more, drop_all, length-take-le}
use Rattle.std.proofs.Math.Seq.{drop-append_seam}
use Rattle.csr_store.specs.Grid.{Cell}
use Rattle.csr_store.specs.Run.{Row}
use Rattle.csr_store.specs.Valued.{valued, valued_from}
use Rattle.csr_store.specs.inner.Copied.{copied_cells}
use Rattle.csr_store.proofs.Valuing.{AreSet, set_more, set_all, valued_here, valued_front, length-valued_from, rows_with_values}
use Rattle.std.specs.List.{AllByRecursion}
use Rattle.csr_store.specs.inner.Run.{AreRows}

pub copied_length : (written source : Row) → length written ≤ length source → length (copied_cells written source) ≡ length source
copied_length written source l = omega (arith, length-append written (drop (length written) source), length-drop (length written) source, l)

pub copied_next : (n many : ℕ) (written source : Row) → n ≡ length written → take (n + many - n) (drop n (copied_cells written source)) ≡ take (n + many - n) (drop n source)
copied_next n many written source e =
    ap (λ k. take (n + many - n) (drop k (copied_cells written source))) e
    ∙ (ap (take (n + many - n)) (drop-append_seam written (drop (length written) source)) ∙ ap (λ k. take (n + many - n) (drop k source)) (sym e))

pub all_copied : (written source : Row) → length written ≡ length source → copied_cells written source ≡ written
all_copied written source e = ap (λ (r : Row). written ++ r) (drop_all (length written) source (omega (arith, e))) ∙ append-nil written

-- the next values were written
pub copied_more : (written more source columns : Row) (values : List ℕ) → columns ≡ take (length values) (drop (length written) source)
    → length written + length values ≤ length source → more ≡ valued_from (length written) values (written ++ columns) → length more ≡ length written + length values
    → copied_cells more source ≡ valued_from (length written) values (copied_cells written source)
copied_more written more source columns values c l e n =
    let k = length written in
    let front : length (written ++ columns) ≡ k + length values = length-append written columns ∙ ap (λ m. k + m) (ap (λ (r : Row). length r) c ∙ length-take-le (length values) (drop k source) (omega (arith, length-drop k source, l))) in
    let behind : drop (length more) source ≡ drop (length values) (drop k source) =
    ap (λ m. drop m source) n ∙ sym (drop-drop (length values) k source) in
    ap (λ (r : Row). more ++ r) behind
    ∙ (ap (λ (r : Row). r ++ drop (length values) (drop k source)) e
    ∙ (sym (valued_front k values (written ++ columns) (drop (length values) (drop k source)) (omega (arith, front)))
    ∙ ap (valued_from k values) (append_assoc written columns (drop (length values) (drop k source))
    ∙ ap (λ (r : Row). written ++ r) (ap (λ (r : Row). r ++ drop (length values) (drop k source)) c ∙ take-append-drop (length values) (drop k source)))))

-- one cell more
pub pushed_more : (from : ℕ) (values : List ℕ) (start written more columns : Row) (at next v : ℕ) (d : Cell) → AreSet from values start at (length written) (written ++ drop next columns)
    → at < length values → next < length columns → v ≡ get_or values at 0 → more ≡ written ++ ((get_or columns next d).0, v) ∷ []
    → AreSet from values start (at + 1) (length more) (more ++ drop (next + 1) columns)
pushed_more from values start written more columns at next v d h l m e p =
    let n : length written + 1 ≡ length more = omega (arith, ap (λ (r : Row). length r) p, length-append written (((get_or columns next d).0, v) ∷ [])) in
    let all : more ++ drop (next + 1) columns ≡ valued (length written) v (written ++ drop next columns) =
    ap (λ (r : Row). r ++ drop (next + 1) columns) p
    ∙ (append_assoc written (((get_or columns next d).0, v) ∷ []) (drop (next + 1) columns)
    ∙ (sym (valued_here v written (get_or columns next d) (drop (next + 1) columns))
    ∙ ap (λ (r : Row). valued (length written) v (written ++ r)) (sym (drop_more columns next d m)))) in
    subst (λ k. AreSet from values start (at + 1) k (more ++ drop (next + 1) columns)) n
    (set_more from values start at (length written) (written ++ drop next columns) (more ++ drop (next + 1) columns) v h l e all)

pub pushed_all : (from : ℕ) (values : List ℕ) (start written columns : Row) (at next : ℕ) → AreSet from values start at (length written) (written ++ drop next columns)
    → length values ≤ at → length columns ≤ next → written ≡ valued_from from values start
pushed_all from values start written columns at next h l m =
    sym (ap (λ (r : Row). written ++ r) (drop_all next columns m) ∙ append-nil written) ∙ set_all from values start at (length written) (written ++ drop next columns) h l

-- the same with the rows that they make
pub record Rewritten (columns : ℕ) (ends : List ℕ) (written more source : Row) (values : List ℕ) : Type 0 where
  pub rows : AreRows columns ends (copied_cells more source)
  pub cells : copied_cells more source ≡ valued_from (length written) values (copied_cells written source)
  pub count : length more ≡ length written + length values

pub rewritten : (columns from : ℕ) (ends : List ℕ) (written now more source part : Row) (values : List ℕ) → AreRows columns ends (copied_cells written source) → length written + length values ≤ length source
    → from ≡ length written → now ≡ written → part ≡ take (from + length values - from) (drop from source) → more ≡ valued_from (length now) values (now ++ part)
    → AllByRecursion (λ v. v < 2 ^ 64) values → Rewritten columns ends written more source values
rewritten columns from ends written now more source part values h l f w c p words =
    let part2 : part ≡ take (length values) (drop (length written) source) =
    c ∙ (ap (λ k. take k (drop from source)) (let z : from + length values - from ≡ length values = omega arith in z) ∙ ap (λ k. take (length values) (drop k source)) f) in
    let size : length part ≡ length values = ap (λ (r : Row). length r) part2 ∙ length-take-le (length values) (drop (length written) source) (omega (arith, length-drop (length written) source, l)) in
    let pushed : more ≡ valued_from (length written) values (written ++ part) = p ∙ ap (λ (r : Row). valued_from (length r) values (r ++ part)) w in
    let n : length more ≡ length written + length values = ap (λ (r : Row). length r) pushed ∙ (length-valued_from (length written) values (written ++ part) ∙ (length-append written part ∙ ap (λ k. length written + k) size)) in
    let cells = copied_more written more source part values part2 l pushed n in
    record {
      rows = subst (AreRows columns ends) (sym cells) (rows_with_values columns (length written) values ends (copied_cells written source) words h);
      cells = cells;
      count = n;
    }
