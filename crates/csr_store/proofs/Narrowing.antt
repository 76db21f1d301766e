-- Columns by themselves: those of several lists of cells together, and those of a row.
use Rattle.std.proofs.Common.{◌≡◌, ◌<◌, ◌+◌, ◌-◌, ◌++◌, ℕ, zero, suc, Bool, true, false, cond, nat_eq, List, [], ◌∷◌, Option, None, Some, IfSome, IsSome, length, take, drop, get_or, refl, sym, ap, ◌∙◌, subst}
use Rattle.std.proofs.lemmas.List.{map-append, take-map, drop-map}
use Rattle.std.proofs.lemmas.List.{take_more}
use Rattle.std.specs.Global.{Vec}
use Rattle.std.specs.Map.{lookup}
use Rattle.csr_store.specs.ByRows.{grid, by_rows, ends_of}
use Rattle.csr_store.specs.Columns.{columns_of, IsOnlyWord}
use Rattle.csr_store.specs.Grid.{Grid, IsGrid, Cell, row_of}
use Rattle.csr_store.specs.declared.narrow.Narrow.{Narrow}
use Rattle.csr_store.specs.inner.ByRows.{AreStarts}
use Rattle.csr_store.specs.inner.Cells.{joined}
use Rattle.csr_store.specs.inner.Narrow.{HaveWord, IsNarrow}
use Rattle.csr_store.proofs.ByRow.{lookup-row_of}
use Rattle.csr_store.proofs.InRuns.{joined_more}
use Rattle.csr_store.proofs.Joining.{all_append}
use Rattle.csr_store.proofs.Slicing.{row_between}

joined_next : (runs : List (Vec Cell)) (k : ℕ) (d : Vec Cell) → k < length runs
    → joined (take (k + 1) runs) ≡ joined (take k runs) ++ (get_or runs k d).items
joined_next runs k d l = ap (λ (vs : List (Vec Cell)). joined vs) (take_more runs k d l) ∙ joined_more (take k runs) (get_or runs k d)

-- the next run has the word, too
pub word_next : (w : ℕ) (runs : List (Vec Cell)) (k : ℕ) (d : Vec Cell) → k < length runs → HaveWord w (joined (take k runs))
    → HaveWord w (get_or runs k d).items → HaveWord w (joined (take (k + 1) runs))
word_next w runs k d l a b =
    subst (λ (cs : List Cell). HaveWord w cs) (sym (joined_next runs k d l))
    (all_append (λ (c : Cell). c.1 ≡ w) (joined (take k runs)) (get_or runs k d).items a b)

-- the columns of the next run, behind those before it
pub columns_next : (columns : List ℕ) (runs : List (Vec Cell)) (k : ℕ) (d : Vec Cell) → k < length runs
    → columns ≡ columns_of (joined (take k runs)) → columns ++ columns_of (get_or runs k d).items ≡ columns_of (joined (take (k + 1) runs))
columns_next columns runs k d l e =
    ap (λ (js : List ℕ). js ++ columns_of (get_or runs k d).items) e
    ∙ (sym (map-append (λ (c : Cell). c.0) (joined (take k runs)) (get_or runs k d).items)
    ∙ ap columns_of (sym (joined_next runs k d l)))

-- those of a row stand where its cells do
pub columns_between : (cells : List Cell) (columns : List ℕ) (from many : ℕ) → columns ≡ columns_of cells
    → take many (drop from columns) ≡ columns_of (take many (drop from cells))
columns_between cells columns from many e =
    ap (λ (js : List ℕ). take many (drop from js)) e
    ∙ (ap (take many) (drop-map (λ (c : Cell). c.0) from cells) ∙ take-map (λ (c : Cell). c.0) many (drop from cells))

-- ---- the list beside a matrix

pub narrow_of : (listed : Option Narrow) (n : Narrow) (cells : List Cell) → listed ≡ Some n → IfSome listed (IsNarrow cells)
    → IsNarrow cells n
narrow_of listed n cells e h = subst (λ (o : Option Narrow). IfSome o (IsNarrow cells)) e h

-- ---- the word of all cells

word_taken : (w n : ℕ) (cs : List Cell) → HaveWord w cs → HaveWord w (take n cs)
word_taken w zero cs h = tt
word_taken w (suc n) [] h = tt
word_taken w (suc n) (c ∷ cs) h = (h.0, word_taken w n cs h.1)

word_left : (w n : ℕ) (cs : List Cell) → HaveWord w cs → HaveWord w (drop n cs)
word_left w zero cs h = h
word_left w (suc n) [] h = tt
word_left w (suc n) (c ∷ cs) h = word_left w n cs h.1

same : {a b : ℕ} → Some a ≡ Some b → a ≡ b
same e = cc

word_there : (w j v : ℕ) (cs : List Cell) → HaveWord w cs → lookup (nat_eq j) cs ≡ Some v → v ≡ w
word_there w j v [] h e = absurd (cc)
word_there w j v (c ∷ cs) h e = by_test (nat_eq j c.0) refl (word_there w j v cs h.1)
  where
    by_test : (b : Bool) → nat_eq j c.0 ≡ b → (lookup (nat_eq j) cs ≡ Some v → v ≡ w) → v ≡ w
    by_test true t rest = same (sym (sym (ap (λ b. cond b (Some c.1) (lookup (nat_eq j) cs)) t) ∙ e)) ∙ h.0
    by_test false t rest = rest (sym (ap (λ b. cond b (Some c.1) (lookup (nat_eq j) cs)) t) ∙ e)

module _ (rows columns : ℕ) (starts : List ℕ) (cells : List Cell) (h : AreStarts rows starts cells) where
  only_word : (w : ℕ) → IsGrid (grid rows columns (by_rows (ends_of starts) cells)) → HaveWord w cells
      → IsOnlyWord (grid rows columns (by_rows (ends_of starts) cells)) w
  only_word w g all p v e =
      let m = grid rows columns (by_rows (ends_of starts) cells) in
      let l = (g.inside p (subst (λ (o : Option ℕ). IsSome o) (sym e) refl)).0 in
      let row = row_between rows columns starts cells h p.0 l in
      let many = get_or starts (p.0 + 1) 0 - get_or starts p.0 0 in
      word_there w p.1 v (row_of m p.0)
      (subst (λ (cs : List Cell). HaveWord w cs) (sym row)
      (word_taken w many (drop (get_or starts p.0 0) cells) (word_left w (get_or starts p.0 0) cells all)))
      (lookup-row_of m p.0 p.1 ∙ e)

  pub only_word_of : (g : Grid) (o : Option ℕ) → grid rows columns (by_rows (ends_of starts) cells) ≡ g
      → IsGrid (grid rows columns (by_rows (ends_of starts) cells)) → IfSome o (λ w. HaveWord w cells) → IfSome o (IsOnlyWord g)
  only_word_of g None e i all = tt
  only_word_of g (Some w) e i all = subst (λ (m : Grid). IsOnlyWord m w) e (only_word w i all)
