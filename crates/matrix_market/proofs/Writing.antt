-- What was written after so many rows.
use Rattle.std.proofs.Common.{◌≡◌, ◌+◌, ℕ, List, ◌++◌, length, take, sym, ap, ◌∙◌, arith, append_assoc}
use Rattle.std.proofs.lemmas.List.{append-nil, take_all}
use Rattle.std.proofs.lemmas.List.Concat.{flat_map-append}
use Rattle.std.specs.FinMap.{entries}
use Rattle.csr_store.specs.Grid.{Grid, IsGrid, at_row, row_of, row_start}
use Rattle.csr_store.proofs.ByRow.{row_start-zero, row_start-all, take_next}
use Rattle.matrix_market.specs.CanonicalText.{entry_line, entry_lines}

-- the lines of the entries before row i, behind the first two lines
abbrev pub lines_before : Grid → ℕ → List ℕ
lines_before g i = entry_lines (take (row_start g i) (entries g.cells))

pub written_none : (head : List ℕ) (g : Grid) → head ≡ head ++ lines_before g 0
written_none head g = sym (ap (λ n. head ++ entry_lines (take n (entries g.cells))) (row_start-zero g) ∙ append-nil head)

pub written_more : (head out new : List ℕ) (g : Grid) (i : ℕ) → out ≡ head ++ lines_before g i → new ≡ out ++ entry_lines (at_row i (row_of g i)) → new ≡ head ++ lines_before g (i + 1)
written_more head out new g i e f =
    let before = take (row_start g i) (entries g.cells) in
    let lines : lines_before g (i + 1) ≡ lines_before g i ++ entry_lines (at_row i (row_of g i)) = ap entry_lines (take_next g i) ∙ flat_map-append entry_line before (at_row i (row_of g i)) in
    f ∙ ap (λ t. t ++ entry_lines (at_row i (row_of g i))) e ∙ append_assoc head (lines_before g i) (entry_lines (at_row i (row_of g i))) ∙ ap (λ t. head ++ t) (sym lines)

pub written_all : (head out : List ℕ) (g : Grid) (i : ℕ) → IsGrid g → i ≡ g.rows → out ≡ head ++ lines_before g i → out ≡ head ++ entry_lines (entries g.cells)
written_all head out g i h e f =
    let all : row_start g i ≡ length (entries g.cells) = ap (row_start g) e ∙ row_start-all g h in
    f ∙ ap (λ es. head ++ entry_lines es) (take_all (row_start g i) (entries g.cells) (omega arith))
