-- The rows of a range are a piece, and two pieces that follow one another are the whole.
use Rattle.std.proofs.Common.{◌≡◌, ◌≤◌, ◌+◌, ◌-◌, ◌*◌, ℕ, zero, suc, List, [], ◌∷◌, ◌++◌, Option, Result, Ok, Err, IfOk, length, refl, sym, ap, subst, arith, length-append, append-nil}
use Rattle.std.specs.List.{AllByRecursion}
use Rattle.std.proofs.lemmas.List.{length-map}
use Rattle.csr_store.specs.Grid.{Grid, Cell, Position, at_row, limit}
use Rattle.csr_store.specs.Run.{Row, Run, all_ended, numbered}
use Rattle.csr_store.specs.Mask.{cut, row_under, rows_under}
use Rattle.csr_store.proofs.Along.{row_by-ascends, length_ascends}
use Rattle.form_tests.specs.inner.Pieces.{IsPiece}

row_small : (mask : Option Grid) (columns : ℕ) (values : Position → Option ℕ) (i : ℕ)
    → length (row_under mask columns values i) ≤ columns
row_small mask columns values i =
    let l = length_ascends 0 columns (row_under mask columns values i) (omega arith)
    (row_by-ascends (λ j. cut mask values (i, j)) 0 columns columns (omega arith)) in
    omega arith

rows_small : (mask : Option Grid) (columns : ℕ) (values : Position → Option ℕ) (first n : ℕ)
    → AllByRecursion (λ (row : Row). length row ≤ columns) (rows_under mask columns values first n)
rows_small mask columns values first zero = tt
rows_small mask columns values first (suc n) = (row_small mask columns values first, rows_small mask columns values (suc first) n)

rows_count : (mask : Option Grid) (columns : ℕ) (values : Position → Option ℕ) (first n : ℕ)
    → length (rows_under mask columns values first n) ≡ n
rows_count mask columns values first zero = refl
rows_count mask columns values first (suc n) = let r = rows_count mask columns values (suc first) n in omega arith

piece_of : (mask : Option Grid) (columns : ℕ) (values : Position → Option ℕ) (first n : ℕ) (r : Run)
    → r ≡ record { first = first; columns = columns; ended = rows_under mask columns values first n; opened = [] }
    → IsPiece first columns n r
piece_of mask columns values first n r e =
    let rows = sym (ap (λ (x : Run). x.ended) e) in
    record {
      first_is = ap (λ (x : Run). x.first) e;
      columns_are = ap (λ (x : Run). x.columns) e;
      none_open = ap (λ (x : Run). x.opened) e;
      count_is = subst (λ rs. length rs ≡ n) rows (rows_count mask columns values first n);
      small = subst (λ rs. AllByRecursion (λ (row : Row). length row ≤ columns) rs) rows (rows_small mask columns values first n);
    }

pub piece : {E : Type 0} (mask : Option Grid) (columns same : ℕ) (values : Position
    → Option ℕ) (first n : ℕ) (result : Result Run E) → columns ≡ same
    → IfOk result (λ r. r ≡ record {
      first = first;
      columns = columns;
      ended = rows_under mask columns values first n;
      opened =
          [];
    })
    → IfOk result (λ r. IsPiece first same n r)
piece mask columns same values first n (Ok r) e h = subst (λ k. IsPiece first k n r) e (piece_of mask columns values first n r h)
piece mask columns same values first n (Err x) e h = tt

more_rows : (k m : ℕ) → suc k * m ≡ m + k * m
more_rows k m = omega arith

numbered_small : (m i : ℕ) (rows : List Row) → AllByRecursion (λ (row : Row). length row ≤ m) rows
    → length (numbered i rows) ≤ length rows * m
numbered_small m i [] h = omega arith
numbered_small m i (row ∷ rows) h =
    let r = numbered_small m (i + 1) rows h.1 in
    let here : length row ≤ m = h.0 in
    let one : length (at_row i row) ≡ length row = length-map row (λ (c : Cell). ((i, c.0), c.1)) in
    let both : length (numbered i (row ∷ rows)) ≡ length (at_row i row) + length (numbered (i + 1) rows) =
    length-append (at_row i row) (numbered (i + 1) rows) in
    let whole : length (row ∷ rows) * m ≡ m + length rows * m = more_rows (length rows) m in
    omega arith

all_append : (P : Row → Type 0) (xs ys : List Row) → AllByRecursion P xs → AllByRecursion P ys → AllByRecursion P (xs ++ ys)
all_append P [] ys h k = k
all_append P (x ∷ xs) ys h k = (h.0, all_append P xs ys h.1 k)

module _ (columns n middle : ℕ) (r s : Run) (a : IsPiece 0 columns middle r) (b : IsPiece middle columns (n - middle) s) (within
    : middle ≤ n) where
  pub pieces_small : n * columns ≤ limit → length (numbered 0 (all_ended (r ∷ s ∷ []))) ≤ limit
  pieces_small h =
      let x = a.count_is in
      let y = b.count_is in
      let whole = numbered_small columns 0 (r.ended ++ (s.ended ++ []))
      (all_append (λ (row : Row). length row ≤ columns) r.ended (s.ended ++ []) a.small
      (all_append (λ (row : Row). length row ≤ columns) s.ended [] b.small tt)) in
      let l = length-append r.ended (s.ended ++ []) in
      let m = ap length (append-nil s.ended) in
      let count : length (r.ended ++ (s.ended ++ [])) ≡ n = omega arith in
      let same = ap (λ k. k * columns) count in
      omega arith
