-- Rows of two matrices that have the same columns, and what is called for them. This project's own.
use Rattle.std.specs.Prelude.{◌≡◌, ℕ, ◌+◌, ◌<◌, ◌≤◌, List, [], ◌∷◌, map, None, Some}
use Rattle.bpf_insn.specs.declared.operands.Operands.{Operands}
use Rattle.bpf_insn.specs.declared.operands.Operands.TheVariants.{Binary}
use Rattle.csr_store.specs.Grid.{Grid, IsGrid, Cell, row_of}
use Rattle.csr_store.specs.Along.{along}
use Rattle.csr_store.specs.Mask.{mask_of}
use Rattle.entry_ops.specs.declared.operand_rows.Sources.{Sources}

abbrev pub columns_of : List Cell → List ℕ
columns_of cells = map (λ (c : Cell). c.0) cells

-- the calls for cells, each with the cell at the same index of others
abbrev pub pairs_in : List Cell → List Cell → List Operands
pairs_in [] ds = []
pairs_in (c ∷ cs) [] = []
pairs_in (c ∷ cs) (d ∷ ds) = Binary c.1 d.1 ∷ pairs_in cs ds

-- the rows from `first` on, n of them, have the same columns in both
abbrev pub AreInStep : Grid → Grid → ℕ → ℕ → Type 0
AreInStep a b first n = (i : ℕ) → first ≤ i → i < first + n → columns_of (row_of a i) ≡ columns_of (row_of b i)

-- what is called for these rows
abbrev pub range_pairs : Grid → Grid → ℕ → ℕ → List Operands
range_pairs a b first n = along (λ i. pairs_in (row_of a i) (row_of b i)) first n

-- there is no mask, the rows from one on, n of them, have the same columns in both operands, and these are the calls for them
pub record ArePaired (s : Sources) (first n : ℕ) (pairs : List Operands) : Type 0 where
  pub other : Grid
  pub right : mask_of s.right ≡ Some other
  pub mask : mask_of s.mask ≡ None
  pub in_step : AreInStep s.left.now other first n
  pub grids : IsGrid s.left.now × IsGrid other
  pub columns : other.columns ≡ s.left.now.columns
  pub all : pairs ≡ range_pairs s.left.now other first n
