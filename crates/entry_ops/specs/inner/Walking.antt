-- Two rows read side by side, and what each form makes of their positions. This project's own.
use Rattle.std.specs.Prelude.{◌≡◌, ℕ, ◌+◌, ◌-◌, ◌<◌, ◌≤◌, List, [], ◌∷◌, ◌++◌, Option, None, Some}
use Rattle.std.specs.Prelude.{Bool, true, false, if◌then◌else◌, length, IfSome}
use Rattle.bpf_insn.specs.declared.operands.Kind.{Kind}
use Rattle.bpf_insn.specs.declared.operands.Kind.TheVariants as kinds
use Rattle.bpf_verify.specs.Accepted.{Accepted}
use denote.Ref.{Bor}
use Rattle.std.specs.Option.{option_map}
use Rattle.csr_store.specs.Grid.{Grid, IsGrid, Cell, Position, row_of}
use Rattle.csr_store.specs.Reading.{Reading}
use Rattle.csr_store.specs.Run.{Row, Run}
use Rattle.csr_store.specs.Along.{along, cell_at}
use Rattle.csr_store.specs.Mask.{HasShape, mask_of}
use Rattle.csr_store.specs.Ascending.{Ascends, AscendsIn, at, shows}
use Rattle.bpf_run.specs.Calls.{Call}
use Rattle.job_forms.specs.Forms.{applied, apply_calls, selected, united, joint, joint_calls}
use Rattle.job_forms.specs.Region.{IsMade}
use Rattle.job_forms.specs.declared.region.Chunk.{Chunk}
use Rattle.entry_ops.specs.declared.operand_rows.OperandRows.{OperandRows}
use Rattle.entry_ops.specs.declared.operand_rows.OperandReader.{OperandReader}
use Rattle.entry_ops.specs.declared.operand_rows.Sources.{Sources}
use Rattle.entry_ops.specs.inner.Forms.{Form, Apply, Select, Union, Both}

-- how the operator of a form is called
abbrev pub kind_for : Form → Kind
kind_for (Apply None) = kinds.Unary
kind_for (Apply (Some thunk)) = kinds.Index
kind_for (Select thunk) = kinds.Index
kind_for Union = kinds.Binary
kind_for Both = kinds.Binary

-- what a form has at a position, and the calls for it, from what its operands have there
abbrev pub form_at : Form → Accepted → Position → Option ℕ → Option ℕ → Option ℕ
form_at (Apply thunk) f p x y = applied f thunk p x
form_at (Select thunk) f p x y = selected f thunk p x
form_at Union f p x y = united f x y
form_at Both f p x y = joint f x y

abbrev pub form_calls : Form → Accepted → Position → Option ℕ → Option ℕ → List Call
form_calls (Apply thunk) f p x y = apply_calls f thunk p x
form_calls (Select thunk) f p x y = apply_calls f (Some thunk) p x
form_calls Union f p x y = joint_calls f x y
form_calls Both f p x y = joint_calls f x y

-- the cells of row i of a form, and its calls, from the rows of its operands and of the mask
abbrev pub row_cells : Form → Accepted → ℕ → ℕ → List Cell → List Cell → Option (List Cell) → Row
row_cells form f i n left right mask =
    along (λ j. cell_at j (if shows mask j then form_at form f (i, j) (at left j) (at right j) else None)) 0 n

abbrev pub row_calls : Form → Accepted → ℕ → ℕ → List Cell → List Cell → Option (List Cell) → List Call
row_calls form f i n left right mask =
    along (λ j. if shows mask j then form_calls form f (i, j) (at left j) (at right j) else []) 0 n

-- the cells of a lent row, if any
abbrev pub cells_of : Option (Bor (List Cell)) → Option (List Cell)
cells_of lent = option_map (λ (r : Bor (List Cell)). r.now) lent

-- the rows that are read for a row ascend
pub record AreOperandRows (sides : OperandRows) : Type 0 where
  pub left : Ascends 0 sides.columns sides.left.now
  pub right : Ascends 0 sides.columns sides.right.now
  pub mask : AscendsIn sides.columns (cells_of sides.mask)

-- the cells of a row by what is read for it, and its calls
abbrev pub cells_along : Form → Accepted → OperandRows → Row
cells_along form f sides = row_cells form f sides.row sides.columns sides.left.now sides.right.now (cells_of sides.mask)

abbrev pub calls_along : Form → Accepted → OperandRows → List Call
calls_along form f sides = row_calls form f sides.row sides.columns sides.left.now sides.right.now (cells_of sides.mask)

-- row i of a second operand, if there is one, and of a mask
abbrev pub row_or_none : Option Grid → ℕ → List Cell
row_or_none None i = []
row_or_none (Some g) i = row_of g i

abbrev pub mask_row : Option Grid → ℕ → Option (List Cell)
mask_row mask i = option_map (λ (g : Grid). row_of g i) mask

-- the rows of a form from `first` on, n of them, and their calls
abbrev pub form_row : Form → Accepted → Grid → Option Grid → Option Grid → ℕ → Row
form_row form f a b mask i = row_cells form f i a.columns (row_of a i) (row_or_none b i) (mask_row mask i)

abbrev pub form_row_calls : Form → Accepted → Grid → Option Grid → Option Grid → ℕ → List Call
form_row_calls form f a b mask i = row_calls form f i a.columns (row_of a i) (row_or_none b i) (mask_row mask i)

abbrev pub form_rows : Form → Accepted → Grid → Option Grid → Option Grid → ℕ → ℕ → List Row
form_rows form f a b mask first n = along (λ i. form_row form f a b mask i ∷ []) first n

abbrev pub form_all_calls : Form → Accepted → Grid → Option Grid → Option Grid → ℕ → ℕ → List Call
form_all_calls form f a b mask first n = along (λ i. form_row_calls form f a b mask i) first n

-- these rows of a form were computed, with the steps of its calls; or, out of memory, the steps of some of them
abbrev pub IsFormMade : Form → Accepted → Grid → Option Grid → Option Grid → ℕ → ℕ → Chunk → Type 0
IsFormMade form f a b mask first n chunk =
    IsMade (record { first = first; columns = a.columns; ended = form_rows form f a b mask first n; opened = [] })
    (form_all_calls form f a b mask first n) chunk

-- a run with these rows more
abbrev pub with_rows : List Row → Run → Run
with_rows rows run = record run { ended = run.ended ++ rows }

-- each cell of the form is a copy or the value of a call
abbrev pub of_values : Form → Bool
of_values (Apply thunk) = true
of_values (Select thunk) = false
of_values Union = true
of_values Both = true

-- so is each of this one, and it calls the operator as that is called
pub record Suits (form : Form) (f : Accepted) : Type 0 where
  pub kind : f.kind ≡ kind_for form
  pub values : of_values form ≡ true

-- the form is one of two operands
abbrev pub is_joint : Form → Bool
is_joint (Apply thunk) = false
is_joint (Select thunk) = false
is_joint Union = true
is_joint Both = true

-- so is this one
pub record Joins (form : Form) (f : Accepted) : Type 0 where
  pub suits : Suits form f
  pub joint_is : is_joint form ≡ true

-- what such a form makes of the cells that are left of one row where the other has none
abbrev pub left_over : Form → Row → Row
left_over (Apply thunk) cells = []
left_over (Select thunk) cells = []
left_over Union cells = cells
left_over Both cells = []

-- the rows that are read ascend, and all positions pass
pub record IsWhole (sides : OperandRows) : Type 0 where
  pub ascends : AreOperandRows sides
  pub whole : cells_of sides.mask ≡ None

-- a second operand and a mask have the shape of the first operand
pub record AreAlike (sources : Sources) : Type 0 where
  pub right : HasShape sources.left.now.rows sources.left.now.columns (mask_of sources.right)
  pub mask : HasShape sources.left.now.rows sources.left.now.columns (mask_of sources.mask)

-- so they have, and the rows from one up to another are there
pub record HaveRows (sources : Sources) (start to : ℕ) : Type 0 where
  pub alike : AreAlike sources
  pub range : start ≤ to
  pub within : to ≤ sources.left.now.rows

-- a matrix is read from row i on, if there is one
abbrev pub reading_at : Option Grid → ℕ → Option Reading
reading_at matrix i = option_map (λ (g : Grid). record { grid = g; row = i }) matrix

-- so are operands and mask
pub record AreRead (sources : Sources) (i : ℕ) (operand_reader : OperandReader) : Type 0 where
  pub alike : AreAlike sources
  pub left : operand_reader.left ≡ record { grid = sources.left.now; row = i }
  pub right : operand_reader.right ≡ reading_at (mask_of sources.right) i
  pub mask : operand_reader.mask ≡ reading_at (mask_of sources.mask) i
  pub right_grid : IfSome (mask_of sources.right) (λ g. IsGrid g)
  pub mask_grid : IfSome (mask_of sources.mask) (λ g. IsGrid g)

-- the cells of a row, if there is one
abbrev pub cells_or_none : Option (List Cell) → List Cell
cells_or_none None = []
cells_or_none (Some cells) = cells

-- what is read for row i
pub record AreOperandRowsOf (sources : Sources) (i : ℕ) (sides : OperandRows) : Type 0 where
  pub columns : sides.columns ≡ sources.left.now.columns
  pub ascends : AreOperandRows sides
  pub cells : (form : Form) (f : Accepted)
      → cells_along form f sides ≡ form_row form f sources.left.now (mask_of sources.right) (mask_of sources.mask) i
  pub calls : (form : Form) (f : Accepted)
      → calls_along form f sides ≡ form_row_calls form f sources.left.now (mask_of sources.right) (mask_of sources.mask) i

-- the rows of a form from one up to another, and their calls
abbrev pub rows_from : Form → Accepted → Sources → ℕ → ℕ → List Row
rows_from form f s start to = form_rows form f s.left.now (mask_of s.right) (mask_of s.mask) start (to - start)

abbrev pub calls_from : Form → Accepted → Sources → ℕ → ℕ → List Call
calls_from form f s start to = form_all_calls form f s.left.now (mask_of s.right) (mask_of s.mask) start (to - start)

-- c is the first column at which either row has an entry; p and q are there, and xs and ys are what is left
pub record IsNext (n low : ℕ) (left right : List Cell) (c : ℕ) (p q : Option ℕ) (xs ys : List Cell) : Type 0 where
  pub from : low ≤ c
  pub inside : c < n
  pub before_left : (j : ℕ) → j < c → at left j ≡ None
  pub before_right : (j : ℕ) → j < c → at right j ≡ None
  pub here_left : at left c ≡ p
  pub here_right : at right c ≡ q
  pub after_left : (j : ℕ) → c < j → at left j ≡ at xs j
  pub after_right : (j : ℕ) → c < j → at right j ≡ at ys j
  pub left_row : Ascends (c + 1) n xs
  pub right_row : Ascends (c + 1) n ys
  pub shorter : length xs + length ys < length left + length right
