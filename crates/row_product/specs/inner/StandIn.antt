-- A word that stands for each word of a matrix in MUL, so that rows are read by their columns alone. This project's own.
use Rattle.std.specs.Prelude.{◌≡◌, ℕ, Bool, List, [], ◌∷◌, Some, if◌then◌else◌}
use Rattle.std.specs.FinMap as fin
use Rattle.bpf_insn.specs.declared.operands.Operands.TheVariants.{Binary}
use Rattle.bpf_verify.specs.Accepted.{Accepted}
use Rattle.bpf_run.specs.Meaning.{value_of, cost_of}
use Rattle.csr_store.specs.Grid.{Grid, Cell, Position}
use Rattle.row_product.specs.declared.term.Term.{Term}

-- w is as good as v on the left of any word, and on its right
pub record IsLeftAs (mul : Accepted) (v w : ℕ) : Type 0 where
  pub value : (y : ℕ) → value_of mul (Binary v y) ≡ value_of mul (Binary w y)
  pub cost : (y : ℕ) → cost_of mul (Binary v y) ≡ cost_of mul (Binary w y)

pub record IsRightAs (mul : Accepted) (v w : ℕ) : Type 0 where
  pub value : (x : ℕ) → value_of mul (Binary x v) ≡ value_of mul (Binary x w)
  pub cost : (x : ℕ) → cost_of mul (Binary x v) ≡ cost_of mul (Binary x w)

-- w is as good as each word of a matrix
abbrev pub StandsOnLeft : Accepted → Grid → ℕ → Type 0
StandsOnLeft mul g w = (p : Position) (v : ℕ) → fin.get g.cells p ≡ Some v → IsLeftAs mul v w

abbrev pub StandsOnRight : Accepted → Grid → ℕ → Type 0
StandsOnRight mul g w = (p : Position) (v : ℕ) → fin.get g.cells p ≡ Some v → IsRightAs mul v w

-- cells of these columns, all with one word
abbrev pub cells_with : ℕ → List ℕ → List Cell
cells_with w [] = []
cells_with w (j ∷ js) = (j, w) ∷ cells_with w js

-- cells at the same columns, whose words are as good on the right
abbrev pub AreRightAs : Accepted → List Cell → List Cell → Type 0
AreRightAs mul [] [] = Unit {0}
AreRightAs mul (c ∷ cs) (d ∷ ds) = (c.0 ≡ d.0) × IsRightAs mul c.1 d.1 × AreRightAs mul cs ds
AreRightAs mul cs ds = ⊥

-- a term is the product of its words, at its steps
pub record IsTerm (mul : Accepted) (t : Term) : Type 0 where
  pub value : t.value ≡ value_of mul (Binary t.x t.word)
  pub steps : t.steps ≡ cost_of mul (Binary t.x t.word)

-- the columns that take part
abbrev pub taking_columns : (ℕ → Bool) → List ℕ → List ℕ
taking_columns t [] = []
taking_columns t (j ∷ js) = if t j then j ∷ taking_columns t js else taking_columns t js
