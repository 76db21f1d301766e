-- What the six forms may cost, in one table, found from the numbers of entries of rows alone. This project's own.
use Rattle.std.specs.Prelude.{ℕ, ◌+◌, ◌-◌, min, if◌then◌else◌, length, Option, None, Some}
use Rattle.std.specs.FinMap as fin
use Rattle.csr_store.specs.Grid.{Grid, row_of}
use Rattle.csr_store.specs.Mask.{row_passes}
use Rattle.job_forms.specs.Product as by_row
use Rattle.job_plan.specs.Job.{Form, Apply, Select, Union, Both, Product, Reduce}

-- how many entries row i has
abbrev pub count : Grid → ℕ → ℕ
count a i = length (row_of a i)

-- n, but no more than pass of row i
abbrev pub of_passing : Option Grid → ℕ → ℕ → ℕ
of_passing None i n = n
of_passing (Some mask) i n = min n (count mask i)

-- n, where something of row i passes
abbrev pub if_passing : Option Grid → ℕ → ℕ → ℕ
if_passing mask i n = if row_passes mask i then n else 0

-- what a form may cost with its operators and operands, under a mask
pub record Costing : Type 0 where
  -- how many entries the result can have, of a form in which that may be more than a matrix holds; else 0
  pub entries : Option Grid → ℕ
  -- row i takes at most so many rounds of calls, each of at most so many steps
  pub rounds : Option Grid → ℕ → ℕ
  pub round : ℕ

abbrev pub costing : Form → Costing
costing (Apply f thunk a) = record {
  entries = λ mask. 0;
  rounds = λ mask i. of_passing mask i (count a i);
  round = length f.insns;
}
costing (Select f thunk a) = record {
  entries = λ mask. 0;
  rounds = λ mask i. of_passing mask i (count a i);
  round = length f.insns;
}
costing (Union f a b) = record {
  entries = λ mask. fin.len a.cells + fin.len b.cells;
  rounds = λ mask i. of_passing mask i (min (count a i) (count b i));
  round = length f.insns;
}
costing (Both f a b) = record {
  entries = λ mask. 0;
  rounds = λ mask i. of_passing mask i (min (count a i) (count b i));
  round = length f.insns;
}
costing (Product add mul a b) = record {
  entries = λ mask. by_row.mults_under mask a b 0 a.rows;
  rounds = λ mask i. if_passing mask i (by_row.mults_of b (row_of a i));
  round = length mul.insns + length add.insns;
}
costing (Reduce f a) = record {
  entries = λ mask. 0;
  rounds = λ mask i. if_passing mask i (count a i - 1);
  round = length f.insns;
}
