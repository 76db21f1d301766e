-- Copied rows that get the values of calls, in the order of their entries. This project's own.
use Rattle.std.specs.Prelude.{◌≡◌, ℕ, ◌+◌, ◌^◌, ◌<◌, ◌≤◌, List, Option, None, Some, length, slice_range}
use Rattle.bpf_insn.specs.declared.operands.Operands.{Operands}
use Rattle.bpf_verify.specs.Accepted.{Accepted}
use Rattle.csr_store.specs.Grid.{Grid, Cell, row_of}
use Rattle.csr_store.specs.Along.{along}
use Rattle.csr_store.specs.Valued.{entries_of as entries_in_run, rows_of, all_cells, valued_from, AreAlike}
use Rattle.bpf_run.specs.Calls.{calls_on, values_on, steps_of, words_of, entries_of}
use Rattle.entry_ops.specs.declared.mapping.Mapping.{Mapping}

-- what is called for the cells of row i
abbrev pub row_operands : Option ℕ → ℕ → List Cell → List Operands
row_operands None i cells = words_of cells
row_operands (Some thunk) i cells = entries_of i thunk cells

-- and for the rows from `first` on, n of them
abbrev pub range_operands : Option ℕ → Grid → ℕ → ℕ → List Operands
range_operands thunk a first n = along (λ i. row_operands thunk i (row_of a i)) first n

-- what is called for so many of the entries that come next
abbrev pub next_words : Mapping → ℕ → List Operands
next_words m many = words_of (slice_range (all_cells m.rows.run) m.rows.written (m.rows.written + many))

-- there are so many entries more
abbrev pub HasEntries : Mapping → ℕ → Type 0
HasEntries m more = m.rows.written + more ≤ entries_in_run m.rows.run

-- there is an entry for each of some calls, and their steps fit in
pub record HasRoom (f : Accepted) (operands : List Operands) (m : Mapping) : Type 0 where
  pub entries : HasEntries m (length operands)
  pub steps : m.steps + steps_of (calls_on f operands) < 2 ^ 64

-- rows are copied, none of whose entries has got its value, and the steps of the calls on them fit in
pub record IsCopied (f : Accepted) (thunk : Option ℕ) (a : Grid) (first n : ℕ) (m : Mapping) : Type 0 where
  pub copied : m.rows.run ≡ rows_of a first n
  pub none : m.rows.written ≡ 0
  pub capacity : m.steps + steps_of (calls_on f (range_operands thunk a first n)) < 2 ^ 64

-- calls ran, whose values the next entries have
pub record IsFurther (f : Accepted) (operands : List Operands) (old new : Mapping) : Type 0 where
  pub alike : AreAlike old.rows.run new.rows.run
  pub number : new.rows.written ≡ old.rows.written + length operands
  pub cells : all_cells new.rows.run ≡ valued_from old.rows.written (values_on f operands) (all_cells old.rows.run)
  pub steps : new.steps ≡ old.steps + steps_of (calls_on f operands)
