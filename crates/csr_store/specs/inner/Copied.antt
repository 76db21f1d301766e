-- What stands beside specs/Copied.antt for this crate's own modules and proofs.
use Rattle.std.specs.Prelude.{ℕ, List, ◌++◌, length, drop}
use Rattle.csr_store.specs.Run.{Row, Run}
use Rattle.csr_store.specs.inner.Run.{ended_rows, open_row}

-- the entries that were written, and those of the matrix behind them
abbrev pub copied_cells : Row → Row → Row
copied_cells written source = written ++ drop (length written) source

abbrev pub run_by_ends : ℕ → ℕ → List ℕ → Row → Run
run_by_ends first columns ends cells =
    record { first = first; columns = columns; ended = ended_rows 0 ends cells; opened = open_row 0 ends cells }
