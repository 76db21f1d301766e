-- Why a builder refuses an entry, in the order in which the reasons are looked at: those of `GrB_Matrix_build` of the
-- GraphBLAS C API Specification 2.0 where no operator joins duplicates, and then this project's limit.
use Rattle.std.specs.Prelude.{if◌then◌else◌, ℕ, ◌&&◌, not, nat_lt, nat_le, Option, None, Some, List, codes}
use Rattle.std.specs.FinMap as fin
use Rattle.csr_store.specs.declared.error.StoreError.{StoreError}
use Rattle.csr_store.specs.declared.error.StoreError.TheVariants.{IndexOutOfRange, PositionGivenTwice, TooManyEntries, Memory}
use Rattle.csr_store.specs.Grid.{Grid, Position, limit}

abbrev pub put_fault : Grid → Position → Option StoreError
put_fault g p =
    if not (nat_lt p.0 g.rows && nat_lt p.1 g.columns) then Some IndexOutOfRange
    else if fin.contains_key g.cells p then Some PositionGivenTwice
    else if nat_le limit (fin.len g.cells) then Some TooManyEntries
    else None

-- how the rules are named to a user
abbrev pub rule_name : StoreError → List ℕ
rule_name IndexOutOfRange = codes "J1"
rule_name PositionGivenTwice = codes "J2"
rule_name TooManyEntries = codes "J3"
rule_name Memory = codes "memory"
