-- Entries of a matrix in any order, as the tuples that `GrB_Matrix_build` of the GraphBLAS C API Specification 2.0
-- takes where no operator joins duplicates: two of one position make no matrix.
use Rattle.std.specs.Prelude.{if◌then◌else◌, ℕ, ◌&&◌, not, nat_lt, nat_le, Option, None, Some, List, length, refl}
use Rattle.std.specs.List.{IsDistinct}
use Rattle.std.specs.Map.{keys_of}
use Rattle.std.specs.Ordering.{eq_by_cmp}
use Rattle.std.specs.Coded.{Coded, code_by, coded×, coded_ℕ, coded_list}
use Rattle.csr_store.specs.declared.error.StoreError.{StoreError}
use Rattle.csr_store.specs.declared.error.StoreError.TheVariants.{IndexOutOfRange, PositionGivenTwice, TooManyEntries, Memory}
use Rattle.csr_store.specs.Grid.{Position, Entry, pos_cmp, limit}

-- the sizes, and the entries in the order in which they came
pub record Listed : Type 0 where
  pub rows : ℕ
  pub columns : ℕ
  pub entries : List Entry

-- stored as the tuple of its fields
abbrev pub listed_code : Coded Listed
listed_code =
    code_by (ℕ × (ℕ × List Entry)) (coded× coded_ℕ (coded× coded_ℕ (coded_list (coded× (coded× coded_ℕ coded_ℕ) coded_ℕ))))
    (λ l. (l.rows, (l.columns, l.entries))) (λ p. record { rows = p.0; columns = p.1.0; entries = p.1.1 }) (λ _. refl)

-- no two entries have one position
abbrev pub NoneTwice : List Entry → Type 0
NoneTwice es = IsDistinct (eq_by_cmp pos_cmp) (keys_of es)

-- why an entry is refused at once
abbrev pub push_fault : Listed → Position → Option StoreError
push_fault l p =
    if not (nat_lt p.0 l.rows && nat_lt p.1 l.columns) then Some IndexOutOfRange
    else if nat_le limit (length l.entries) then Some TooManyEntries
    else None

-- why there is no matrix: some position has two entries, or none has and memory was refused
abbrev pub IsRefusalOf : List Entry → StoreError → Type 0
IsRefusalOf es IndexOutOfRange = ⊥
IsRefusalOf es PositionGivenTwice = NoneTwice es → ⊥
IsRefusalOf es TooManyEntries = ⊥
IsRefusalOf es Memory = NoneTwice es
