-- What `spmat_read` answers: what `read` of matrix_market does, in numbers, and the entries in arrays. This project's own.
use Rattle.std.specs.Prelude.{◌≡◌, ◌≤◌, ℕ, List, length, map, take, Result, Err, Ok, IfErr, IfOk}
use Rattle.std.specs.FinMap as fin
use Rattle.csr_store.specs.Grid.{Grid, Entry}
use Rattle.matrix_market.specs.declared.rule.MarketRule.{MarketRule}
use Rattle.matrix_market.specs.declared.rule.MarketRule.TheVariants.{MalformedBanner, OutsideProfile, MalformedSize, SizeAboveLimit}
use Rattle.matrix_market.specs.declared.rule.MarketRule.TheVariants.{MalformedEntry, IndexOutsideMatrix, ValueOutOfRange}
use Rattle.matrix_market.specs.declared.rule.MarketRule.TheVariants.{PositionGivenTwice, TooFewEntries, LineAfterLastEntry}
use Rattle.matrix_market.specs.declared.rule.MarketRule.TheVariants.{LineTooLong, SymmetricNotSquare}
use Rattle.matrix_market.specs.declared.rule.MarketError.{MarketError}
use Rattle.matrix_market.specs.declared.rule.MarketError.TheVariants.{Fault, NoRoom, Memory}
use Rattle.matrix_market.specs.Market.{IsTextOf}
use Rattle.matrix_market.specs.Refusal.{ExplainsRefusal, IsOnlyMatrix}
use Rattle.spmat_lib.specs.declared.answer.Answer.{Answer}
use Rattle.spmat_lib.specs.declared.copying.Part.{Part}
use Rattle.spmat_lib.specs.declared.copying.Part.TheVariants.{Row, Column, Value}

abbrev pub number_of : MarketRule → ℕ
number_of MalformedBanner = 1
number_of OutsideProfile = 2
number_of MalformedSize = 3
number_of SizeAboveLimit = 4
number_of MalformedEntry = 5
number_of IndexOutsideMatrix = 6
number_of ValueOutOfRange = 7
number_of PositionGivenTwice = 8
number_of TooFewEntries = 9
number_of LineAfterLastEntry = 10
number_of LineTooLong = 11
number_of SymmetricNotSquare = 12

-- what came of a text, in numbers
abbrev pub answer_of : Result Grid MarketError → Answer
answer_of (Ok m) = record { rule = 0; line = 0; rows = m.rows; columns = m.columns; entries = fin.len m.cells }
answer_of (Err (Fault rule line)) = record { rule = number_of rule; line = line; rows = 0; columns = 0; entries = 0 }
answer_of (Err (NoRoom refused)) = record { rule = 13; line = 0; rows = 0; columns = 0; entries = 0 }
answer_of (Err (Memory refused)) = record { rule = 13; line = 0; rows = 0; columns = 0; entries = 0 }

abbrev pub part_of : Part → Entry → ℕ
part_of Row e = e.0.0
part_of Column e = e.0.1
part_of Value e = e.1

-- an array with room for all entries begins with one number of each, in order
abbrev pub HasPart : Part → Grid → List ℕ → Type 0
HasPart part m array = fin.len m.cells ≤ length array → take (fin.len m.cells) array ≡ map (part_of part) (fin.entries m.cells)

pub record AreCopied (m : Grid) (rows columns values : List ℕ) : Type 0 where
  pub rows_copied : HasPart Row m rows
  pub columns_copied : HasPart Column m columns
  pub values_copied : HasPart Value m values

-- The numbers tell what came of the text: the only matrix that it stands for, whose entries the arrays have, or why it was
-- refused.
pub record IsAnswer (text rows columns values : List ℕ) (answer : Answer) : Type 0 where
  pub outcome : Result Grid MarketError
  pub told : answer ≡ answer_of outcome
  pub text_of : IfOk outcome (λ m. IsTextOf text m)
  pub only : IfOk outcome (λ m. IsOnlyMatrix text m)
  pub copied : IfOk outcome (λ m. AreCopied m rows columns values)
  pub refusal : IfErr outcome (ExplainsRefusal text)
