-- An entry line in its usual form: digits, a space, digits, and in a text with values a space, an optional `-` and
-- digits; and LF or CR LF. This project's own; what it says is what `specs/Market.antt` says of the line.
use Rattle.std.specs.Prelude.{◌≡◌, ℕ, ◌+◌, ◌-◌, ◌^◌, ◌%◌, ◌<◌, ◌≤◌, Bool, true, false}
use Rattle.std.specs.Prelude.{if◌then◌else◌, List, ◌∷◌, length, Some, slice_index, slice_range}
use Rattle.std.specs.Str.Lines.{lines}
use Rattle.text_words.specs.Words.{words}
use Rattle.text_words.specs.Numbers.{digits_after}
use Rattle.matrix_market.specs.Market.{Value, is_word, word_of, is_skipped, entry_words}
use Rattle.matrix_market.specs.declared.usual.UsualLine.{UsualLine}

-- digits, and their number in 64 bits
pub record Scanned (ds : List ℕ) (n : ℕ) : Type 0 where
  pub whole : ℕ
  pub is : digits_after 0 ds ≡ Some whole
  pub below : whole < 10 ^ length ds
  pub held : n ≡ whole % 2 ^ 64

-- an index between two positions
pub record IsNumber (text : List ℕ) (from to n : ℕ) : Type 0 where
  pub some : from < to
  pub few : to ≤ from + 8
  pub small : n < 2 ^ 64
  pub is : digits_after 0 (slice_range text from to) ≡ Some n

-- an index between two positions, followed by a space
pub record IsIndex (text : List ℕ) (from to n : ℕ) : Type 0 where
  pub number : IsNumber text from to n
  pub space : slice_index text to ≡ 32

-- a value between two positions
pub record IsValue (text : List ℕ) (from to n : ℕ) : Type 0 where
  pub ds : List ℕ
  pub m : ℕ
  pub negative : Bool
  pub some : from < to
  pub few : to ≤ from + 20
  pub cut : slice_range text from to ≡ (if negative then 45 ∷ ds else ds)
  pub digit : 0 < length ds
  pub is : digits_after 0 ds ≡ Some m
  pub fits : is_word (negative, m) ≡ true
  pub word : word_of (negative, m) ≡ n

-- a line ends at a position with LF, or with CR and LF, and the next starts after that
pub record IsLineEnd (text : List ℕ) (at next : ℕ) : Type 0 where
  pub returns : Bool
  pub here : slice_index text at ≡ (if returns then 13 else 10)
  pub feed : slice_index text (next - 1) ≡ 10
  pub next_is : next ≡ at + (if returns then 2 else 1)
  pub within : next ≤ length text

-- the first line of a text is an entry line, and this follows it
pub record IsEntryLine (pattern : Bool) (text : List ℕ) (l : UsualLine) (rest : List ℕ) : Type 0 where
  pub line : List ℕ
  pub value : Value
  pub first : lines text ≡ line ∷ lines rest
  pub short : length line ≤ 1024
  pub content : is_skipped line ≡ false
  pub entry : entry_words pattern (words line) ≡ Some (record { row = l.row; column = l.column; value = value })
  pub fits : is_word value ≡ true
  pub word : word_of value ≡ l.word
  pub small : (l.row < 2 ^ 64) × (l.column < 2 ^ 64)
