-- What was gathered of a text in any order. Positions that are given twice are looked for when all entries are there, so
-- what is said of a text's faults holds if there are none. This project's own.
use Rattle.std.specs.Prelude.{◌≡◌, ℕ, zero, suc, ◌+◌, ◌*◌, ◌≤◌, ◌<◌, false, nat_lt, Bool, if◌then◌else◌, List, [], ◌∷◌}
use Rattle.std.specs.Prelude.{◌++◌, map, length, Option, Result, Ok, MatchOption, MatchResult}
use Rattle.std.specs.List.{AllByRecursion}
use Rattle.std.specs.Str.Lines.{lines}
use Rattle.std.specs.FinMap as fin
use Rattle.csr_store.specs.Grid.{Grid, Position, Entry, limit}
use Rattle.csr_store.specs.ByRows.{grid}
use Rattle.csr_store.specs.Listed.{Listed, NoneTwice}
use Rattle.matrix_market.specs.declared.kinds.Banner.{Banner}
use Rattle.matrix_market.specs.declared.kinds.Size.{Size}
use Rattle.matrix_market.specs.declared.kinds.Header.{Header}
use Rattle.matrix_market.specs.declared.kinds.Found.{Found}
use Rattle.matrix_market.specs.declared.cursor.Cursor.{Cursor}
use Rattle.matrix_market.specs.declared.rule.MarketError.{MarketError}
use Rattle.matrix_market.specs.declared.rule.MarketRule.TheVariants.{PositionGivenTwice}
use Rattle.text_words.specs.Words.{words}
use Rattle.matrix_market.specs.Market.{is_skipped, entry_words, IsTextOf, IsFault}
use Rattle.matrix_market.specs.inner.Answers.{spots, entry_answer, IsIdle}
use Rattle.matrix_market.specs.inner.Filling.{Filled}
use Rattle.matrix_market.specs.inner.Refusal.{NamesFault}

-- the entries of a text with this header begin here, and no line before breaks a rule
abbrev pub Begun : List ℕ → Header → Cursor → Type 0
Begun text h start =
    Filled text h.banner h.size (record { rows = h.size.rows; columns = h.size.columns; cells = fin.empty })
    start.rest.now start.at 0

-- a word at each of some positions
abbrev pub with_word : List Position → ℕ → List Entry
with_word ps w = map (λ p. (p, w)) ps

-- so many entries does a line give at most
abbrev pub width : Bool → ℕ
width symmetric = if symmetric then 2 else 1

-- a list has the sizes of a text, and capacity for the entries of so many more lines
pub record HasRoom (h : Header) (l : Listed) (more : ℕ) : Type 0 where
  pub rows_same : l.rows ≡ h.size.rows
  pub columns_same : l.columns ≡ h.size.columns
  pub capacity : length l.entries + width h.banner.symmetric * more ≤ limit

-- a list took an entry inside its sizes and, in a symmetric matrix, its mirror
pub record Takes (old : Listed) (symmetric : Bool) (f : Found) (new : Listed) : Type 0 where
  pub row : f.row < old.rows
  pub column : f.column < old.columns
  pub rows_same : new.rows ≡ old.rows
  pub columns_same : new.columns ≡ old.columns
  pub entries_are : new.entries ≡ old.entries ++ with_word (spots symmetric f) f.word

-- the next entry line of a text gives the first of these entries
pub record Taken (b : Banner) (s : Size) (rest : List ℕ) (es : List Entry) : Type 0 where
  pub between : List (List ℕ)
  pub line : List ℕ
  pub more : List ℕ
  pub split : lines rest ≡ between ++ line ∷ lines more
  pub idle : AllByRecursion IsIdle between
  pub content : is_skipped line ≡ false
  pub short : nat_lt 1024 (length line) ≡ false
  pub found : Found
  pub answer : Ok found ≡ entry_answer s (entry_words b.pattern (words line))
  pub entries : List Entry
  pub entries_are : es ≡ with_word (spots b.symmetric found) found.word ++ entries

-- so many entry lines of a text, and with those between so many lines, give these entries and end where this follows
abbrev pub Run : Banner → Size → ℕ → List ℕ → ℕ → List Entry → List ℕ → Type 0
Run b s zero rest many es end = (lines rest ≡ lines end) × (many ≡ 0) × (es ≡ [])
Run b s (suc given) rest many es end =
    (x : Taken b s rest es) × (left : ℕ) × (many ≡ length x.between + 1 + left) × Run b s given x.more left x.entries end

-- a list took the entries of so many lines, up to where this follows the line of this number
pub record Adds (h : Header) (old new : Listed) (rest : List ℕ) (at given : ℕ) (end : List ℕ) (last : ℕ) : Type 0 where
  pub entries : List Entry
  pub entries_are : new.entries ≡ old.entries ++ entries
  pub rows_same : new.rows ≡ old.rows
  pub columns_same : new.columns ≡ old.columns
  pub many : ℕ
  pub last_is : last ≡ at + many
  pub run : Run h.banner h.size given rest many entries end

-- a list without an entry
abbrev pub nothing : Header → Listed
nothing h = record { rows = h.size.rows; columns = h.size.columns; entries = [] }

-- a list has the entries of some lines from here on, and no others
pub record IsRead (h : Header) (start : Cursor) (l : Listed) : Type 0 where
  pub given : ℕ
  pub few : given ≤ h.size.entries
  pub end : List ℕ
  pub last : ℕ
  pub adds : Adds h (nothing h) l start.rest.now start.at given end last

-- a text that goes on like this after lines that break no rule has this fault, if an entry is to come
abbrev pub IsFaultAt : Header → Cursor → MarketError → Type 0
IsFaultAt h cursor e =
    (text : List ℕ) (g : Grid) (given : ℕ) → Filled text h.banner h.size g cursor.rest.now cursor.at given
    → given < h.size.entries → NamesFault text e

-- the same, if all entries are read: it has this fault or none
abbrev pub IsEnd : Cursor → Option MarketError → Type 0
IsEnd cursor fault =
    (text : List ℕ) (b : Banner) (s : Size) (g : Grid) (given : ℕ) → Filled text b s g cursor.rest.now cursor.at given
    → s.entries ≤ given
    → MatchOption fault (IsTextOf text g) (NamesFault text)

-- where no position is given twice
abbrev pub Tells : Header → Cursor → Listed → Option MarketError → Type 0
Tells h start l fault =
    (text : List ℕ) → Begun text h start → NoneTwice l.entries
    → MatchOption fault (IsTextOf text (grid l.rows l.columns l.entries)) (NamesFault text)

-- the line of this number gives a position again, and no line before it breaks a rule
abbrev pub IsRepeatAt : Header → Cursor → ℕ → Type 0
IsRepeatAt h start line = (text : List ℕ) → Begun text h start → IsFault text line PositionGivenTwice

-- the answer to a text whose entries begin here
abbrev pub IsAnswer : Header → Cursor → Result Grid MarketError → Type 0
IsAnswer h start answer = (text : List ℕ) → Begun text h start → MatchResult answer (IsTextOf text) (NamesFault text)
