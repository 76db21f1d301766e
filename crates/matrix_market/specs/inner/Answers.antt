-- What a line of each kind gives, or which rule it breaks.
use Rattle.std.specs.Prelude.{◌≡◌, ℕ, ◌+◌, ◌-◌, ◌≤◌, ◌==◌, ◌||◌, ◌&&◌, not, nat_lt, Bool}
use Rattle.std.specs.Prelude.{true, false, if◌then◌else◌, List, [], ◌∷◌, length, Option, Some, None, Result, Ok, Err}
use Rattle.matrix_market.specs.declared.rule.MarketRule.{MarketRule}
use Rattle.matrix_market.specs.declared.rule.MarketRule.TheVariants.{MalformedBanner, OutsideProfile, MalformedSize, SizeAboveLimit}
use Rattle.matrix_market.specs.declared.rule.MarketRule.TheVariants.{MalformedEntry, IndexOutsideMatrix, ValueOutOfRange}
use Rattle.matrix_market.specs.declared.rule.MarketRule.TheVariants.{SymmetricNotSquare}
use Rattle.matrix_market.specs.declared.kinds.Banner.{Banner}
use Rattle.matrix_market.specs.declared.kinds.Size.{Size}
use Rattle.matrix_market.specs.declared.kinds.Found.{Found}
use Rattle.matrix_market.specs.declared.words.Fields.{Fields}
use Rattle.matrix_market.specs.declared.words.Fields.TheVariants.{Two, Three, Other}
use Rattle.std.specs.Prelude.{◌++◌, is_some}
use Rattle.std.specs.List.{AllByRecursion, list_any}
use Rattle.std.specs.Str.Lines.{lines}
use Rattle.std.specs.FinMap as fin
use Rattle.csr_store.specs.Grid.{Position, pos_cmp}
use Rattle.text_words.specs.Numbers.{held}
use Rattle.matrix_market.specs.declared.lines.Content.{Content}
use Rattle.matrix_market.specs.declared.cursor.Cursor.{Cursor}
use Rattle.matrix_market.specs.declared.lines.Content.TheVariants.{Line, End, TooLong}
use Rattle.matrix_market.specs.Market.{mirrored, is_skipped, Value, WrittenEntry, is_banner, banner_words, tail, is_large, outside}
use Rattle.matrix_market.specs.Market.{is_word, word_of}

-- a value whose number is held below 2 ^ 64
abbrev pub held_value : Option Value → Option Value
held_value None = None
held_value (Some v) = Some (v.0, held v.1)

abbrev pub known_banner : Option Banner → Result Banner MarketRule
known_banner None = Err OutsideProfile
known_banner (Some b) = Ok b

abbrev pub banner_answer : List (List ℕ) → Result Banner MarketRule
banner_answer ws = if is_banner ws then known_banner (banner_words (tail ws)) else Err MalformedBanner

abbrev pub size_checked : Bool → ℕ → ℕ → ℕ → Result Size MarketRule
size_checked symmetric rows columns entries =
    if is_large rows || is_large columns || is_large entries || (symmetric && nat_lt 8388608 entries) then Err SizeAboveLimit
    else if symmetric && not (rows == columns) then Err SymmetricNotSquare
    else Ok (record { rows = rows; columns = columns; entries = entries })

abbrev pub size_answer : Bool → Option Size → Result Size MarketRule
size_answer symmetric None = Err MalformedSize
size_answer symmetric (Some s) = size_checked symmetric s.rows s.columns s.entries

abbrev pub entry_checked : Size → ℕ → ℕ → Value → Result Found MarketRule
entry_checked s i j v =
    if outside i s.rows || outside j s.columns then Err IndexOutsideMatrix
    else if not (is_word v) then Err ValueOutOfRange else Ok (record { row = i - 1; column = j - 1; word = word_of v })

abbrev pub entry_answer : Size → Option WrittenEntry → Result Found MarketRule
entry_answer s None = Err MalformedEntry
entry_answer s (Some e) = entry_checked s e.row e.column e.value

abbrev pub FieldsOf : Fields → List (List ℕ) → Type 0
FieldsOf (Two a b) ws = ws ≡ a.now ∷ b.now ∷ []
FieldsOf (Three a b c) ws = ws ≡ a.now ∷ b.now ∷ c.now ∷ []
FieldsOf Other ws = (length ws ≡ 2 → ⊥) × (length ws ≡ 3 → ⊥)

-- a line that is passed over
abbrev pub IsIdle : List ℕ → Type 0
IsIdle line = (is_skipped line ≡ true) × (nat_lt 1024 (length line) ≡ false)

-- from one line number to another there are lines that are passed over
pub record Passes (text : List ℕ) (number : ℕ) (rest : List (List ℕ)) (at : ℕ) : Type 0 where
  pub between : List (List ℕ)
  pub split : lines text ≡ between ++ rest
  pub counts : at ≡ number + length between
  pub idle : AllByRecursion IsIdle between

-- what follows the lines that are skipped
abbrev pub ContentOf : Content → Cursor → Type 0
ContentOf (Line line behind) cursor =
    (before : ℕ) × Passes cursor.rest.now cursor.at (line.now ∷ lines behind.rest.now) before × (behind.at ≡ before + 1)
    × (is_skipped line.now ≡ false) × (nat_lt 1024 (length line.now) ≡ false)
    × (behind.at + length behind.rest.now ≤ cursor.at + length cursor.rest.now)
ContentOf (TooLong at) cursor =
    (before : ℕ) × (line : List ℕ) × (rest : List (List ℕ)) × Passes cursor.rest.now cursor.at (line ∷ rest) before
    × (at ≡ before + 1) × (nat_lt 1024 (length line) ≡ true)
ContentOf (End at) cursor = Passes cursor.rest.now cursor.at [] at × (at ≤ cursor.at + length cursor.rest.now)

abbrev pub spots : Bool → Found → List Position
spots symmetric f = mirrored symmetric (f.row, f.column)

abbrev pub put_all : fin.FinMap pos_cmp ℕ → List Position → ℕ → fin.FinMap pos_cmp ℕ
put_all m [] w = m
put_all m (p ∷ ps) w = put_all (fin.insert m p w) ps w

-- some of these positions has a word
abbrev pub some_given : fin.FinMap pos_cmp ℕ → List Position → Bool
some_given m ps = list_any (λ p. is_some (fin.get m p)) ps
