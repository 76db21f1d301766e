-- Which text is that of which matrix, in the coordinate format of the Matrix Market exchange formats of NIST
-- (https://math.nist.gov/MatrixMarket/formats.html, "Coordinate Format for Sparse Matrices"), with the qualifiers
-- `integer`, `pattern`, `general` and `symmetric`; and which line of a text breaks which rule. The rules, the limits and
-- the order in which a line is looked at are this project's own.
use Rattle.std.specs.Prelude.{◌≡◌, ℕ, ◌+◌, ◌-◌, ◌^◌, ◌<◌, ◌≤◌, ◌==◌, ◌||◌, ◌&&◌}
use Rattle.std.specs.Prelude.{not, nat_lt, nat_le, nat_eq, Bool, true, false, if◌then◌else◌, List, [], ◌∷◌, ◌++◌}
use Rattle.std.specs.Prelude.{length, Option, Some, None, filter, flat_map, take, slice_get, codes}
use Rattle.std.specs.List.{list_any}
use Rattle.std.specs.Str.{str_to_ascii_lowercase}
use Rattle.std.specs.Str.Lines.{lines}
use Rattle.std.specs.Cmp.Lexicographic.{pointwise}
use Rattle.std.specs.FinMap as fin
use Rattle.csr_store.specs.Grid.{Grid, Position}
use Rattle.text_words.specs.Words.{words}
use Rattle.text_words.specs.Numbers.{decimal_in}
use Rattle.matrix_market.specs.declared.rule.MarketRule.{MarketRule}
use Rattle.matrix_market.specs.declared.rule.MarketRule.TheVariants.{MalformedBanner, OutsideProfile, MalformedSize, SizeAboveLimit}
use Rattle.matrix_market.specs.declared.rule.MarketRule.TheVariants.{MalformedEntry, IndexOutsideMatrix, ValueOutOfRange}
use Rattle.matrix_market.specs.declared.rule.MarketRule.TheVariants.{PositionGivenTwice, TooFewEntries, LineAfterLastEntry}
use Rattle.matrix_market.specs.declared.rule.MarketRule.TheVariants.{LineTooLong, SymmetricNotSquare}
use Rattle.matrix_market.specs.declared.kinds.Banner.{Banner}
use Rattle.matrix_market.specs.declared.kinds.Size.{Size}

-- ---- words
abbrev pub same_text : List ℕ → List ℕ → Bool
same_text = pointwise nat_eq

-- a blank line, or one whose first word begins with %
abbrev pub is_comment : List (List ℕ) → Bool
is_comment [] = true
is_comment ([] ∷ ws) = false
is_comment ((b ∷ bs) ∷ ws) = b == 37

abbrev pub is_skipped : List ℕ → Bool
is_skipped line = is_comment (words line)

-- ---- numbers
-- digits after an optional +
abbrev pub number : List ℕ → Option ℕ
number [] = None
number (b ∷ bs) = if b == 43 then decimal_in bs else decimal_in (b ∷ bs)

-- a whole number: whether it has a -, and how large it is
abbrev pub Value : Type 0
Value = Bool × ℕ

abbrev pub signed : Bool → Option ℕ → Option Value
signed negative None = None
signed negative (Some n) = Some (negative, n)

abbrev pub value : List ℕ → Option Value
value [] = None
value (b ∷ bs) = if b == 45 then signed true (decimal_in bs) else signed false (number (b ∷ bs))

abbrev pub is_word : Value → Bool
is_word v = if v.0 then nat_le v.1 (2 ^ 63) else nat_lt v.1 (2 ^ 63)

-- the word of 64 bits that represents it
abbrev pub word_of : Value → ℕ
word_of v = if v.0 && nat_lt 0 v.1 then 2 ^ 64 - v.1 else v.1

-- ---- line 1
abbrev pub flag : List ℕ → List ℕ → List ℕ → Option Bool
flag plain other w =
    if same_text (str_to_ascii_lowercase w) plain then Some false
    else if same_text (str_to_ascii_lowercase w) other then Some true
    else None

abbrev pub both : Option Bool → Option Bool → Option Banner
both (Some p) (Some s) = Some (record { pattern = p; symmetric = s })
both None s = None
both (Some p) None = None

abbrev pub banner_words : List (List ℕ) → Option Banner
banner_words (o ∷ f ∷ p ∷ s ∷ []) =
    if same_text (str_to_ascii_lowercase o) (codes "matrix") && same_text (str_to_ascii_lowercase f) (codes "coordinate")
    then both (flag (codes "integer") (codes "pattern") p) (flag (codes "general") (codes "symmetric") s) else None
banner_words _ = None

abbrev pub is_banner : List (List ℕ) → Bool
is_banner [] = false
is_banner (w ∷ ws) = same_text w (codes "%%MatrixMarket") && (length ws == 4)

abbrev pub tail : List (List ℕ) → List (List ℕ)
tail [] = []
tail (w ∷ ws) = ws

abbrev pub banner_of : List ℕ → Option Banner
banner_of line = if is_banner (words line) then banner_words (tail (words line)) else None

-- ---- the size line
abbrev pub size_from : Option ℕ → Option ℕ → Option ℕ → Option Size
size_from (Some r) (Some c) (Some n) = Some (record { rows = r; columns = c; entries = n })
size_from (Some r) (Some c) None = None
size_from (Some r) None n = None
size_from None c n = None

abbrev pub size_words : List (List ℕ) → Option Size
size_words (r ∷ c ∷ n ∷ []) = size_from (number r) (number c) (number n)
size_words _ = None

-- ---- an entry line
pub record WrittenEntry : Type 0 where
  pub row : ℕ
  pub column : ℕ
  pub value : Value

abbrev pub entry_from : Option ℕ → Option ℕ → Option Value → Option WrittenEntry
entry_from (Some i) (Some j) (Some v) = Some (record { row = i; column = j; value = v })
entry_from (Some i) (Some j) None = None
entry_from (Some i) None v = None
entry_from None j v = None

abbrev pub entry_words : Bool → List (List ℕ) → Option WrittenEntry
entry_words true (i ∷ j ∷ []) = entry_from (number i) (number j) (Some (false, 1))
entry_words false (i ∷ j ∷ v ∷ []) = entry_from (number i) (number j) (value v)
entry_words _ _ = None

-- a position and, in a symmetric matrix, its mirror
abbrev pub mirrored : Bool → Position → List Position
mirrored symmetric p = if symmetric && not (p.0 == p.1) then p ∷ (p.1, p.0) ∷ [] else p ∷ []

-- the positions that an entry line sets
abbrev pub places : Bool → WrittenEntry → List Position
places symmetric e = mirrored symmetric (e.row - 1, e.column - 1)

-- ---- lines in their roles
-- those of the lines after the first that are not skipped
abbrev pub content : List (List ℕ) → List (List ℕ)
content ls = filter (λ l. not (is_skipped l)) ls

abbrev pub size_of : List (List ℕ) → Option Size
size_of [] = None
size_of (l ∷ ls) = size_words (words l)

abbrev pub option_list : Option WrittenEntry → List WrittenEntry
option_list None = []
option_list (Some e) = e ∷ []

abbrev pub entries_of : Bool → List (List ℕ) → List WrittenEntry
entries_of pattern [] = []
entries_of pattern (size ∷ ls) = flat_map (λ l. option_list (entry_words pattern (words l))) ls

-- ---- which rule a line breaks
abbrev pub when : Bool → MarketRule → List MarketRule
when true r = r ∷ []
when false r = []

-- a word is above 16,777,216
abbrev pub is_large : ℕ → Bool
is_large n = nat_lt 16777216 n

abbrev pub size_rules : Bool → Option Size → List MarketRule
size_rules symmetric None = MalformedSize ∷ []
size_rules symmetric (Some s) =
    when (is_large s.rows || is_large s.columns || is_large s.entries || (symmetric && nat_lt 8388608 s.entries)) SizeAboveLimit
    ++ when (symmetric && not (s.rows == s.columns)) SymmetricNotSquare

abbrev pub outside : ℕ → ℕ → Bool
outside i n = (i == 0) || nat_lt n i

abbrev pub is_place : Position → Position → Bool
is_place p q = (p.0 == q.0) && (p.1 == q.1)

-- some position of the entry is a position of an earlier one
abbrev pub is_repeated : Bool → WrittenEntry → List WrittenEntry → Bool
is_repeated symmetric e es = list_any (λ p. list_any (λ f. list_any (is_place p) (places symmetric f)) es) (places symmetric e)

abbrev pub entry_rules : Banner → Size → List WrittenEntry → Option WrittenEntry → List MarketRule
entry_rules b s es None = MalformedEntry ∷ []
entry_rules b s es (Some e) =
    when (outside e.row s.rows || outside e.column s.columns) IndexOutsideMatrix
    ++ when (not (is_word e.value)) ValueOutOfRange
    ++ when (is_repeated b.symmetric e es) PositionGivenTwice

abbrev pub is_known : Option Banner → Bool
is_known None = false
is_known (Some b) = true

abbrev pub banner_rules : List ℕ → List MarketRule
banner_rules line =
    if is_banner (words line) then when (not (is_known (banner_words (tail (words line))))) OutsideProfile else MalformedBanner ∷ []

-- What the lines of a text have a next line to be:
pub data Role : Type 0 where
  BannerLine : Role  -- line 1
  SizeLine : Banner → Role
  EntryLine : Banner → Size → (before : List WrittenEntry) → Role
  PastEntries : Role  -- a line behind the last entry
  Anything : Role  -- a line behind one that breaks a rule

-- the role of the next line, after a size line and entry lines
abbrev pub role_sized : Banner → List (List ℕ) → Option Size → Role
role_sized b ls None = Anything
role_sized b ls (Some s) = if nat_lt (length (tail ls)) s.entries then EntryLine b s (entries_of b.pattern ls) else PastEntries

abbrev pub role_after : Option Banner → List (List ℕ) → Role
role_after None ls = Anything
role_after (Some b) [] = SizeLine b
role_after (Some b) (l ∷ ls) = role_sized b (l ∷ ls) (size_of (l ∷ ls))

-- the role of the line after these lines
abbrev pub role_behind : List (List ℕ) → Role
role_behind [] = BannerLine
role_behind (first ∷ ls) = role_after (banner_of first) (content ls)

-- the rules that a line breaks in its role, the one that is reported first
abbrev pub rules_of : Role → List ℕ → List MarketRule
rules_of BannerLine line = banner_rules line
rules_of (SizeLine b) line = size_rules b.symmetric (size_words (words line))
rules_of (EntryLine b s before) line = entry_rules b s before (entry_words b.pattern (words line))
rules_of PastEntries line = LineAfterLastEntry ∷ []
rules_of Anything line = []

-- the rules that a text breaks which ends where a line of this role would be
abbrev pub rules_of_end : Role → List MarketRule
rules_of_end BannerLine = MalformedBanner ∷ []
rules_of_end (SizeLine b) = MalformedSize ∷ []
rules_of_end (EntryLine b s before) = TooFewEntries ∷ []
rules_of_end PastEntries = []
rules_of_end Anything = []

-- a comment or a blank line plays no role, but line 1 is the banner whatever it holds
abbrev pub is_free : Role → List ℕ → Bool
is_free BannerLine line = false
is_free role line = is_skipped line

abbrev pub rules_in : Role → Option (List ℕ) → List MarketRule
rules_in role None = rules_of_end role
rules_in role (Some line) =
    when (nat_lt 1024 (length line)) LineTooLong ++ (if is_free role line then [] else rules_of role line)

-- The rules that line n breaks, the one that is reported first: lines count from 1, and the one after the last is the end.
abbrev pub rules_at : List (List ℕ) → ℕ → List MarketRule
rules_at ls n = rules_in (role_behind (take (n - 1) ls)) (slice_get ls (n - 1))

abbrev pub first_rule : List MarketRule → Option MarketRule
first_rule [] = None
first_rule (r ∷ rs) = Some r

-- line n is the first that breaks a rule, and this is the one that is reported
pub record IsFault (text : List ℕ) (n : ℕ) (rule : MarketRule) : Type 0 where
  pub line : (1 ≤ n) × (n ≤ length (lines text) + 1)
  pub fault : first_rule (rules_at (lines text) n) ≡ Some rule
  pub none_before : (k : ℕ) → 1 ≤ k → k < n → rules_at (lines text) k ≡ []

-- the words that a text's entries put at a position
abbrev pub words_at : Bool → List WrittenEntry → Position → List ℕ
words_at symmetric es p = flat_map (λ e. if list_any (is_place p) (places symmetric e) then word_of e.value ∷ [] else []) es

abbrev pub at_most : Option ℕ → List ℕ
at_most None = []
at_most (Some v) = v ∷ []

-- The text is without fault and denotes the matrix.
pub record IsTextOf (text : List ℕ) (g : Grid) : Type 0 where
  pub faultless : (k : ℕ) → 1 ≤ k → k ≤ length (lines text) + 1 → rules_at (lines text) k ≡ []
  pub first : List ℕ
  pub others : List (List ℕ)
  pub lines_are : lines text ≡ first ∷ others
  pub banner : Banner
  pub banner_is : banner_of first ≡ Some banner
  pub size : Size
  pub size_is : size_of (content others) ≡ Some size
  pub rows : g.rows ≡ size.rows
  pub columns : g.columns ≡ size.columns
  pub cells : (p : Position)
      → words_at banner.symmetric (entries_of banner.pattern (content others)) p ≡ at_most (fin.get g.cells p)
