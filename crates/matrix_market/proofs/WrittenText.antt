-- The canonical text of a matrix is a text of it.
use Rattle.std.proofs.Common.{◌≡◌, ◌≤◌, ◌<◌, ◌+◌, ◌-◌, ◌^◌, ℕ, List, [], ◌∷◌, ◌++◌, true, false, ◌||◌, nat_lt, nat_eq, Some, Ok, is_some, length, get_or, refl, sym, ap, ◌∙◌, subst, arith, append_assoc, append-nil, length-append, lit<}
use Rattle.std.proofs.lemmas.Bool.{le-ltb}
use Rattle.std.proofs.lemmas.Bool.Decides.{nat_tests}
use Rattle.std.proofs.lemmas.Fmt.{decimal_nonempty, length-decimal-le}
use Rattle.std.proofs.lemmas.List.{take_at, get_or_at}
use Rattle.std.specs.Fmt.{decimal}
use Rattle.std.specs.Prelude.{codes}
use Rattle.std.specs.Str.Lines.{lines}
use Rattle.std.specs.FinMap as fin
use Rattle.csr_store.specs.Grid.{Grid, IsGrid, IsInside, Entry, pos_cmp, limit}
use Rattle.csr_store.proofs.Laws.{entries_ascend, take_ascend, entries-insert_last, entries-empty, get-last, same_entries, entry_inside, entry_word}
use Rattle.matrix_market.specs.declared.kinds.Banner.{Banner}
use Rattle.matrix_market.specs.declared.kinds.Size.{Size}
use Rattle.matrix_market.specs.declared.kinds.Found.{Found}
use Rattle.matrix_market.specs.CanonicalText.{banner, line_of, size_line, entry_lines, value_text, canonical_text}
use Rattle.text_words.specs.Words.{words}
use Rattle.matrix_market.specs.Market.{IsTextOf, WrittenEntry, is_skipped, outside, size_words, entry_words}
use Rattle.matrix_market.specs.inner.Answers.{Passes, size_answer, entry_answer, entry_checked}
use Rattle.matrix_market.specs.inner.Filling.{At, Filled}
use Rattle.matrix_market.proofs.Canonical.{AreFields, three, words_three, lines_three, lines_before, number-decimal, value-value_text, value_for, value_for-is_word, word_of-value_for, decimal_above, value_above, starts_with_digit, decimal_starts, value_some, value_length}
use Rattle.matrix_market.proofs.Reading.{begun, size_read, entry_read, whole}

abbrev general : Banner
general = record { pattern = false; symmetric = false }

abbrev first_line : List ℕ
first_line = codes "%%MatrixMarket matrix coordinate integer general"

passes_none : (rest : List ℕ) (ls : List (List ℕ)) (n : ℕ) → lines rest ≡ ls → Passes rest n ls n
passes_none rest ls n e = record { between = []; split = e; counts = (let q : n ≡ n + 0 = omega arith in q); idle = tt }

cut_line : (a b c rest : List ℕ) → line_of (a ∷ b ∷ c ∷ []) ++ rest ≡ three a b c ++ 10 ∷ rest
cut_line a b c rest = append_assoc (three a b c) (10 ∷ []) rest

few_digits : (n : ℕ) → n < 2 ^ 64 → length (decimal n) ≤ 20
few_digits n h = let q : 2 ^ 64 < 10 ^ 20 = lit< tt in length-decimal-le 20 n (omega arith) (omega arith) h

length_three : (a b c : List ℕ) → length a ≤ 20 → length b ≤ 20 → length c ≤ 21 → nat_lt 1024 (length (three a b c)) ≡ false
length_three a b c x y z =
    let p = length-append a (32 ∷ (b ++ 32 ∷ c)) in let q = length-append b (32 ∷ c) in
    le-ltb 1024 (length (three a b c)) (omega arith)

not_skipped : (a b c : List ℕ) → AreFields a b c → starts_with_digit a ≡ true → is_skipped (three a b c) ≡ false
not_skipped [] b c h d = absurd (let l = h.a_some in omega arith)
not_skipped (x ∷ xs) b c h d = rw (words_three (x ∷ xs) b c h) (let e : nat_eq x 37 ≡ false = grind (arith, nat_tests) in e)

-- ---- entry lines

abbrev written : Entry → WrittenEntry
written e = record { row = e.0.0 + 1; column = e.0.1 + 1; value = value_for e.1 }

abbrev found : Entry → Found
found e = record { row = e.0.0; column = e.0.1; word = e.1 }

record IsSmall (e : Entry) : Type 0 where
  row : e.0.0 < limit
  column : e.0.1 < limit
  word : e.1 < 2 ^ 64

abbrev line_for : Entry → List ℕ
line_for e = three (decimal (e.0.0 + 1)) (decimal (e.0.1 + 1)) (value_text e.1)

fields_for : (e : Entry) → IsSmall e → AreFields (decimal (e.0.0 + 1)) (decimal (e.0.1 + 1)) (value_text e.1)
fields_for e h =
    let r = h.row in let c = h.column in
    record {
      a_some = decimal_nonempty (e.0.0 + 1) (omega arith);
      b_some = decimal_nonempty (e.0.1 + 1) (omega arith);
      c_some = value_some e.1 h.word;
      a_above = decimal_above (e.0.0 + 1) (omega arith);
      b_above = decimal_above (e.0.1 + 1) (omega arith);
      c_above = value_above e.1 h.word;
    }

words_for : (e : Entry) → IsSmall e → entry_words false (words (line_for e)) ≡ Some (written e)
words_for e h =
    let r = h.row in let c = h.column in
    ap (entry_words false) (words_three (decimal (e.0.0 + 1)) (decimal (e.0.1 + 1)) (value_text e.1) (fields_for e h))
    ∙ rw (number-decimal (e.0.0 + 1) (omega arith), number-decimal (e.0.1 + 1) (omega arith), value-value_text e.1 h.word) refl

inside_one : (i n : ℕ) → i < n → outside (i + 1) n ≡ false
inside_one i n l = grind (arith, nat_tests)

one_less : (i : ℕ) → i + 1 - 1 ≡ i
one_less i = omega arith

answer_for : (s : Size) (e : Entry) → e.0.0 < s.rows → e.0.1 < s.columns → e.1 < 2 ^ 64 → Ok (found e) ≡ entry_checked s (e.0.0 + 1) (e.0.1 + 1) (value_for e.1)
answer_for s e r c w = rw (inside_one e.0.0 s.rows r, inside_one e.0.1 s.columns c, value_for-is_word e.1 w, one_less e.0.0, one_less e.0.1, word_of-value_for e.1 w) refl

prefix_sorted : (xs es : List Entry) (e : Entry) → fin.is_sorted pos_cmp (xs ++ e ∷ es) ≡ true → fin.is_sorted pos_cmp (xs ++ e ∷ []) ≡ true
prefix_sorted xs es e h =
    let parts : xs ++ e ∷ es ≡ (xs ++ e ∷ []) ++ es = sym (append_assoc xs (e ∷ []) es) in
    let front = take_at (xs ++ e ∷ []) es (length (xs ++ e ∷ [])) refl in
    ap (fin.is_sorted pos_cmp) (sym front) ∙ take_ascend (length (xs ++ e ∷ [])) ((xs ++ e ∷ []) ++ es) (ap (fin.is_sorted pos_cmp) (sym parts) ∙ h)

grids : (g h : Grid) → g.rows ≡ h.rows → g.columns ≡ h.columns → g.cells ≡ h.cells → g ≡ h
grids g h a b c i = record { rows = a i; columns = b i; cells = c i }

-- the lines of all entries, read one after another
module _ (text : List ℕ) (s : Size) (g : Grid) (is : IsGrid g) (rows_are : s.rows ≡ g.rows) (columns_are : s.columns ≡ g.columns) (count : s.entries ≡ length (fin.entries g.cells)) where
  rest_read : (es : List Entry) (k : Grid) (n given : ℕ) → fin.entries k.cells ++ es ≡ fin.entries g.cells → given ≡ length (fin.entries k.cells) → Filled text general s k (entry_lines es) n given → IsTextOf text g
  rest_read [] k n given split c h =
      let all : fin.entries k.cells ≡ fin.entries g.cells = sym (append-nil (fin.entries k.cells)) ∙ split in
      let l = ap length all in
      whole text [] general s k g n n given h (omega arith) (passes_none [] [] n refl)
      (grids g k (sym rows_are ∙ sym h.rows_are) (sym columns_are ∙ sym h.columns_are) (same_entries g.cells k.cells (sym all)))
  rest_read (e ∷ es) k n given split c h =
      let total = ap length split in let parts = length-append (fin.entries k.cells) (e ∷ es) in
      let at = length (fin.entries k.cells) in
      let within : at < length (fin.entries g.cells) = omega arith in
      let here : get_or (fin.entries g.cells) at e ≡ e = ap (λ (xs : List Entry). get_or xs at e) (sym split) ∙ get_or_at (fin.entries k.cells) e es e at refl in
      let inside : IsInside g e.0 = subst (λ (x : Entry). IsInside g x.0) here (entry_inside g at e is within) in
      let word : e.1 < 2 ^ 64 = subst (λ (x : Entry). x.1 < 2 ^ 64) here (entry_word g at e is within) in
      let row_in = inside.0 in let column_in = inside.1 in
      let rs = is.rows_small in let cs = is.columns_small in
      let small : IsSmall e = record { row = omega arith; column = omega arith; word = word } in
      let sorted = prefix_sorted (fin.entries k.cells) es e (ap (fin.is_sorted pos_cmp) split ∙ entries_ascend g.cells) in
      let behind = entries-insert_last k.cells e.0 e.1 sorted in
      let none = get-last k.cells e.0 e.1 sorted in
      let next : Grid = record k { cells = fin.insert k.cells e.0 e.1 } in
      let fields = fields_for e small in
      let line_is : lines (entry_lines (e ∷ es)) ≡ line_for e ∷ lines (entry_lines es) =
      ap lines (cut_line (decimal (e.0.0 + 1)) (decimal (e.0.1 + 1)) (value_text e.1) (entry_lines es))
      ∙ lines_three (decimal (e.0.0 + 1)) (decimal (e.0.1 + 1)) (value_text e.1) (entry_lines es) fields in
      let read = entry_read text (entry_lines (e ∷ es)) (entry_lines es) general s k next n n (n + 1) given (line_for e) (found e) h (omega arith)
      (passes_none (entry_lines (e ∷ es)) (line_for e ∷ lines (entry_lines es)) n line_is) refl
      (not_skipped (decimal (e.0.0 + 1)) (decimal (e.0.1 + 1)) (value_text e.1) fields (decimal_starts (e.0.0 + 1) (omega arith)))
      (length_three (decimal (e.0.0 + 1)) (decimal (e.0.1 + 1)) (value_text e.1) (few_digits (e.0.0 + 1) (omega arith)) (few_digits (e.0.1 + 1) (omega arith)) (value_length e.1 word))
      (answer_for s e (omega arith) (omega arith) word ∙ ap (entry_answer s) (sym (words_for e small)))
      (ap (λ o. is_some o || false) none) refl in
      rest_read es next (n + 1) (given + 1) (ap (λ (xs : List Entry). xs ++ es) behind ∙ append_assoc (fin.entries k.cells) (e ∷ []) es ∙ split)
      (let b = ap length behind in omega (arith, length-append (fin.entries k.cells) (e ∷ []))) read

-- ---- the whole

size_fields : (r c n : ℕ) → r ≤ limit → c ≤ limit → n ≤ limit → AreFields (decimal r) (decimal c) (decimal n)
size_fields r c n x y z =
    record {
      a_some = decimal_nonempty r (omega arith);
      b_some = decimal_nonempty c (omega arith);
      c_some = decimal_nonempty n (omega arith);
      a_above = decimal_above r (omega arith);
      b_above = decimal_above c (omega arith);
      c_above = decimal_above n (omega arith);
    }

abbrev size_of_grid : Grid → Size
size_of_grid g = record { rows = g.rows; columns = g.columns; entries = fin.len g.cells }

size_answered : (g : Grid) → IsGrid g → Ok (size_of_grid g) ≡ size_answer false (size_words (words (three (decimal g.rows) (decimal g.columns) (decimal (fin.len g.cells)))))
size_answered g h =
    let r = h.rows_small in let c = h.columns_small in let n = h.entries_small in
    rw (
      words_three (decimal g.rows) (decimal g.columns) (decimal (fin.len g.cells)) (size_fields g.rows g.columns (fin.len g.cells) r c n),
      number-decimal g.rows (omega arith),
      number-decimal g.columns (omega arith),
      number-decimal (fin.len g.cells) (omega arith),
      le-ltb limit g.rows r,
      le-ltb limit g.columns c,
      le-ltb limit (fin.len g.cells) n,
    ) refl

abbrev entries_text : Grid → List ℕ
entries_text g = entry_lines (fin.entries g.cells)

abbrev sizes_text : Grid → List ℕ
sizes_text g = three (decimal g.rows) (decimal g.columns) (decimal (fin.len g.cells)) ++ 10 ∷ entries_text g

text_parts : (g : Grid) → canonical_text g ≡ first_line ++ 10 ∷ sizes_text g
unfolding canonical_text
text_parts g =
    append_assoc banner (size_line g.rows g.columns (fin.len g.cells)) (entries_text g)
    ∙ ap (λ xs. banner ++ xs) (cut_line (decimal g.rows) (decimal g.columns) (decimal (fin.len g.cells)) (entries_text g))
    ∙ append_assoc first_line (10 ∷ []) (sizes_text g)

abbrev nothing : Grid → Grid
nothing g = record { rows = g.rows; columns = g.columns; cells = fin.empty }

pub text_of_grid : (g : Grid) → IsGrid g → IsTextOf (canonical_text g) g
text_of_grid g h =
    let text = canonical_text g in
    let r = h.rows_small in let c = h.columns_small in let n = h.entries_small in
    let fields = size_fields g.rows g.columns (fin.len g.cells) r c n in
    let line = three (decimal g.rows) (decimal g.columns) (decimal (fin.len g.cells)) in
    let first : lines text ≡ first_line ∷ lines (sizes_text g) = ap lines (text_parts g) ∙ lines_before first_line (sizes_text g) refl in
    let begin : At (lines text) general [] (lines (sizes_text g)) 1 = begun text first_line (sizes_text g) general first refl refl in
    let there : At (lines text) general [] (line ∷ lines (entries_text g)) 1 =
    subst (λ (ls : List (List ℕ)). At (lines text) general [] ls 1) (lines_three (decimal g.rows) (decimal g.columns) (decimal (fin.len g.cells)) (entries_text g) fields) begin in
    let filled : Filled text general (size_of_grid g) (nothing g) (entries_text g) 2 0 =
    size_read text (entries_text g) general (size_of_grid g) line 1 2 there refl
    (not_skipped (decimal g.rows) (decimal g.columns) (decimal (fin.len g.cells)) fields (decimal_starts g.rows (omega arith)))
    (length_three (decimal g.rows) (decimal g.columns) (decimal (fin.len g.cells)) (few_digits g.rows (omega arith)) (few_digits g.columns (omega arith)) (let f = few_digits (fin.len g.cells) (omega arith) in omega arith))
    (size_answered g h) in
    let none : fin.entries (nothing g).cells ≡ [] = entries-empty in
    rest_read text (size_of_grid g) g h refl refl (fin.len-entries g.cells) (fin.entries g.cells) (nothing g) 2 0
    (ap (λ (xs : List Entry). xs ++ fin.entries g.cells) none) (sym (ap length none)) filled
