-- The first line of a text.
use Rattle.std.proofs.Common.{◌≡◌, ◌<◌, ◌+◌, ℕ, Bool, true, List, [], ◌∷◌, length, take, drop, get_or, eqb}
use Rattle.std.proofs.Common.{refl, ap, ◌∙◌, arith}
use Rattle.std.proofs.Math.Dec.{eqb-suc-zero}
use Rattle.std.proofs.lemmas.List.Splits.{length-slice_split}
use Rattle.std.specs.List.{slice_split}
use Rattle.std.specs.Str.Lines.{lines, lines_of_parts, strip_carriage_return}
use Rattle.text_words.proofs.Parts.{NoneBefore, part_at, one_part}

abbrev pub is_feed : ℕ → Bool
is_feed b = eqb b 10

-- a part that others follow ends with an LF
others_follow : (part : List ℕ) (parts : List (List ℕ)) → 0 < length parts
    → lines_of_parts (part ∷ parts) ≡ strip_carriage_return part ∷ lines_of_parts parts
others_follow part [] some = absurd (omega arith)
others_follow part (next ∷ more) some = refl

pub lines_of_cut : (text part rest : List ℕ) → slice_split is_feed text ≡ part ∷ slice_split is_feed rest
    → lines text ≡ strip_carriage_return part ∷ lines rest
lines_of_cut text part rest cut =
    ap lines_of_parts cut ∙ others_follow part (slice_split is_feed rest) (omega (arith, length-slice_split is_feed rest))

pub line_before : (text : List ℕ) (i : ℕ) → i < length text → NoneBefore is_feed text i
    → is_feed (get_or text i 0) ≡ true
    → lines text ≡ strip_carriage_return (take i text) ∷ lines (drop (i + 1) text)
line_before text i l before here =
    lines_of_cut text (take i text) (drop (i + 1) text) (part_at is_feed text i l before here)

pub one_line : (text : List ℕ) → 0 < length text → NoneBefore is_feed text (length text) → lines text ≡ text ∷ []
one_line [] some none = absurd (omega arith)
one_line (b ∷ bs) some none = ap lines_of_parts (one_part is_feed (b ∷ bs) none) ∙ rw (eqb-suc-zero (length bs)) refl
