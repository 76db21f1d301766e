-- A line with a CR at its end, and without one.
use Rattle.std.proofs.Common.{◌≡◌, ◌≤◌, ◌+◌, ◌-◌, ℕ, Bool, true, false, List, [], ◌∷◌, length, take, drop, slice_index, sym, ap, ◌∙◌, arith, eqb, ltb, cond, zero, suc, refl}
use Rattle.std.proofs.Math.Seq.{take-length}
use Rattle.std.proofs.lemmas.Bool.{le-ltb}
use Rattle.std.proofs.lemmas.List.{length-take}
use Rattle.std.specs.Str.Lines.{strip_carriage_return}
use Rattle.wire.specs.Lines.{At, Line, Over, cut_line, first, first_of}

-- it is a front part of the line
front_part : (line : List ℕ) → strip_carriage_return line ≡ take (length (strip_carriage_return line)) line
front_part line =
    elim (eqb (slice_index line (length line - 1)) 13) as (λ t. cond t (take (length line - 1) line) line
    ≡ take (length (cond t (take (length line - 1) line) line)) line) [
      | true ↦ let e : length (take (length line - 1) line) ≡ length line - 1 = omega (arith, length-take (length line - 1) line) in
          ap (λ k. take k line) (sym e)
      | false ↦ sym (take-length line)
    ]

short_part : (line : List ℕ) → length (strip_carriage_return line) ≤ length line
short_part line =
    let e = ap length (front_part line) in
    omega (arith, e, length-take (length (strip_carriage_return line)) line)

take_within : (k n : ℕ) (xs : List ℕ) → k ≤ n → take k (take n xs) ≡ take k xs
take_within zero n xs h = refl
take_within (suc k) zero xs h = absurd (omega arith)
take_within (suc k) (suc n) [] h = refl
take_within (suc k) (suc n) (x ∷ xs) h = ap (λ ys. x ∷ ys) (take_within k n xs (omega arith))

-- the line that ends before the first LF, in a text that is cut there
pub line_found : (ended : Bool) (bytes said : List ℕ) (n : ℕ) → said ≡ strip_carriage_return (take n bytes) → cut_line bytes ≡ At (take n bytes) (drop (n + 1) bytes) → length said ≤ 1024
    → (length said ≤ n) × (first ended bytes ≡ Line (take (length said) bytes) (drop (n + 1) bytes))
line_found ended bytes said n e cut few =
    let short : length said ≤ n = omega (arith, ap length e, short_part (take n bytes), length-take n bytes) in
    let front : strip_carriage_return (take n bytes) ≡ take (length said) bytes =
    front_part (take n bytes) ∙ (ap (λ k. take k (take n bytes)) (sym (ap length e)) ∙ take_within (length said) n bytes short) in
    let size : ltb 1024 (length (strip_carriage_return (take n bytes))) ≡ false = le-ltb 1024 (length (strip_carriage_return (take n bytes))) (omega (arith, ap length e)) in
    (short, ap (first_of ended bytes) cut ∙ (ap (λ t. cond t Over (Line (strip_carriage_return (take n bytes)) (drop (n + 1) bytes))) size ∙ ap (λ l. Line l (drop (n + 1) bytes)) front))
