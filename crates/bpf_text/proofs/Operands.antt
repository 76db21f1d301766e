-- Operands of a line that say nothing, or are too many.
use Rattle.std.proofs.Common.{◌≡◌, ◌≤◌, ℕ, Bool, true, false, cond, List, [], ◌∷◌, ◌++◌, Option, None, Some, length, map, refl, sym, ap, ◌∙◌, arith}
use Rattle.std.specs.List.{slice_split, onto_first}
use Rattle.std.specs.Option.{MatchOption}
use Rattle.std.proofs.lemmas.List.{length-map}
use Rattle.std.proofs.lemmas.Option.{none-some}
use denote.Ref.{Bor}
use Rattle.bpf_text.specs.declared.argument.Argument.{Argument}
use Rattle.bpf_text.specs.Lines.{argument_in, is_comma, is_blank_text, operand_texts_of}

-- a text has a first part
pub first_part : (p : ℕ → Bool) (bs : List ℕ) → (x : List ℕ) × (xs : List (List ℕ)) × (slice_split p bs ≡ x ∷ xs)
first_part p [] = ([], [], refl)
first_part p (b ∷ bs) =
    let h = first_part p bs in
    elim (p b) as (λ t. (x : List ℕ) × (xs : List (List ℕ)) × (cond t ([] ∷ slice_split p bs) (onto_first b (slice_split p bs)) ≡ x ∷ xs)) [
      | true ↦ ([], slice_split p bs, refl)
      | false ↦ (b ∷ h.0, h.1, ap (onto_first b) h.2)
    ]

-- what was cut off is the first part
pub cut_off : (o : Option (Bor (List ℕ))) (parts : List (List ℕ)) (front : List ℕ) → MatchOption o (parts ≡ front ∷ []) (λ rest. parts ≡ front ∷ slice_split is_comma rest.now)
    → (more : List (List ℕ)) × (parts ≡ front ∷ more)
cut_off None parts front e = ([], e)
cut_off (Some rest) parts front e = (slice_split is_comma rest.now, e)

-- a text with a word is cut at its commas
pub texts_cut : (text : List ℕ) → is_blank_text text ≡ false → operand_texts_of text ≡ slice_split is_comma text
texts_cut text e = rw e refl

-- where one says nothing, not all do
pub says_nothing : (before : List (List ℕ)) (text : List ℕ) (behind parts : List (List ℕ)) (all : List Argument) → parts ≡ before ++ text ∷ behind → argument_in text ≡ None → map argument_in parts ≡ map (λ a. Some a) all → ⊥
says_nothing before text behind parts all e n f = at before all (ap (map argument_in) (sym e) ∙ f)
  where
    at : (xs : List (List ℕ)) (bs : List Argument) → map argument_in (xs ++ text ∷ behind) ≡ map (λ a. Some a) bs → ⊥
    at [] [] g = cc
    at [] (a ∷ bs) g = none-some a (sym n ∙ cc)
    at (x ∷ xs) [] g = cc
    at (x ∷ xs) (a ∷ bs) g = at xs bs (cc)

-- four are too many
pub too_many : (a b c d : List ℕ) (more parts : List (List ℕ)) (all : List Argument) → parts ≡ a ∷ b ∷ c ∷ d ∷ more → length all ≤ 3 → map argument_in parts ≡ map (λ x. Some x) all → ⊥
too_many a b c d more parts all e l f =
    let long = ap length (ap (map argument_in) (sym e) ∙ f) in
    let count : length (map (λ x. Some x) all) ≡ length all = simp length-map in
    let four : length (map argument_in (a ∷ b ∷ c ∷ d ∷ more)) ≡ length (a ∷ b ∷ c ∷ d ∷ more) = simp length-map in
    omega arith
