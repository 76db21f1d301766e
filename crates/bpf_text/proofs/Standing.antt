-- Lines without fault, put together and cut.
use Rattle.std.proofs.Common.{◌≡◌, ◌≤◌, ◌+◌, ℕ, Bool, true, false, cond, List, [], ◌∷◌, ◌++◌, length, filter, refl, ap, ◌∙◌, subst, arith}
use Rattle.std.specs.List.{AllByRecursion}
use Rattle.std.proofs.lemmas.List.{append-nil}
use Rattle.bpf_insn.specs.declared.insn.Insn.{Insn}
use Rattle.bpf_insn.specs.Spelling.{Fits}
use Rattle.bpf_insn.specs.Program.{slot_count}
use Rattle.bpf_text.specs.declared.rule.AsmRule.{AsmRule}
use Rattle.bpf_text.specs.Lines.{is_statement}
use Rattle.bpf_text.specs.Text.{StandsFor, StandFor, IsShort, AreFaultless, Breaks}
use Rattle.bpf_text.proofs.Listings.{slot_count-append}
use Rattle.bpf_text.proofs.Breaking.{one_stands, stands_unbroken_few, skipped_unbroken}

pub all-append : {X : Type 0} (P : X → Type 0) (xs ys : List X) → AllByRecursion P xs → AllByRecursion P ys → AllByRecursion P (xs ++ ys)
all-append P [] ys p q = q
all-append P (x ∷ xs) ys p q = (p.0, all-append P xs ys p.1 q)

all-behind : {X : Type 0} (P : X → Type 0) (xs ys : List X) → AllByRecursion P (xs ++ ys) → AllByRecursion P ys
all-behind P [] ys p = p
all-behind P (x ∷ xs) ys p = all-behind P xs ys p.1

pub filter-append : {X : Type 0} (p : X → Bool) (xs ys : List X) → filter p (xs ++ ys) ≡ filter p xs ++ filter p ys
filter-append p [] ys = refl
filter-append p (x ∷ xs) ys =
    elim (p x) as (λ t. cond t (x ∷ filter p (xs ++ ys)) (filter p (xs ++ ys)) ≡ cond t (x ∷ filter p xs) (filter p xs) ++ filter p ys) [
      | true ↦ ap (λ zs. x ∷ zs) (filter-append p xs ys)
      | false ↦ filter-append p xs ys
    ]

pub stand-append : (xs ys : List (List ℕ)) (is js : List Insn) → StandFor xs is → StandFor ys js → StandFor (xs ++ ys) (is ++ js)
stand-append [] ys [] js s t = t
stand-append [] ys (i ∷ is) js s t = absurd s
stand-append (x ∷ xs) ys [] js s t = absurd s
stand-append (x ∷ xs) ys (i ∷ is) js s t = (s.0, stand-append xs ys is js s.1 t)

pub stand_split : (xs ys : List (List ℕ)) (is : List Insn) → StandFor (xs ++ ys) is → (a : List Insn) × (b : List Insn) × (is ≡ a ++ b) × StandFor xs a × StandFor ys b
stand_split [] ys is s = ([], is, refl, tt, s)
stand_split (x ∷ xs) ys [] s = absurd s
stand_split (x ∷ xs) ys (i ∷ is) s = let r = stand_split xs ys is s.1 in (i ∷ r.0, r.1, ap (λ js. i ∷ js) r.2, (s.0, r.3), r.4)

pub stand_fits : (ls : List (List ℕ)) (is : List Insn) → StandFor ls is → AllByRecursion Fits is
stand_fits [] [] s = tt
stand_fits [] (i ∷ is) s = absurd s
stand_fits (l ∷ ls) [] s = absurd s
stand_fits (l ∷ ls) (i ∷ is) s = let first = s.0 in (first.named.fits, stand_fits ls is s.1)

pub stand_unique : (ls : List (List ℕ)) (is js : List Insn) → StandFor ls is → StandFor ls js → is ≡ js
stand_unique [] [] [] s t = refl
stand_unique [] [] (j ∷ js) s t = absurd t
stand_unique [] (i ∷ is) js s t = absurd s
stand_unique (l ∷ ls) [] js s t = absurd s
stand_unique (l ∷ ls) (i ∷ is) [] s t = absurd t
stand_unique (l ∷ ls) (i ∷ is) (j ∷ js) s t = (λ k. one_stands l i j s.0 t.0 k ∷ stand_unique ls is js s.1 t.1 k)

pub faultless_unique : (ls : List (List ℕ)) (is js : List Insn) → AreFaultless ls is → AreFaultless ls js → is ≡ js
faultless_unique ls is js f g = stand_unique (filter is_statement ls) is js f.stand g.stand

-- one line more
pub faultless_skipped : (ls : List (List ℕ)) (l : List ℕ) (is : List Insn) → AreFaultless ls is → length l ≤ 1024 → is_statement l ≡ false → AreFaultless (ls ++ l ∷ []) (is ++ [])
faultless_skipped ls l is f short skip =
    let same : is ++ [] ≡ is = append-nil is in
    let lines : filter is_statement (ls ++ l ∷ []) ≡ filter is_statement ls = filter-append is_statement ls (l ∷ []) ∙ (rw skip (append-nil (filter is_statement ls))) in
    record {
      short = all-append IsShort ls (l ∷ []) f.short (short, tt);
      stand = rw (same, lines) f.stand;
      few = rw same f.few;
    }

pub faultless_more : (ls : List (List ℕ)) (l : List ℕ) (is : List Insn) (i : Insn) → AreFaultless ls is → length l ≤ 1024 → StandsFor l i → slot_count (is ++ i ∷ []) ≤ 4096 → AreFaultless (ls ++ l ∷ []) (is ++ i ∷ [])
faultless_more ls l is i f short s few =
    let here = s.statement in
    let one : filter is_statement (l ∷ []) ≡ l ∷ [] = rw here refl in
    let lines : filter is_statement (ls ++ l ∷ []) ≡ filter is_statement ls ++ l ∷ [] = filter-append is_statement ls (l ∷ []) ∙ ap (λ ms. filter is_statement ls ++ ms) one in
    record {
      short = all-append IsShort ls (l ∷ []) f.short (short, tt);
      stand = rw lines (stand-append (filter is_statement ls) (l ∷ []) is (i ∷ []) f.stand (s, tt));
      few = few;
    }

-- among lines without fault each breaks nothing

unbroken_at : (ib : List Insn) (l : List ℕ) (m : List (List ℕ)) (c : List Insn) → length l ≤ 1024 → StandFor (filter is_statement (l ∷ m)) c → slot_count ib + slot_count c ≤ 4096
    → (t : Bool) → is_statement l ≡ t → (rule : AsmRule) → Breaks ib l rule → ⊥
unbroken_at ib l m c short s few false e rule b = skipped_unbroken ib l short e rule b
unbroken_at ib l m c short s few true e rule b = at c few (rw e at s)
  where
    at : (c : List Insn) → slot_count ib + slot_count c ≤ 4096 → StandFor (l ∷ filter is_statement m) c → ⊥
    at [] few s = absurd s
    at (i ∷ is) few s = stands_unbroken_few ib l i short s.0 (omega arith) rule b

pub unbroken : (before : List (List ℕ)) (l : List ℕ) (m : List (List ℕ)) (is ib : List Insn) → AreFaultless (before ++ l ∷ m) is → AreFaultless before ib → (rule : AsmRule) → Breaks ib l rule → ⊥
unbroken before l m is ib f g rule b =
    let cut = filter-append is_statement before (l ∷ m) in
    let r = stand_split (filter is_statement before) (filter is_statement (l ∷ m)) is (subst (λ (ls : List (List ℕ)). StandFor ls is) cut f.stand) in
    let same : r.0 ≡ ib = stand_unique (filter is_statement before) r.0 ib r.3 g.stand in
    let count = ap slot_count r.2 ∙ slot_count-append r.0 r.1 in
    let first : slot_count r.0 ≡ slot_count ib = ap slot_count same in
    let few = f.few in
    unbroken_at ib l m r.1 (all-behind IsShort before (l ∷ m) f.short).0 r.4 (omega arith) (is_statement l) refl rule b
