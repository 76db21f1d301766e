use Rattle.std.proofs.Common.{◌≡◌, ◌≤◌, ◌<◌, ◌^◌, ◌∙◌, ℕ, List, Option, Some, None, Result, Ok, Err}
use Rattle.std.proofs.Common.{refl, sym, ap, subst, arith}
use Rattle.std.specs.Str.Parse.{ParsesUnsigned, ExplainsUnsignedError, HasUnsignedDigitsIfOk}
use Rattle.clap.specs.Words.{found_of, one_of, one_text, rows_of}
use Rattle.clap.specs.Matches.{ReadsOne}
use Rattle.clap.specs.declared.parser.matches.ArgMatches.{ArgMatches}
use Rattle.clap.proofs.WalkLemmas.{one_text-rows}
use Rattle.command_line.specs.Words.{IsNumberOf}
use Rattle.command_line.proofs.words.number.Goals as goal
use Rattle.command_line.proofs.words.number.Goals.{else-least-number-via-else-least-number}
use Rattle.command_line.proofs.words.number.Goals.{else-least-number-via-then-least-number+else-number-most}

abbrev IsRead : {E : Type 0} → (List ℕ → Result ℕ E → Type 0) → Option (List ℕ) → Option ℕ → Type 0
IsRead G o r = (o ≡ None → r ≡ None) × ((t : List ℕ) → o ≡ Some t → ReadsOne G t r)

abbrev IsParser : {E : Type 0} → (List ℕ → Result ℕ E → Type 0) → Type 0
IsParser {E} G = (t : List ℕ) (x : Result ℕ E) → G t x → ParsesUnsigned {E = E} 64 10 t x

-- a number that was read from a text is the number of that text
read_number : {E : Type 0} (G : List ℕ → Result ℕ E → Type 0) (o : Option (List ℕ)) (r : Option ℕ) (n : ℕ)
    → IsRead G o r → IsParser G → r ≡ Some n → IsNumberOf o n
read_number G None r n read parses is = absurd (let e = read.0 refl in cc)
read_number G (Some t) r n read parses is =
    let p = parses t (Ok n) (subst (ReadsOne G t) is (read.1 t refl)) in
    (p.0.0, p.1)

-- the number of a text is read from it
number_read : {E : Type 0} (G : List ℕ → Result ℕ E → Type 0) (o : Option (List ℕ)) (r : Option ℕ) (n : ℕ)
    → IsRead G o r → IsParser G → IsNumberOf o n → n < 2 ^ 64 → r ≡ Some n
number_read G None r n read parses is fits = absurd is
number_read G (Some t) (Some m) n read parses is fits =
    let p = parses t (Ok m) (read.1 t refl) in
    ap Some (p.1 ∙ sym is.1)
number_read G (Some t) None n read parses is fits =
    let g = read.1 t refl in
    absurd (parses t (Err g.0) g.1 (is.0, subst (λ k. k < 2 ^ 64) is.1 fits))

module _ {E : Type 0} {G : List ℕ → Result ℕ E → Type 0} (m : ArgMatches) (id : List ℕ) (r : Option ℕ) where
  read_from : (n : ℕ) → IsRead G (one_text (found_of m) id) r → IsParser G → r ≡ Some n
      → IsNumberOf (one_of id (rows_of (found_of m))) n
  read_from n read parses is = subst (λ (o : Option (List ℕ)). IsNumberOf o n) (one_text-rows (found_of m) id)
      (read_number G (one_text (found_of m) id) r n read parses is)

  found_in : (most n : ℕ) → IsRead G (one_text (found_of m) id) r → IsParser G
      → IsNumberOf (one_of id (rows_of (found_of m))) n → n ≤ most → most < 2 ^ 64 → r ≡ Some n
  found_in most n read parses is low high = number_read G (one_text (found_of m) id) r n read parses
      (subst (λ (o : Option (List ℕ)). IsNumberOf o n) (sym (one_text-rows (found_of m) id)) is) (omega arith)

pub returns-then-number-most-clause-given : goal.returns-then-number-most-clause-given
returns-then-number-most-clause-given c = (
  omega arith,
  omega arith,
  read_from {G = λ bs x. ParsesUnsigned 64 10 bs x × ExplainsUnsignedError 10 bs x × HasUnsignedDigitsIfOk bs x}
      c.args.matches.now c.args.name.now c.get_one.result c.in_ok-number.number
      (c.get_one.ensures.none, c.get_one.ensures.value) (λ t x g. g.0) c.in_ok-number.was,
)

pub returns-then-number-most-clause-taken : goal.returns-then-number-most-clause-taken
returns-then-number-most-clause-taken c n is low high = sym c.in_ok-number.was
    ∙ found_in {G = λ bs x. ParsesUnsigned 64 10 bs x × ExplainsUnsignedError 10 bs x × HasUnsignedDigitsIfOk bs x}
    c.args.matches.now c.args.name.now c.get_one.result c.args.most n
    (c.get_one.ensures.none, c.get_one.ensures.value) (λ t x g. g.0) is high c.ranges.most.fits

pub returns-in_err-number-clause-taken : goal.returns-in_err-number-clause-taken
returns-in_err-number-clause-taken c n is low high =
    let was = c.in_err-number.was in
    let found : c.get_one.result ≡ Some n =
    found_in {G = λ bs x. ParsesUnsigned 64 10 bs x × ExplainsUnsignedError 10 bs x × HasUnsignedDigitsIfOk bs x}
    c.args.matches.now c.args.name.now c.get_one.result c.args.most n
    (c.get_one.ensures.none, c.get_one.ensures.value) (λ t x g. g.0) is high c.ranges.most.fits in
    absurd (let e = sym was ∙ found in cc)

pub returns-else-least-number-clause-taken : goal.returns-else-least-number-clause-taken
returns-else-least-number-clause-taken c n is low high =
    let was = c.in_ok-number.was in
    let found : c.get_one.result ≡ Some n =
    found_in {G = λ bs x. ParsesUnsigned 64 10 bs x × ExplainsUnsignedError 10 bs x × HasUnsignedDigitsIfOk bs x}
    c.args.matches.now c.args.name.now c.get_one.result c.args.most n
    (c.get_one.ensures.none, c.get_one.ensures.value) (λ t x g. g.0) is high c.ranges.most.fits in
    let same : c.in_ok-number.number ≡ n = let e = sym was ∙ found in cc in
    elim c.else-least-number.branch [
      | else-least-number-via-then-least-number+else-number-most w ↦ absurd (let e = same in omega arith)
      | else-least-number-via-else-least-number w ↦ absurd (let e = same in omega arith)
    ]
