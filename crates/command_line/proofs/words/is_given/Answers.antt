use Rattle.std.proofs.Common.{◌≡◌, ◌∙◌, ℕ, List, Option, Some, None, Result, Ok, Err, Bool, true, false, is_some, refl, sym, ap}
use Rattle.std.specs.Str.Parse.{ParsesUnsigned, ExplainsUnsignedError, HasUnsignedDigitsIfOk}
use Rattle.clap.specs.Words.{TriesOne, found_of}
use Rattle.clap.proofs.WalkLemmas.{one_text-rows}
use Rattle.command_line.proofs.words.is_given.Goals as goal

-- a reading got a number, or a text that is none
abbrev got : {E : Type 0} → Result (Option ℕ) E → Bool
got (Ok None) = false
got (Ok (Some n)) = true
got (Err e) = true

got_if_there : {E : Type 0} (G : List ℕ → Result ℕ E → Type 0) (text : Option (List ℕ)) (reading : Result (Option ℕ) E)
    → (text ≡ None → reading ≡ Ok None) → ((t : List ℕ) → text ≡ Some t → TriesOne G t reading) → got reading ≡ is_some text
got_if_there G None reading none value = ap got (none refl)
got_if_there G (Some t) (Ok None) none value = absurd (value t refl)
got_if_there G (Some t) (Ok (Some n)) none value = refl
got_if_there G (Some t) (Err e) none value = refl

pub returns-in-Ok-None : goal.returns-in-Ok-None
returns-in-Ok-None c = sym (ap got (c.in-Ok-None.is ∙ ap Ok c.in-Ok-None.field-0-is))
    ∙ (got_if_there (λ bs x. ParsesUnsigned 64 10 bs x × ExplainsUnsignedError 10 bs x × HasUnsignedDigitsIfOk bs x) _
    c.try_get_one.result c.try_get_one.ensures.none c.try_get_one.ensures.value
    ∙ ap is_some (one_text-rows (found_of c.args.matches.now) c.args.name.now))

pub returns-in-Ok-Some : goal.returns-in-Ok-Some
returns-in-Ok-Some c = sym (ap got (c.in-Ok-Some.is ∙ ap Ok c.in-Ok-Some.field-0-is))
    ∙ (got_if_there (λ bs x. ParsesUnsigned 64 10 bs x × ExplainsUnsignedError 10 bs x × HasUnsignedDigitsIfOk bs x) _
    c.try_get_one.result c.try_get_one.ensures.none c.try_get_one.ensures.value
    ∙ ap is_some (one_text-rows (found_of c.args.matches.now) c.args.name.now))

pub returns-in-Err : goal.returns-in-Err
returns-in-Err c = sym (ap got c.in-Err.is)
    ∙ (got_if_there (λ bs x. ParsesUnsigned 64 10 bs x × ExplainsUnsignedError 10 bs x × HasUnsignedDigitsIfOk bs x) _
    c.try_get_one.result c.try_get_one.ensures.none c.try_get_one.ensures.value
    ∙ ap is_some (one_text-rows (found_of c.args.matches.now) c.args.name.now))
