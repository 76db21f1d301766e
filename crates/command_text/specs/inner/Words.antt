-- What stands beside specs/Words.antt and specs/Requests.antt for this crate's own modules and proofs.
use Rattle.std.specs.Prelude.{ℕ, List, [], ◌∷◌, map, take, Option}
use Rattle.std.specs.Option.{option_map, option_or}
use Rattle.job_plan.specs.Form.{mapped}
use Rattle.job_plan.specs.declared.form.Form.TheVariants as forms
use Rattle.command_text.specs.Requests as is
use Rattle.command_text.specs.declared.line_words.LineWords.{LineWords}
use Rattle.command_text.specs.declared.submission.JobWords.{JobWords}
use Rattle.command_text.specs.declared.submission.Verb.{Verb}
use Rattle.command_text.specs.declared.submission.Verb.TheVariants as verb
use Rattle.command_text.specs.inner.Lent.{lent}

-- the words behind a command, as they were read
abbrev pub words_read : LineWords → List (List ℕ)
words_read line = map lent (take line.count line.words)

-- the words of a job, as they were read
abbrev pub words_of_job : JobWords → is.Submission
words_of_job job = record { output = job.output.now; form = mapped lent lent job.form; mask = option_map lent job.mask }

-- how the words behind a verb are read
abbrev pub words_of_verb : Verb → List (List ℕ) → Option is.Submission
words_of_verb verb.Apply words = option_or (is.apply_words words) (is.thunk_words words)
words_of_verb verb.Select words = is.select_words words
words_of_verb verb.Union words = is.pair_words forms.Union words
words_of_verb verb.Both words = is.pair_words forms.Both words
words_of_verb verb.Product words = is.product_words words
words_of_verb verb.Reduce words = is.reduce_words words

-- no word, or more than one
abbrev pub IsNotOne : List (List ℕ) → Type 0
IsNotOne [] = Unit {0}
IsNotOne (word ∷ []) = ⊥
IsNotOne (word ∷ next ∷ more) = Unit {0}

-- fewer than two words, or more
abbrev pub IsNotTwo : List (List ℕ) → Type 0
IsNotTwo (first ∷ second ∷ []) = ⊥
IsNotTwo _ = Unit {0}

-- fewer than three words, or more
abbrev pub IsNotThree : List (List ℕ) → Type 0
IsNotThree (first ∷ second ∷ third ∷ []) = ⊥
IsNotThree _ = Unit {0}
