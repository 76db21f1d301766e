-- What a command line asks for (this project's own).
use Rattle.std.specs.Prelude.{ℕ, nat_lt, if◌then◌else◌, List, [], ◌∷◌, codes}
use Rattle.std.specs.Prelude.{Option, None, Some, Result, Ok, Err, ok_or}
use Rattle.std.specs.Option.{option_map, option_or}
use Rattle.std.specs.Str.{bytes_eq}
use Rattle.matrix_market.specs.Values.{value_word}
use Rattle.job_plan.specs.Form.{found, mask_found}
use Rattle.job_plan.specs.declared.form.Form as forms
use Rattle.job_plan.specs.declared.form.Form.TheVariants.{Apply, Select, Union, Both, Product, Reduce}
use Rattle.command_text.specs.Words.{is_name, length_of}
use Rattle.command_text.specs.declared.rules.SessionRule.{SessionRule}
use Rattle.command_text.specs.declared.rules.SessionRule.TheVariants.{UnknownCommand, MalformedWords, MalformedName}
use Rattle.command_text.specs.declared.rules.FatalRule.{FatalRule}
use Rattle.command_text.specs.declared.rules.FatalRule.TheVariants as fatal

-- a form of the names of operators and matrices
abbrev pub Form : Type 0
Form = forms.Form (List ℕ) (List ℕ)

-- a job that is to be queued: the name that it will bind, and the mask's name, if it has one
pub record Submission : Type 0 where
  pub output : List ℕ
  pub form : Form
  pub mask : Option (List ℕ)

-- A command, with its words and its body:
pub data Command : Type 0 where
  Blank : Command  -- a line without words
  Matrix : (name body : List ℕ) → Command
  Op : (name kind body : List ℕ) → Command
  Asm : (name kind body : List ℕ) → Command
  Dis : (name : List ℕ) → Command
  Submit : Submission → Command
  Run : Command
  Show : (name : List ℕ) → Command
  Types : (name : List ℕ) → Command
  Budget : Command
  Quit : Command
  Refuse : SessionRule → Command  -- a line that is refused whatever the session holds
  Break : FatalRule → Command  -- a line or a body that is refused, and after which no session can go on

-- A command that waits for its body:
pub data Header : Type 0 where
  MatrixHeader : (name : List ℕ) → Header
  OpHeader : (name kind : List ℕ) → Header
  AsmHeader : (name kind : List ℕ) → Header

abbrev pub with_body : Header → List ℕ → Command
with_body (MatrixHeader name) body = Matrix name body
with_body (OpHeader name kind) body = Op name kind body
with_body (AsmHeader name kind) body = Asm name kind body

-- What a line asks for:
pub data Request : Type 0 where
  Plain : Command → Request  -- a command without a body
  Body : Header → (len : ℕ) → Request  -- a command whose body of so many bytes follows
  Fatal : FatalRule → Request  -- nothing that a session could go on after

-- ---- names

-- a word as a name, if it is one
abbrev pub named : List ℕ → Option (List ℕ)
named word = if is_name word then Some word else None

-- ---- commands with a body

-- the most bytes of a body
abbrev pub body_limit : Header → ℕ
body_limit (MatrixHeader name) = 268435456
body_limit (OpHeader name kind) = 262144
body_limit (AsmHeader name kind) = 262144

-- a body of this length is asked for
abbrev pub with_length : Header → Option ℕ → Request
with_length header None = Fatal fatal.MalformedWords
with_length header (Some len) = if nat_lt (body_limit header) len then Fatal fatal.BodyTooLong else Body header len

-- `matrix NAME LEN`
abbrev pub matrix_asked : List (List ℕ) → Request
matrix_asked (name ∷ len ∷ []) = with_length (MatrixHeader name) (length_of len)
matrix_asked _ = Fatal fatal.MalformedWords

-- `op NAME KIND LEN` and `asm NAME KIND LEN`
abbrev pub operator_asked : (List ℕ → List ℕ → Header) → List (List ℕ) → Request
operator_asked header (name ∷ kind ∷ len ∷ []) = with_length (header name kind) (length_of len)
operator_asked header _ = Fatal fatal.MalformedWords

-- ---- jobs

-- What stands behind the words of a form: nothing, or `mask M`. The names are still any words.
abbrev pub with_mask : List ℕ → Option Form → List (List ℕ) → Option Submission
with_mask output (Some form) [] = Some (record { output = output; form = form; mask = None })
with_mask output (Some form) (word ∷ mask ∷ []) =
    if bytes_eq word (codes "mask") then Some (record { output = output; form = form; mask = Some mask }) else None
with_mask output form rest = None

-- `apply OUT F A`
abbrev pub apply_words : List (List ℕ) → Option Submission
apply_words (out ∷ f ∷ a ∷ rest) = with_mask out (Some (Apply f None a)) rest
apply_words _ = None

-- `apply OUT F A THUNK`
abbrev pub thunk_words : List (List ℕ) → Option Submission
thunk_words (out ∷ f ∷ a ∷ thunk ∷ rest) = with_mask out (option_map (λ value. Apply f (Some value) a) (value_word thunk)) rest
thunk_words _ = None

-- `select OUT F A THUNK`
abbrev pub select_words : List (List ℕ) → Option Submission
select_words (out ∷ f ∷ a ∷ thunk ∷ rest) = with_mask out (option_map (λ value. Select f value a) (value_word thunk)) rest
select_words _ = None

-- `union OUT F A B` and `both OUT F A B`
abbrev pub pair_words : (List ℕ → List ℕ → List ℕ → Form) → List (List ℕ) → Option Submission
pair_words form (out ∷ f ∷ a ∷ b ∷ rest) = with_mask out (Some (form f a b)) rest
pair_words form _ = None

-- `product OUT ADD MUL A B`
abbrev pub product_words : List (List ℕ) → Option Submission
product_words (out ∷ add ∷ mul ∷ a ∷ b ∷ rest) = with_mask out (Some (Product add mul a b)) rest
product_words _ = None

-- `reduce OUT F A`
abbrev pub reduce_words : List (List ℕ) → Option Submission
reduce_words (out ∷ f ∷ a ∷ rest) = with_mask out (Some (Reduce f a)) rest
reduce_words _ = None

-- how the words behind a command of jobs are read
abbrev pub words_of : List ℕ → Option (List (List ℕ) → Option Submission)
words_of command =
    if bytes_eq command (codes "apply") then Some (λ words. option_or (apply_words words) (thunk_words words)) else
    (if bytes_eq command (codes "select") then Some select_words else
    (if bytes_eq command (codes "union") then Some (pair_words Union) else
    (if bytes_eq command (codes "both") then Some (pair_words Both) else
    (if bytes_eq command (codes "product") then Some product_words else
    (if bytes_eq command (codes "reduce") then Some reduce_words else None)))))

abbrev pub joined : Option (List ℕ) → Option Form → Option (Option (List ℕ)) → Option Submission
joined (Some output) (Some form) (Some mask) = Some (record { output = output; form = form; mask = mask })
joined (Some output) (Some form) None = None
joined (Some output) None mask = None
joined None form mask = None

-- the job, if each of its words is a name
abbrev pub job_named : Submission → Option Submission
job_named job = joined (named job.output) (found named named job.form) (mask_found named job.mask)

-- the words of a form, or another number of words, or a thunk that is no value
abbrev pub job_written : Option Submission → Result Command SessionRule
job_written None = Err MalformedWords
job_written (Some job) = ok_or (option_map Submit (job_named job)) MalformedName

abbrev pub job_read : Option (List (List ℕ) → Option Submission) → List (List ℕ) → Result Command SessionRule
job_read None words = Err UnknownCommand
job_read (Some read) words = job_written (read words)

abbrev pub job_asked : List ℕ → List (List ℕ) → Result Command SessionRule
job_asked command = job_read (words_of command)

-- ---- all commands

-- the command of the only word, if that is a name
abbrev pub of_name : (List ℕ → Command) → List (List ℕ) → Result Command SessionRule
of_name command (word ∷ []) = ok_or (option_map command (named word)) MalformedName
of_name command _ = Err MalformedWords

-- the command, if no word follows it
abbrev pub alone : Command → List (List ℕ) → Result Command SessionRule
alone command [] = Ok command
alone command _ = Err MalformedWords

-- what a command without a body asks for with the words behind its first
abbrev pub plain_asked : List ℕ → List (List ℕ) → Result Command SessionRule
plain_asked command words =
    if bytes_eq command (codes "dis") then of_name Dis words else
    (if bytes_eq command (codes "run") then alone Run words else
    (if bytes_eq command (codes "show") then of_name Show words else
    (if bytes_eq command (codes "types") then of_name Types words else
    (if bytes_eq command (codes "budget") then alone Budget words else
    (if bytes_eq command (codes "quit") then alone Quit words else job_asked command words)))))

abbrev pub plain : Result Command SessionRule → Request
plain (Ok command) = Plain command
plain (Err rule) = Plain (Refuse rule)

-- what the words of a line ask for: its first word alone tells the command
abbrev pub request : List (List ℕ) → Request
request [] = Plain Blank
request (command ∷ words) =
    if bytes_eq command (codes "matrix") then matrix_asked words else
    (if bytes_eq command (codes "op") then operator_asked OpHeader words else
    (if bytes_eq command (codes "asm") then operator_asked AsmHeader words else plain (plain_asked command words)))
