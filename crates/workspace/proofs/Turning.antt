-- How commands make their turns.
use Rattle.std.proofs.Common.{◌≡◌, ◌≤◌, ◌<◌, ◌+◌, ℕ, true, List, [], ◌∷◌, ◌++◌, length, inl, inr, refl, sym, ap, ◌∙◌, subst, arith}
use Rattle.csr_store.specs.Grid.{Grid, IsGrid}
use Rattle.std.specs.FinMap.{len}
use Rattle.std.specs.Str.Lines.{lines}
use Rattle.matrix_market.specs.Market.{IsTextOf}
use Rattle.matrix_market.specs.Refusal.{HasSizes}
use Rattle.command_text.specs.Words.{is_name, kind_of_word}
use Rattle.workspace.specs.State.{State, bound}
use Rattle.workspace.specs.Found.{job_found}
use Rattle.job_plan.specs.Job.{Job}
use Rattle.job_plan.specs.Price.{price_of, total_price}
use Rattle.job_plan.specs.Refusal.{answered}
use Rattle.job_plan.specs.declared.error.JobError.{JobError}
use Rattle.command_text.specs.Requests.{Submission, Header, MatrixHeader, OpHeader, AsmHeader, with_body}
use Rattle.command_text.specs.Replies.{matrix_text, refusal_text, queued_text}
use Rattle.command_text.specs.declared.rules.SessionRule.TheVariants.{MalformedName}
use Rattle.workspace.specs.Turn.{Turn, Refuses, MatrixTurn, TakesMatrix, TakesOperator, TakesDigits, TakesKind, SubmitTurn, Prices, Submits, TakesAssembly}
use Rattle.workspace.specs.Binds.{Binds, BindsMatrix, BindsText, BindsDigits, BindsAssembly, BindsLines}
use Rattle.workspace.specs.inner.Binds.{BindsCode}
use Rattle.hex.specs.Hex.{decode_of}
use Rattle.command_text.specs.Hexadecimal.{without_gaps}
use Rattle.bpf_insn.specs.declared.operands.Kind.{Kind}
use Rattle.step_budget.specs.Budget.{Deals}
use Rattle.step_purse.specs.declared.dealings.Dealing.{Dealing}
use Rattle.step_purse.specs.declared.dealings.Dealing.TheVariants.{Reserved}
use Rattle.step_purse.specs.declared.dealings.Reply.TheVariants.{Took, NotEnough}
use Rattle.command_text.specs.declared.refusal.Refusal.TheVariants as no
use Rattle.std.proofs.Common.{Ok, Err, Some, None, Option, Result, Bool, false, IsTrue, nat_lt}
use Rattle.std.proofs.lemmas.Bool.Decides.{nat_tests}
use Rattle.std.proofs.lemmas.List.{append-nil}
use Rattle.std.specs.Prelude.{MatchBool, ◌⊎◌}

-- a text of a matrix has the matrix's sizes
text_sizes : (text : List ℕ) (g : Grid) → IsTextOf text g → HasSizes text
text_sizes text g is =
    let all : length (lines text) ≡ length is.others + 1 = ap length is.lines_are ∙ omega arith in
    record {
      first = is.first;
      others = is.others;
      behind = [];
      cut = is.lines_are ∙ sym (append-nil (is.first ∷ is.others));
      banner = is.banner;
      banner_is = is.banner_is;
      size = is.size;
      size_is = is.size_is;
      faultless = λ k from to. is.faultless k from (omega (arith, all));
    }

-- a matrix was taken and bound
pub matrix_taken : (old new : State) (word name body reply : List ℕ) (g : Grid) → is_name word ≡ true → name ≡ word → IsGrid g → IsTextOf body g
    → reply ≡ matrix_text g.rows g.columns (len g.cells) → new ≡ record old { matrices = bound old.matrices name g } → BindsMatrix old word body reply new
matrix_taken old new word name body reply g named same is text r n =
    rw named (inr (inl (g, is, text, refl, r, n ∙ ap (λ t. record old { matrices = bound old.matrices t g }) same)))

-- there was no memory for the matrix of a text
pub matrix_memory : (old new : State) (word body reply : List ℕ) (g : Grid) → is_name word ≡ true → IsTextOf body g → reply ≡ refusal_text no.Memory → new ≡ old
    → BindsMatrix old word body reply new
matrix_memory old new word body reply g named text r n = rw named (inl (text_sizes body g text, (refl, r, n)))

total_more : (js : List Job) (j : Job) → total_price (js ++ j ∷ []) ≡ total_price js + price_of j
total_more [] j = omega arith
total_more (k ∷ js) j = omega (arith, total_more js j)

-- a job was put last
pub queue_grown : (old new : List Job) (j : Job) → new ≡ old ++ j ∷ [] → total_price new ≡ total_price old + price_of j
queue_grown old new j e = ap total_price e ∙ total_more old j

module _ {S : Type 0} (leads : S → Dealing → S → Type 0) (s t : S) (old new : State) (job : Job) (amount : ℕ) (reply : List ℕ)
    (is_price : amount ≡ price_of job) where
  pub submits_took : (taken position : ℕ) → leads s (Reserved amount (Took taken)) t → taken ≡ amount → position ≡ length old.queue + 1
      → reply ≡ queued_text position amount → new ≡ record old { queue = old.queue ++ job ∷ [] }
      → (ds : List Dealing) × Submits old job ds reply new × Deals leads s ds t
  submits_took taken position l e p r n = (
    Reserved amount (Took taken) ∷ [],
    inl (ap (λ k. Reserved amount (Took k) ∷ []) e ∙ ap (λ k. Reserved k (Took k) ∷ []) is_price, r ∙ (ap (λ k. queued_text k amount) p ∙ ap (queued_text (length old.queue + 1)) is_price), n),
    (t, l, refl),
  )

  pub submits_not : (left : ℕ) → leads s (Reserved amount (NotEnough left)) t → reply ≡ refusal_text (no.Budget amount left)
      → (ds : List Dealing) × Submits old job ds reply old × Deals leads s ds t
  submits_not left l r = (
    Reserved amount (NotEnough left) ∷ [],
    inr (left, ap (λ k. Reserved k (NotEnough left) ∷ []) is_price, r ∙ ap (λ k. refusal_text (no.Budget k left)) is_price, refl),
    (t, l, refl),
  )

-- what is owed after a job was put last
pub owed_more : (old new : List Job) (job : Job) (amount before after : ℕ) → new ≡ old ++ job ∷ [] → amount ≡ price_of job → after ≡ before + amount → total_price new + before ≡ total_price old + after
owed_more old new job amount before after e p o = omega (arith, queue_grown old new job e)

-- what `answered` says of a job that was priced, and of one that was not
answered_right : (job kept : Job) (fault : Option JobError) → Ok kept ≡ answered job fault → (fault ≡ None) × (kept ≡ job)
answered_right job kept None e = (refl, cc)
answered_right job kept (Some fault) e = absurd (cc)

abbrev error_of : JobError → Result Job (Job × JobError) → JobError
error_of other (Ok job) = other
error_of other (Err refused) = refused.1

answered_wrong : (job back : Job) (named : JobError) (fault : Option JobError) → Err (back, named) ≡ answered job fault → fault ≡ Some named
answered_wrong job back named None e = absurd (cc)
answered_wrong job back named (Some fault) e = ap Some (sym (ap (error_of named) e))

pub answered_named : (job kept : Job) (fault : Option JobError) → Ok kept ≡ answered job fault → length job.output ≤ 32 → length kept.output ≤ 32
answered_named job kept fault e n = subst (λ (j : Job). length j.output ≤ 32) (sym (answered_right job kept fault e).1) n

pub priced_right : (old new : State) (job kept : Job) (ds : List Dealing) (reply : List ℕ) (fault : Option JobError) → Ok kept ≡ answered job fault
    → Submits old kept ds reply new → Prices old job fault ds reply new
priced_right old new job kept ds reply fault e s =
    let right = answered_right job kept fault e in
    rw right.0 (subst (λ j. Submits old j ds reply new) right.1 s)

pub priced_wrong : (old : State) (job back : Job) (named : JobError) (reply : List ℕ) (fault : Option JobError) → Err (back, named) ≡ answered job fault
    → reply ≡ refusal_text (no.Job named) → Prices old job fault [] reply old
priced_wrong old job back named reply fault e r = rw (answered_wrong job back named fault e) (refl, r, refl)

-- a submission whose job was found, where there is no room
pub submit_full : (old : State) (s : Submission) (job : Job) (r : Bool) (reply : List ℕ) → Some job ≡ job_found old s
    → (length old.queue < 64 → IsTrue r) → r ≡ false → reply ≡ refusal_text no.QueueFull → SubmitTurn old s [] reply old
submit_full old s job r reply found room is said =
    let full : nat_lt (length old.queue) 64 ≡ false = not_below (length old.queue) r room is in
    rw (sym found, full) (refl, said, refl)
  where
    not_below : (n : ℕ) (r : Bool) → (n < 64 → IsTrue r) → r ≡ false → nat_lt n 64 ≡ false
    not_below n r room is = elim (nat_lt n 64) as (λ x. nat_lt n 64 ≡ x → x ≡ false) [
      | true ↦ λ e. let bad : false ≡ true = subst IsTrue is (room (grind (arith, nat_tests))) in absurd (cc)
      | false ↦ λ e. refl
    ] refl

-- an operator's code was taken, of the kind and under the name that the words say
pub operator_taken : (old new : State) (word kind_word name body code reply : List ℕ) (kind : Kind) → Some kind ≡ kind_of_word kind_word → is_name word ≡ true → name ≡ word → decode_of (without_gaps body) ≡ Ok code
    → BindsCode old name kind code reply new → BindsDigits old word (kind_of_word kind_word) body reply new
operator_taken old new word kind_word name body code reply kind k n e d b =
    elim b [
      | inl w ↦ rw (sym k, n) (inl w.2)
      | inr w ↦ rw (sym k, n) (inr (rw d (subst (λ x. TakesOperator old x kind code [] reply new) e w)))
    ]

-- an assembly text was taken, of the kind and under the name that the words say
pub assembly_taken : (old new : State) (word kind_word name body reply : List ℕ) (kind : Kind) → Some kind ≡ kind_of_word kind_word → is_name word ≡ true → name ≡ word
    → BindsAssembly old name kind body reply new → BindsLines old word (kind_of_word kind_word) body reply new
assembly_taken old new word kind_word name body reply kind k n e b =
    rw (sym k, n) (subst (λ x. BindsAssembly old x kind body reply new) e b)

-- ---- what binds a name makes its turn

module _ (old new : State) (name body reply : List ℕ) where
  abbrev refused_memory : Type 0
  refused_memory = Refuses no.Memory old [] reply new

  abbrev malformed : Type 0
  malformed = Refuses (no.Session MalformedName) old [] reply new

  matrix_turn : BindsMatrix old name body reply new → MatrixTurn old name body [] reply new
  matrix_turn b =
      elim (is_name name) as (λ v. MatchBool v (BindsText old name body reply new) malformed → refused_memory ⊎ MatchBool v (TakesMatrix old name body [] reply new) malformed) [
        | true ↦ λ x. elim x [
          | inl w ↦ inl w.1
          | inr w ↦ inr w
        ]
        | false ↦ λ x. inr x
      ] b

  digits_turn : (kind : Option Kind) → BindsDigits old name kind body reply new → refused_memory
      ⊎ TakesKind old name kind (λ (k : Kind). TakesDigits old name k (decode_of (without_gaps body))) [] reply new
  digits_turn None b = inr b
  digits_turn (Some kind) b =
      let taken = TakesDigits old name kind (decode_of (without_gaps body)) [] reply new in
      elim (is_name name) as (λ v. MatchBool v (refused_memory ⊎ taken) malformed → refused_memory ⊎ MatchBool v taken malformed) [
        | true ↦ λ x. x
        | false ↦ λ x. inr x
      ] b

  lines_turn : (kind : Option Kind) → BindsLines old name kind body reply new → refused_memory
      ⊎ TakesKind old name kind (λ (k : Kind). TakesAssembly old name k body) [] reply new
  lines_turn None b = inr b
  lines_turn (Some kind) b =
      elim (is_name name) as (λ v. MatchBool v (BindsAssembly old name kind body reply new) malformed → refused_memory ⊎ MatchBool v (TakesAssembly old name kind body [] reply new) malformed) [
        | true ↦ λ x. elim x [
          | inl w ↦ inl w.2
          | inr w ↦ inr w
        ]
        | false ↦ λ x. inr x
      ] b

pub binds_turn : (old new : State) (header : Header) (body reply : List ℕ) → Binds old header body reply new → Turn old (with_body header body) [] reply new
binds_turn old new (MatrixHeader name) body reply b = matrix_turn old new name body reply b
binds_turn old new (OpHeader name kind) body reply b = digits_turn old new name body reply (kind_of_word kind) b
binds_turn old new (AsmHeader name kind) body reply b = lines_turn old new name body reply (kind_of_word kind) b
