-- Each amount that was taken is settled once, in order, or is still held.
use Rattle.std.proofs.Common.{◌≡◌, ℕ, Bool, true, false, List, [], ◌∷◌, ◌++◌, map, Option, None, Some, Ok, Err, MatchBool, ◌⊎◌, inl, inr, refl, sym, ap, ◌∙◌, append_assoc}
use Rattle.std.proofs.lemmas.List.{map-append}
use Rattle.std.specs.Prelude.{nat_lt, length}
use Rattle.hex.specs.Hex.{decode_of}
use Rattle.step_purse.specs.declared.dealings.Reply.TheVariants.{Took, NotEnough}
use Rattle.step_purse.specs.declared.dealings.Dealing.{Dealing}
use Rattle.step_purse.specs.declared.dealings.Dealing.TheVariants.{Reserved, Settled, Observed}
use Rattle.step_budget.specs.Budget.{amounts_taken, amounts_settled}
use Rattle.command_text.specs.Words.{is_name, kind_of_word}
use Rattle.command_text.specs.Hexadecimal.{without_gaps}
use Rattle.command_text.specs.Replies.{refusal_text}
use Rattle.command_text.specs.Requests.{Command, Blank, Matrix, Op, Asm, Dis, Submit, Run, Show, Types, Budget, Quit, Refuse, Break}
use Rattle.command_text.specs.declared.refusal.Refusal.{Refusal}
use Rattle.command_text.specs.declared.refusal.Refusal.TheVariants as no
use Rattle.command_text.specs.declared.rules.SessionRule.TheVariants.{MalformedName}
use Rattle.job_plan.specs.Job.{Job}
use Rattle.job_plan.specs.Price.{price_of}
use Rattle.job_plan.specs.Refusal.{job_fault}
use Rattle.job_plan.specs.declared.error.JobError.{JobError}
use Rattle.job_runner.specs.Batch as batch
use Rattle.job_runner.specs.Batch.{AreResultsOf}
use Rattle.workspace.specs.State.{State}
use Rattle.workspace.specs.Found.{job_found}
use Rattle.workspace.specs.Turn.{Turn, TakesMatrix, TakesOperator, TakesDigits, TakesKind, Submits, Prices, Finds, Tells, TakesProgram, TakesAssembly, RunTurn, BatchRefused, batch_refusal, Refuses, Replies, settled, charged, released}
use Rattle.bpf_insn.specs.declared.insn.Insn.{Insn}
use Rattle.bpf_insn.specs.declared.operands.Kind.{Kind}
use Rattle.session.specs.NextCommand.{NextCommand}
use Rattle.session.specs.Exchange.{IsLast, waiting, ending, stopping, going, leaving}
use Rattle.session.specs.declared.end.End.{End}
use Rattle.wire.proofs.Known.{append_nil}

pub taken-append : (ds es : List Dealing) → amounts_taken (ds ++ es) ≡ amounts_taken ds ++ amounts_taken es
taken-append [] es = refl
taken-append (Reserved amount (Took taken) ∷ ds) es = ap (λ xs. amount ∷ xs) (taken-append ds es)
taken-append (Reserved amount (NotEnough left) ∷ ds) es = taken-append ds es
taken-append (Settled amount spent ∷ ds) es = taken-append ds es
taken-append (Observed totals ∷ ds) es = taken-append ds es

pub settled-append : (ds es : List Dealing) → amounts_settled (ds ++ es) ≡ amounts_settled ds ++ amounts_settled es
settled-append [] es = refl
settled-append (Reserved amount reply ∷ ds) es = settled-append ds es
settled-append (Settled amount spent ∷ ds) es = ap (λ xs. amount ∷ xs) (settled-append ds es)
settled-append (Observed totals ∷ ds) es = settled-append ds es

pub settled-released : (jobs : List Job) → amounts_settled (released jobs) ≡ map price_of jobs
settled-released [] = refl
settled-released (j ∷ js) = ap (λ xs. price_of j ∷ xs) (settled-released js)

pub taken-released : (jobs : List Job) → amounts_taken (released jobs) ≡ []
taken-released [] = refl
taken-released (j ∷ js) = taken-released js

settled-settled : (jobs : List Job) (results : List batch.Result) → AreResultsOf jobs results → amounts_settled (settled jobs results) ≡ map price_of jobs
settled-settled [] results a = refl
settled-settled (j ∷ js) [] a = absurd a
settled-settled (j ∷ js) (e ∷ es) a = ap (λ xs. price_of j ∷ xs) (settled-settled js es a.1)

taken-settled : (jobs : List Job) (results : List batch.Result) → amounts_taken (settled jobs results) ≡ []
taken-settled [] results = refl
taken-settled (j ∷ js) [] = refl
taken-settled (j ∷ js) (e ∷ es) = taken-settled js es

settled-charged : (jobs : List Job) (spent : ℕ) → amounts_settled (charged jobs spent) ≡ map price_of jobs
settled-charged [] spent = refl
settled-charged (j ∷ js) spent = ap (λ xs. price_of j ∷ xs) (settled-charged js _)

taken-charged : (jobs : List Job) (spent : ℕ) → amounts_taken (charged jobs spent) ≡ []
taken-charged [] spent = refl
taken-charged (j ∷ js) spent = taken-charged js _

-- The prices that are held before, and what is taken, are what is settled, and the prices that are held after.
abbrev pub IsMatched : State → List Dealing → State → Type 0
IsMatched s ds t = map price_of s.queue ++ amounts_taken ds ≡ amounts_settled ds ++ map price_of t.queue

module _ (s t : State) (ds : List Dealing) where
  -- no call was made, and the jobs stay
  quiet : ds ≡ [] → t.queue ≡ s.queue → IsMatched s ds t
  quiet e q = rw (e, q) (append_nil (map price_of s.queue))

  said : (text reply : List ℕ) → Replies text s ds reply t → IsMatched s ds t
  said text reply h = quiet h.0 (ap (λ (x : State). x.queue) h.2)

  -- all prices are settled, and no job waits
  emptied : amounts_settled ds ≡ map price_of s.queue → amounts_taken ds ≡ [] → t.queue ≡ [] → IsMatched s ds t
  emptied a b q = rw (a, b, q) refl

  program_matched : (name : List ℕ) (program : List Insn) (reply : List ℕ) (kind : _) → TakesProgram s name kind program ds reply t → IsMatched s ds t
  program_matched name program reply kind h = elim h [
    | inl w ↦ quiet w.4 (ap (λ (x : State). x.queue) w.6)
    | inr w ↦ said _ reply w.2
  ]

  operator_matched : (name : List ℕ) (code reply : List ℕ) (kind : _) → TakesOperator s name kind code ds reply t → IsMatched s ds t
  operator_matched name code reply kind h = elim h [
    | inl w ↦ program_matched name w.0 reply kind w.2
    | inr w ↦ said _ reply w.2
  ]

  digits_matched : (name reply : List ℕ) (kind : _) (r : _) → TakesDigits s name kind r ds reply t → IsMatched s ds t
  digits_matched name reply kind (Err e) h = said _ reply h
  digits_matched name reply kind (Ok code) h = operator_matched name code reply kind h

  kind_matched : (name reply : List ℕ) (kind : Option Kind) (takes : Kind → List Dealing → List ℕ → State → Type 0)
      → ((k : Kind) → takes k ds reply t → IsMatched s ds t) → TakesKind s name kind takes ds reply t → IsMatched s ds t
  kind_matched name reply None takes matched h = said _ reply h
  kind_matched name reply (Some kind) takes matched h =
      elim (is_name name) as (λ v. MatchBool v (takes kind ds reply t) (Refuses (no.Session MalformedName) s ds reply t) → IsMatched s ds t) [
        | true ↦ λ w. matched kind w
        | false ↦ λ w. said _ reply w
      ] h

  assembly_matched : (name body reply : List ℕ) (kind : _) → TakesAssembly s name kind body ds reply t → IsMatched s ds t
  assembly_matched name body reply kind h = elim h [
    | inl w ↦ program_matched name w.0 reply kind w.2
    | inr w ↦ said _ reply w.2
  ]

  submits_matched : (job : Job) (reply : List ℕ) → Submits s job ds reply t → IsMatched s ds t
  submits_matched job reply h = elim h [
    | inl w ↦ let q : t.queue ≡ s.queue ++ job ∷ [] = ap (λ (x : State). x.queue) w.2 in rw (w.0, q) (sym (map-append price_of s.queue (job ∷ [])))
    | inr w ↦ let q : t.queue ≡ s.queue = ap (λ (x : State). x.queue) w.3 in rw (w.1, q) (append_nil (map price_of s.queue))
  ]

  prices_matched : (job : Job) (fault : Option JobError) (reply : List ℕ) → Prices s job fault ds reply t → IsMatched s ds t
  prices_matched job None reply h = submits_matched job reply h
  prices_matched job (Some fault) reply h = said _ reply h

  found_matched : (reply : List ℕ) (job : Option Job) → Finds s job ds reply t → IsMatched s ds t
  found_matched reply None h = said _ reply h
  found_matched reply (Some job) h =
      let full = Refuses no.QueueFull s ds reply t in
      elim (nat_lt (length s.queue) 64) as (λ v. MatchBool v (Refuses no.Memory s ds reply t ⊎ Prices s job (job_fault job) ds reply t) full → IsMatched s ds t) [
        | true ↦ λ w. elim w [
          | inl x ↦ said _ reply x
          | inr x ↦ prices_matched job (job_fault job) reply x
        ]
        | false ↦ λ w. said (refusal_text no.QueueFull) reply w
      ] h

  tells_matched : {V : Type 0} (text : V → List ℕ) (reply : List ℕ) (o : Option V) → Tells s o text ds reply t → IsMatched s ds t
  tells_matched text reply None h = said _ reply h
  tells_matched text reply (Some v) h = elim h [ inl w ↦ said _ reply w | inr w ↦ said _ reply w ]

  refused_matched : (refusal : Refusal) (spent : ℕ) (reply : List ℕ) → BatchRefused refusal spent s ds reply t → IsMatched s ds t
  refused_matched refusal spent reply w =
      emptied (ap amounts_settled w.0 ∙ settled-charged s.queue spent) (ap amounts_taken w.0 ∙ taken-charged s.queue spent) (ap (λ (x : State). x.queue) w.2)

  run_matched : (reply : List ℕ) → RunTurn s ds reply t → IsMatched s ds t
  run_matched reply h = elim h [
    | inl w ↦ emptied (ap amounts_settled w.3 ∙ settled-settled s.queue w.0 w.1) (ap amounts_taken w.3 ∙ taken-settled s.queue w.0) (ap (λ (x : State). x.queue) w.5)
    | inr v ↦ elim v [
      | inl w ↦ refused_matched (batch_refusal w.0 w.1) w.1 reply w.3
      | inr w ↦ refused_matched (no.BatchMemory 0) 0 reply w
    ]
  ]

  matrix_matched : (name body reply : List ℕ) → TakesMatrix s name body ds reply t → IsMatched s ds t
  matrix_matched name body reply h = elim h [
    | inl w ↦ quiet w.3 (ap (λ (x : State). x.queue) w.5)
    | inr w ↦ said _ reply w.3
  ]

  -- a turn
  pub turn_matched : (c : Command) (reply : List ℕ) → Turn s c ds reply t → IsMatched s ds t
  turn_matched Blank reply h = said _ reply h
  turn_matched (Matrix name body) reply h = elim h [
    | inl w ↦ said _ reply w
    | inr w ↦ elim (is_name name) as (λ v. MatchBool v (TakesMatrix s name body ds reply t) (Refuses (no.Session MalformedName) s ds reply t) → IsMatched s ds t) [
      | true ↦ λ x. matrix_matched name body reply x
      | false ↦ λ x. said _ reply x
    ] w
  ]
  turn_matched (Op name kind body) reply h = elim h [
    | inl w ↦ said _ reply w
    | inr w ↦ kind_matched name reply (kind_of_word kind) (λ (k : Kind). TakesDigits s name k (decode_of (without_gaps body)))
        (λ k x. digits_matched name reply k (decode_of (without_gaps body)) x) w
  ]
  turn_matched (Asm name kind body) reply h = elim h [
    | inl w ↦ said _ reply w
    | inr w ↦ kind_matched name reply (kind_of_word kind) (λ (k : Kind). TakesAssembly s name k body)
        (λ k x. assembly_matched name body reply k x) w
  ]
  turn_matched (Dis name) reply h = tells_matched _ reply (s.operators name) h
  turn_matched (Submit submission) reply h = found_matched reply (job_found s submission) h
  turn_matched Run reply h = run_matched reply h
  turn_matched (Show name) reply h = tells_matched _ reply (s.matrices name) h
  turn_matched (Types name) reply h = tells_matched _ reply (s.operators name) h
  turn_matched Budget reply h = let q : t.queue ≡ s.queue = ap (λ (x : State). x.queue) h.3 in rw (h.1, q) (append_nil (map price_of s.queue))
  turn_matched Quit reply h = said _ reply h
  turn_matched (Refuse rule) reply h = said _ reply h
  turn_matched (Break rule) reply h = said _ reply h

-- the last thing that is said
pub last_matched : (s t : State) (ds : List Dealing) (cut : Bool) (is : NextCommand) (text : List ℕ) (end : Option End) → IsLast cut is s ds text end t → IsMatched s ds t
last_matched s t ds cut is text end (waiting k n u w) = quiet s t ds refl refl
last_matched s t ds cut is text end (ending k n u w) = quiet s t ds refl refl
last_matched s t ds cut is text end (stopping k n u v c e es reply w turn) = turn_matched s t ds c text turn
last_matched s t ds cut is text end (going n u v c rest es reply w turn) = turn_matched s t ds c text turn
last_matched s t ds cut is text end (leaving n u) = quiet s t ds refl refl

-- what was taken and settled so far, and then by one thing more
pub matched_more : (s t : State) (ds es : List Dealing) → amounts_taken ds ≡ amounts_settled ds ++ map price_of s.queue → IsMatched s es t → amounts_taken (ds ++ es) ≡ amounts_settled (ds ++ es) ++ map price_of t.queue
matched_more s t ds es m n =
    taken-append ds es
    ∙ (ap (λ xs. xs ++ amounts_taken es) m
    ∙ (append_assoc (amounts_settled ds) (map price_of s.queue) (amounts_taken es)
    ∙ (ap (λ xs. amounts_settled ds ++ xs) n
    ∙ (sym (append_assoc (amounts_settled ds) (amounts_settled es) (map price_of t.queue))
    ∙ ap (λ xs. xs ++ map price_of t.queue) (sym (settled-append ds es))))))

-- at the end nothing is held
pub matched_last : (t : State) (ds : List Dealing) → amounts_taken ds ≡ amounts_settled ds ++ map price_of t.queue → amounts_settled (ds ++ released t.queue) ≡ amounts_taken (ds ++ released t.queue)
matched_last t ds m =
    settled-append ds (released t.queue)
    ∙ (ap (λ xs. amounts_settled ds ++ xs) (settled-released t.queue)
    ∙ (sym m
    ∙ (sym (append_nil (amounts_taken ds))
    ∙ (ap (λ xs. amounts_taken ds ++ xs) (sym (taken-released t.queue)) ∙ sym (taken-append ds (released t.queue))))))
