-- What one command does: from what the session holds, by which calls of the budget and with which reply, to what it then holds
-- (this project's own).
-- A relation, since the budget is asked on the way, and since a command may run out of memory where it takes some.
use Rattle.std.specs.Prelude.{ℕ, ◌≡◌, ◌+◌, ◌-◌, ◌⊎◌, min, nat_lt, MatchBool, List, [], ◌∷◌, ◌++◌, length, map, codes}
use Rattle.std.specs.Prelude.{Option, None, Some, Result, Ok, Err}
use Rattle.hex.specs.Hex.{decode_of}
use Rattle.hex.specs.declared.error.FromHexError.{FromHexError}
use Rattle.csr_store.specs.Grid.{Grid, IsGrid}
use Rattle.matrix_market.specs.CanonicalText.{canonical_text}
use Rattle.matrix_market.specs.Market.{IsTextOf, IsFault}
use Rattle.matrix_market.specs.declared.rule.MarketRule.{MarketRule}
use Rattle.bpf_insn.specs.declared.insn.Insn.{Insn}
use Rattle.bpf_insn.specs.declared.fault.Fault.{Fault}
use Rattle.bpf_insn.specs.declared.operands.Kind.{Kind}
use Rattle.bpf_insn.specs.Code.{Spells, IsCodeFault}
use Rattle.bpf_insn.specs.Program.{slot_count}
use Rattle.bpf_text.specs.Text.{IsTextFault, IsTextOf as IsAssemblyOf}
use Rattle.bpf_text.specs.Canonical.{canonical_text as assembly_text}
use Rattle.bpf_text.specs.declared.fault.AsmFault.{AsmFault}
use Rattle.std.specs.FinMap as fin
use Rattle.bpf_verify.specs.Accepted.{Accepted, IsAccepted, IsFault as IsOperatorFault}
use Rattle.command_text.specs.declared.rules.SessionRule.TheVariants.{MalformedWords, MalformedName, UnknownName, NotHexadecimal}
use Rattle.command_text.specs.declared.refusal.Refusal.{Refusal}
use Rattle.command_text.specs.declared.refusal.Refusal.TheVariants as no
use Rattle.step_purse.specs.declared.dealings.Totals.{Totals}
use Rattle.step_purse.specs.declared.dealings.Reply.TheVariants.{Took, NotEnough}
use Rattle.command_text.specs.Words.{is_name, kind_of_word}
use Rattle.command_text.specs.Hexadecimal.{without_gaps}
use Rattle.step_purse.specs.declared.dealings.Dealing.{Dealing}
use Rattle.step_purse.specs.declared.dealings.Dealing.TheVariants.{Reserved, Settled, Observed}
use Rattle.workspace.specs.State.{State, bound}
use Rattle.workspace.specs.Types.{types_text}
use Rattle.workspace.specs.Found.{job_found}
use Rattle.job_plan.specs.Job.{Job}
use Rattle.job_plan.specs.Price.{price_of}
use Rattle.job_plan.specs.Refusal.{job_fault}
use Rattle.job_plan.specs.declared.error.JobError.{JobError}
use Rattle.job_runner.specs.declared.answer.Cause.{Cause}
use Rattle.job_runner.specs.declared.answer.Cause.TheVariants as cause
use Rattle.job_runner.specs.Batch as batch
use Rattle.job_runner.specs.Batch.{AreResultsOf, total_steps}
use Rattle.job_runner.specs.Answers.{MaySay, Gave, Broke}
use Rattle.command_text.specs.Replies.{
  JobLine,
  refusal_text,
  matrix_text,
  operator_text,
  queued_text,
  run_text,
  show_text,
  list_text,
  budget_text,
  quit_text,
}
use Rattle.command_text.specs.Requests.{
  Command,
  Submission,
  Blank,
  Matrix,
  Op,
  Asm,
  Dis,
  Submit,
  Run,
  Show,
  Types,
  Budget,
  Quit,
  Refuse,
  Break,
}

-- A reply and nothing else: no call of the budget, and all is as before.
abbrev pub Replies : List ℕ → State → List Dealing → List ℕ → State → Type 0
Replies said old dealings reply new = (dealings ≡ []) × (reply ≡ said) × (new ≡ old)

abbrev pub Refuses : Refusal → State → List Dealing → List ℕ → State → Type 0
Refuses refusal = Replies (refusal_text refusal)

-- ---- `matrix NAME LEN`

-- the body is a text of a matrix, which the name then stands for; or it is refused by the first rule that it breaks
abbrev pub TakesMatrix : State → List ℕ → List ℕ → List Dealing → List ℕ → State → Type 0
TakesMatrix old name body dealings reply new =
    ((g : Grid) × IsGrid g × IsTextOf body g
    × (dealings ≡ []) × (reply ≡ matrix_text g.rows g.columns (fin.len g.cells))
    × (new ≡ record old { matrices = bound old.matrices name g }))
    ⊎ ((rule : MarketRule) × (line : ℕ) × IsFault body line rule × Refuses (no.Market rule line) old dealings reply new)

abbrev pub MatrixTurn : State → List ℕ → List ℕ → List Dealing → List ℕ → State → Type 0
MatrixTurn old name body dealings reply new =
    Refuses no.Memory old dealings reply new
    ⊎ MatchBool (is_name name)
    (TakesMatrix old name body dealings reply new)
    (Refuses (no.Session MalformedName) old dealings reply new)

-- ---- `op NAME KIND LEN` and `asm NAME KIND LEN`

-- the program is accepted as an operator of its kind, which the name then stands for; or it is refused
abbrev pub TakesProgram : State → List ℕ → Kind → List Insn → List Dealing → List ℕ → State → Type 0
TakesProgram old name kind program dealings reply new =
    ((operator : Accepted) × IsAccepted operator × (operator.kind ≡ kind) × (operator.insns ≡ program)
    × (dealings ≡ []) × (reply ≡ operator_text (slot_count program) (length program))
    × (new ≡ record old { operators = bound old.operators name operator }))
    ⊎ ((fault : Fault) × IsOperatorFault kind program fault × Refuses (no.Code fault) old dealings reply new)

-- the code is that of a program, which is taken; or it is refused
abbrev pub TakesOperator : State → List ℕ → Kind → List ℕ → List Dealing → List ℕ → State → Type 0
TakesOperator old name kind code dealings reply new =
    ((program : List Insn) × Spells code program × TakesProgram old name kind program dealings reply new)
    ⊎ ((fault : Fault) × IsCodeFault code fault × Refuses (no.Code fault) old dealings reply new)

-- the body, its gaps dropped, is hexadecimal digits in pairs; or it is refused
abbrev pub TakesDigits : State → List ℕ → Kind → Result (List ℕ) FromHexError
    → List Dealing → List ℕ → State → Type 0
TakesDigits old name kind (Err e) dealings reply new = Refuses (no.Session NotHexadecimal) old dealings reply new
TakesDigits old name kind (Ok code) dealings reply new = TakesOperator old name kind code dealings reply new

-- the body is the assembly text of a program, which is taken; or it is refused by its first faulty line
abbrev pub TakesAssembly : State → List ℕ → Kind → List ℕ → List Dealing → List ℕ → State → Type 0
TakesAssembly old name kind body dealings reply new =
    ((program : List Insn) × IsAssemblyOf body program × TakesProgram old name kind program dealings reply new)
    ⊎ ((fault : AsmFault) × IsTextFault body fault × Refuses (no.Assembly fault) old dealings reply new)

-- the words are a kind and a name, and the body is taken as code of that kind; or they are refused
abbrev pub TakesKind : State → List ℕ → Option Kind → (Kind → List Dealing → List ℕ → State → Type 0)
    → List Dealing → List ℕ → State → Type 0
TakesKind old name None takes dealings reply new = Refuses (no.Session MalformedWords) old dealings reply new
TakesKind old name (Some kind) takes dealings reply new =
    MatchBool (is_name name) (takes kind dealings reply new) (Refuses (no.Session MalformedName) old dealings reply new)

abbrev pub OperatorTurn : State → List ℕ → List ℕ → (Kind → List Dealing → List ℕ → State → Type 0)
    → List Dealing → List ℕ → State → Type 0
OperatorTurn old name kind takes dealings reply new =
    Refuses no.Memory old dealings reply new ⊎ TakesKind old name (kind_of_word kind) takes dealings reply new

-- ---- `apply`, `select`, `union`, `both`, `product`, `reduce`

-- the job is put last in the queue, where its price can be reserved
abbrev pub Submits : State → Job → List Dealing → List ℕ → State → Type 0
Submits old job dealings reply new =
    ((dealings ≡ Reserved (price_of job) (Took (price_of job)) ∷ [])
    × (reply ≡ queued_text (length old.queue + 1) (price_of job))
    × (new ≡ record old { queue = old.queue ++ job ∷ [] }))
    ⊎ ((left : ℕ) × (dealings ≡ Reserved (price_of job) (NotEnough left) ∷ [])
    × (reply ≡ refusal_text (no.Budget (price_of job) left)) × (new ≡ old))

-- the job has a fault, by which it is refused, or none
abbrev pub Prices : State → Job → Option JobError → List Dealing → List ℕ → State → Type 0
Prices old job (Some fault) dealings reply new = Refuses (no.Job fault) old dealings reply new
Prices old job None dealings reply new = Submits old job dealings reply new

-- all names stand for something, and fewer than 64 jobs wait
abbrev pub Finds : State → Option Job → List Dealing → List ℕ → State → Type 0
Finds old None dealings reply new = Refuses (no.Session UnknownName) old dealings reply new
Finds old (Some job) dealings reply new =
    MatchBool (nat_lt (length old.queue) 64)
    (Refuses no.Memory old dealings reply new ⊎ Prices old job (job_fault job) dealings reply new)
    (Refuses no.QueueFull old dealings reply new)

abbrev pub SubmitTurn : State → Submission → List Dealing → List ℕ → State → Type 0
SubmitTurn old s = Finds old (job_found old s)

-- ---- `run`

-- each job's price is settled with the steps that it took
abbrev pub settled : List Job → List batch.Result → List Dealing
settled [] results = []
settled (job ∷ jobs) [] = []
settled (job ∷ jobs) (e ∷ es) = Settled (price_of job) e.steps ∷ settled jobs es

-- steps are charged to the jobs in order, to each up to its price
abbrev pub charged : List Job → ℕ → List Dealing
charged [] spent = []
charged (job ∷ jobs) spent = Settled (price_of job) (min spent (price_of job)) ∷ charged jobs (spent - price_of job)

-- the outputs are bound in order of submission, so that of two of one name the later wins
abbrev pub all_bound : (List ℕ → Option Grid) → List Job → List batch.Result → List ℕ → Option Grid
all_bound names [] results = names
all_bound names (job ∷ jobs) [] = names
all_bound names (job ∷ jobs) (e ∷ es) = all_bound (bound names job.output e.matrix) jobs es

-- the batch is refused: its steps are charged, the queue is empty, and the names are as before
abbrev pub BatchRefused : Refusal → ℕ → State → List Dealing → List ℕ → State → Type 0
BatchRefused refusal spent old dealings reply new =
    (dealings ≡ charged old.queue spent) × (reply ≡ refusal_text refusal) × (new ≡ record old { queue = [] })

-- the line of each job
abbrev pub job_line : Job → batch.Result → JobLine
job_line job r = record {
  output = job.output;
  rows = r.matrix.rows;
  columns = r.matrix.columns;
  entries = fin.len r.matrix.cells;
  steps = r.steps;
}

abbrev pub job_lines : List Job → List batch.Result → List JobLine
job_lines [] results = []
job_lines (job ∷ jobs) [] = []
job_lines (job ∷ jobs) (r ∷ rs) = job_line job r ∷ job_lines jobs rs

-- a batch breaks off for lack of memory or of a thread, with the steps that its calls had taken by then
abbrev pub batch_refusal : Cause → ℕ → Refusal
batch_refusal cause.Memory spent = no.BatchMemory spent
batch_refusal cause.Thread spent = no.BatchThread spent

-- a batch of all jobs that wait, which may have as many workers as the session has, gave each job's matrix and steps
abbrev pub Gives : State → List Dealing → List ℕ → State → Type 0
Gives old dealings reply new =
    (results : List batch.Result) × AreResultsOf old.queue results
    × MaySay old.workers old.queue (Gave results)
    × (dealings ≡ settled old.queue results) × (reply ≡ run_text (total_steps old.queue) (job_lines old.queue results))
    × (new ≡ record old { matrices = all_bound old.matrices old.queue results; queue = [] })

-- it broke off, when its calls had taken some of the steps of all
abbrev pub BreaksOff : State → List Dealing → List ℕ → State → Type 0
BreaksOff old dealings reply new =
    (why : Cause) × (spent : ℕ) × MaySay old.workers old.queue (Broke why spent)
    × BatchRefused (batch_refusal why spent) spent old dealings reply new

-- all jobs come to an end; or the batch breaks off, as it says; or there is no memory to begin it
abbrev pub RunTurn : State → List Dealing → List ℕ → State → Type 0
RunTurn old dealings reply new =
    Gives old dealings reply new
    ⊎ (BreaksOff old dealings reply new ⊎ BatchRefused (no.BatchMemory 0) 0 old dealings reply new)

-- ---- `show NAME`, `types NAME`, `dis NAME`

-- what the name stands for is told, as this text
abbrev pub Tells : {V : Type 0} → State → Option V → (V → List ℕ) → List Dealing → List ℕ → State → Type 0
Tells old None text dealings reply new = Refuses (no.Session UnknownName) old dealings reply new
Tells old (Some value) text dealings reply new =
    Refuses no.Memory old dealings reply new ⊎ Replies (text value) old dealings reply new

-- ---- `budget`

abbrev pub BudgetTurn : State → List Dealing → List ℕ → State → Type 0
BudgetTurn old dealings reply new =
    (totals : Totals) × (dealings ≡ Observed totals ∷ [])
    × (reply ≡ budget_text totals.left totals.reserved totals.spent) × (new ≡ old)

-- from old, a command may have these dealings and this reply, and lead to new
abbrev pub Turn : State → Command → List Dealing → List ℕ → State → Type 0
Turn old Blank = Replies [] old
Turn old (Matrix name body) = MatrixTurn old name body
Turn old (Op name kind body) =
    OperatorTurn old name kind (λ (k : Kind). TakesDigits old name k (decode_of (without_gaps body)))
Turn old (Asm name kind body) = OperatorTurn old name kind (λ (k : Kind). TakesAssembly old name k body)
Turn old (Dis name) =
    Tells old (old.operators name) (λ (o : Accepted). list_text (codes "dis") (length o.insns) (assembly_text o.insns))
Turn old (Submit submission) = SubmitTurn old submission
Turn old Run = RunTurn old
Turn old (Show name) = Tells old (old.matrices name) (λ (g : Grid). show_text (canonical_text g))
Turn old (Types name) =
    Tells old (old.operators name) (λ (o : Accepted). list_text (codes "types") (length o.insns) (types_text o))
Turn old Budget = BudgetTurn old
Turn old Quit = Replies quit_text old
Turn old (Refuse rule) = Refuses (no.Session rule) old
Turn old (Break rule) = Refuses (no.Fatal rule) old

-- ---- at the end of a session

-- each reservation still held is settled with 0, in order of submission
abbrev pub released : List Job → List Dealing
released jobs = map (λ job. Settled (price_of job) 0) jobs
