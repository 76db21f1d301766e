-- The replies of a session, as bytes, from names and numbers (this project's own).
use Rattle.std.specs.Prelude.{ℕ, List, ◌++◌, length, codes, decimal}
use Rattle.std.specs.List.{flat_map}
use Rattle.bpf_insn.specs.Rule as code
use Rattle.bpf_text.specs.Rule as assembly
use Rattle.matrix_market.specs.Rule as market
use Rattle.job_plan.specs.Refusal as job
use Rattle.command_text.specs.declared.rules.SessionRule.{SessionRule}
use Rattle.command_text.specs.declared.rules.SessionRule.TheVariants.{UnknownCommand, MalformedWords, MalformedName, UnknownName}
use Rattle.command_text.specs.declared.rules.SessionRule.TheVariants.{NotHexadecimal}
use Rattle.command_text.specs.declared.rules.FatalRule.{FatalRule}
use Rattle.command_text.specs.declared.rules.FatalRule.TheVariants as fatal
use Rattle.command_text.specs.declared.refusal.Refusal.{Refusal}
use Rattle.command_text.specs.declared.refusal.Refusal.TheVariants as no

-- the names of the rules
abbrev pub session_rule_name : SessionRule → List ℕ
session_rule_name UnknownCommand = codes "S1"
session_rule_name MalformedWords = codes "S2"
session_rule_name MalformedName = codes "S3"
session_rule_name UnknownName = codes "S4"
session_rule_name NotHexadecimal = codes "S9"

abbrev pub fatal_rule_name : FatalRule → List ℕ
fatal_rule_name fatal.MalformedWords = codes "S2"
fatal_rule_name fatal.InputEndsInBody = codes "S5"
fatal_rule_name fatal.LineTooLong = codes "S6"
fatal_rule_name fatal.BodyTooLong = codes "S7"

-- `no`, then why, with the numbers that belong to it
abbrev pub refusal_words : Refusal → List ℕ
refusal_words (no.Session rule) = session_rule_name rule
refusal_words (no.Fatal rule) = fatal_rule_name rule
refusal_words no.QueueFull = codes "J6"
refusal_words (no.Job fault) = job.rule_name fault
refusal_words (no.Code fault) = code.rule_name fault.rule ++ (codes " " ++ decimal fault.slot)
refusal_words (no.Assembly fault) = assembly.rule_name fault.rule ++ (codes " " ++ decimal fault.line)
refusal_words (no.Market rule line) = market.rule_name rule ++ (codes " " ++ decimal line)
refusal_words (no.Budget price left) = codes "S8 " ++ (decimal price ++ (codes " " ++ decimal left))
refusal_words no.Memory = codes "memory"
refusal_words (no.BatchMemory spent) = codes "memory " ++ decimal spent
refusal_words (no.BatchThread spent) = codes "thread " ++ decimal spent

abbrev pub refusal_text : Refusal → List ℕ
refusal_text refusal = codes "no " ++ (refusal_words refusal ++ codes "\n")

-- `ok matrix ROWS COLUMNS ENTRIES`
abbrev pub matrix_text : ℕ → ℕ → ℕ → List ℕ
matrix_text rows columns entries =
    codes "ok matrix " ++ (decimal rows ++ (codes " " ++ (decimal columns ++ (codes " " ++ (decimal entries ++ codes "\n")))))

-- `ok op SLOTS INSTRUCTIONS`
abbrev pub operator_text : ℕ → ℕ → List ℕ
operator_text slots instructions = codes "ok op " ++ (decimal slots ++ (codes " " ++ (decimal instructions ++ codes "\n")))

-- `ok queued POSITION PRICE`
abbrev pub queued_text : ℕ → ℕ → List ℕ
queued_text position price = codes "ok queued " ++ (decimal position ++ (codes " " ++ (decimal price ++ codes "\n")))

-- what a job's line tells: its output, the rows, columns and entries of its matrix, and its steps
pub record JobLine : Type 0 where
  pub output : List ℕ
  pub rows : ℕ
  pub columns : ℕ
  pub entries : ℕ
  pub steps : ℕ

-- `OUT ROWS COLUMNS ENTRIES STEPS`
abbrev pub job_text : JobLine → List ℕ
job_text job =
    job.output ++ (codes " " ++ (decimal job.rows ++ (codes " " ++ (decimal job.columns ++ (codes " "
    ++ (decimal job.entries ++ (codes " " ++ (decimal job.steps ++ codes "\n"))))))))

-- `ok run N SPENT`
abbrev pub run_line : ℕ → ℕ → List ℕ
run_line jobs spent = codes "ok run " ++ (decimal jobs ++ (codes " " ++ (decimal spent ++ codes "\n")))

-- `ok run N SPENT`, and a line for each job
abbrev pub run_text : ℕ → List JobLine → List ℕ
run_text spent jobs = run_line (length jobs) spent ++ flat_map job_text jobs

-- `ok show BYTES`, and the text
abbrev pub show_text : List ℕ → List ℕ
show_text text = (codes "ok show " ++ (decimal (length text) ++ codes "\n")) ++ text

-- `ok COMMAND N`, and N lines
abbrev pub list_text : List ℕ → ℕ → List ℕ → List ℕ
list_text command lines text = (codes "ok " ++ (command ++ (codes " " ++ (decimal lines ++ codes "\n")))) ++ text

-- `ok budget LEFT RESERVED SPENT`
abbrev pub budget_text : ℕ → ℕ → ℕ → List ℕ
budget_text left reserved spent =
    codes "ok budget " ++ (decimal left ++ (codes " " ++ (decimal reserved ++ (codes " " ++ (decimal spent ++ codes "\n")))))

abbrev pub quit_text : List ℕ
quit_text = codes "ok quit\n"
