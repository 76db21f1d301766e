-- The purse of one thread: what each call replies and leaves, and which histories of calls are legal. This project's own.
use Rattle.std.specs.Prelude.{◌≡◌, ℕ, ◌+◌, ◌-◌, ◌<◌, ◌≤◌, nat_le, List, [], ◌∷◌}
use Rattle.std.specs.Prelude.{if◌then◌else◌}
use Rattle.step_purse.specs.declared.dealings.Totals.{Totals}
use Rattle.step_purse.specs.declared.dealings.Reply.{Reply}
use Rattle.step_purse.specs.declared.dealings.Reply.TheVariants.{Took, NotEnough}
use Rattle.step_purse.specs.declared.dealings.Dealing.{Dealing}
use Rattle.step_purse.specs.declared.dealings.Dealing.TheVariants.{Reserved, Settled, Observed}

-- a purse as it is opened: its whole allowance is left
abbrev pub opened : ℕ → Totals
opened allowance = record { left = allowance; reserved = 0; spent = 0 }

-- all steps of a purse
abbrev pub total : Totals → ℕ
total t = t.left + t.reserved + t.spent

-- what `reserve` replies: the whole amount is taken, or nothing of it
abbrev pub reply_to : Totals → ℕ → Reply
reply_to t amount = if nat_le amount t.left then Took amount else NotEnough t.left

-- a reply that `reserve` may give where the purse isn't known
abbrev pub IsReplyTo : ℕ → Reply → Type 0
IsReplyTo amount (Took taken) = taken ≡ amount
IsReplyTo amount (NotEnough left) = left < amount

-- this purse allows the call, and the reply is the one that it gives
abbrev pub IsAnswered : Totals → Dealing → Type 0
IsAnswered t (Reserved amount reply) = reply ≡ reply_to t amount
IsAnswered t (Settled amount spent) = (spent ≤ amount) × (amount ≤ t.reserved)
IsAnswered t (Observed reply) = reply ≡ t

-- what a call leaves
abbrev pub after : Totals → Dealing → Totals
after t (Reserved amount (Took taken)) = record { left = t.left - taken; reserved = t.reserved + taken; spent = t.spent }
after t (Reserved amount (NotEnough left)) = t
after t (Settled amount spent) =
    record { left = t.left + (amount - spent); reserved = t.reserved - amount; spent = t.spent + spent }
after t (Observed reply) = t

-- the call with its reply leads from these totals to those
abbrev pub PlainlyLeads : Totals → Dealing → Totals → Type 0
PlainlyLeads t d now = IsAnswered t d × (now ≡ after t d)

-- what the calls of a history leave, one by one from the first to the last
abbrev pub after_all : Totals → List Dealing → Totals
after_all t [] = t
after_all t (d ∷ ds) = after_all (after t d) ds

-- each reply of the history is the one that the purse gives at that point
abbrev pub IsLegal : Totals → List Dealing → Type 0
IsLegal t [] = Unit {0}
IsLegal t (d ∷ ds) = IsAnswered t d × IsLegal (after t d) ds

-- what a caller owes after a call of its own: what was reserved for it and is not yet settled
abbrev pub owed_after : ℕ → Dealing → ℕ
owed_after owed (Reserved amount (Took taken)) = owed + taken
owed_after owed (Reserved amount (NotEnough left)) = owed
owed_after owed (Settled amount spent) = owed - amount
owed_after owed (Observed reply) = owed

-- what it owes after several
abbrev pub owed_after_all : ℕ → List Dealing → ℕ
owed_after_all owed [] = owed
owed_after_all owed (d ∷ ds) = owed_after_all (owed_after owed d) ds

-- a caller that owes this much may make the call: it settles no more than it owes
abbrev pub MayMake : ℕ → Dealing → Type 0
MayMake owed (Reserved amount reply) = Unit {0}
MayMake owed (Settled amount spent) = amount ≤ owed
MayMake owed (Observed reply) = Unit {0}

-- what a call takes for its caller
abbrev pub amount_taken : Dealing → ℕ
amount_taken (Reserved amount (Took taken)) = taken
amount_taken (Reserved amount (NotEnough left)) = 0
amount_taken (Settled amount spent) = 0
amount_taken (Observed reply) = 0

-- what a call settles
abbrev pub amount_settled : Dealing → ℕ
amount_settled (Reserved amount reply) = 0
amount_settled (Settled amount spent) = amount
amount_settled (Observed reply) = 0

-- what several take
abbrev pub total_taken : List Dealing → ℕ
total_taken [] = 0
total_taken (d ∷ ds) = amount_taken d + total_taken ds

-- and settle
abbrev pub total_settled : List Dealing → ℕ
total_settled [] = 0
total_settled (d ∷ ds) = amount_settled d + total_settled ds
