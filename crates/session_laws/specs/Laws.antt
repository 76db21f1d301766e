-- Laws of whole sessions (this project's own).
use Rattle.std.specs.Prelude.{ℕ, ◌≡◌, ◌⊎◌, Bool, false, List, [], ◌∷◌, ◌++◌, length, flat_map, Option}
use Rattle.std.specs.List.{AllByRecursion}
use Rattle.wire.specs.Fetching.{Follows}
use Rattle.step_purse.specs.declared.dealings.Reply.{Reply}
use Rattle.step_purse.specs.declared.dealings.Totals.{Totals}
use Rattle.step_purse.specs.declared.dealings.Dealing.{Dealing}
use Rattle.step_purse.specs.declared.dealings.Dealing.TheVariants.{Reserved, Settled, Observed}
use Rattle.command_text.specs.declared.refusal.Refusal.TheVariants as no
use Rattle.command_text.specs.Replies.{refusal_text}
use Rattle.workspace.specs.State.{State, empty}
use Rattle.workspace.specs.Turn.{released}
use Rattle.session.specs.Talk.{Talk, leave, wait, finish, stop, go}
use Rattle.session.specs.declared.end.End.{End}

-- What a budget replies: to a reservation, or with its totals.
pub data BudgetReply : Type 0 where
  ToReserve : Reply → BudgetReply
  ToTotals : Totals → BudgetReply

-- what the budget replies in some dealings, in order; it has no reply to a settlement
abbrev pub budget_replies : List Dealing → List BudgetReply
budget_replies [] = []
budget_replies (Reserved amount reply ∷ ds) = ToReserve reply ∷ budget_replies ds
budget_replies (Settled amount spent ∷ ds) = budget_replies ds
budget_replies (Observed totals ∷ ds) = ToTotals totals ∷ budget_replies ds

-- a reply for lack of memory or of a thread: `no memory`, `no memory N` or `no thread N`
abbrev pub TellsWant : List ℕ → Type 0
TellsWant reply =
    (reply ≡ refusal_text no.Memory)
    ⊎ (((spent : ℕ) × (reply ≡ refusal_text (no.BatchMemory spent)))
    ⊎ ((spent : ℕ) × (reply ≡ refusal_text (no.BatchThread spent))))

-- What others see of a command's turn: its reply, and its calls of the budget.
pub record Exchange : Type 0 where
  pub reply : List ℕ
  pub dealings : List Dealing

-- the commands of a talk, in order
abbrev pub exchanges : {cut : Bool} {s t : State} {bytes text : List ℕ} {ended : Bool} {ds : List Dealing} {end : Option End}
    → Talk cut s bytes ended ds text end t → List Exchange
exchanges (leave s bytes ended) = []
exchanges (wait cut s bytes ended w) = []
exchanges (finish cut s bytes ended w) = []
exchanges (stop cut s t bytes ended c e ds reply w turn) = record { reply = reply; dealings = ds } ∷ []
exchanges (go cut s t u bytes rest ended c ds es reply text end w turn talk) =
    record { reply = reply; dealings = ds } ∷ exchanges talk

-- no reply of these tells of lack of memory or of a thread
abbrev pub TellNoWant : List Exchange → Type 0
TellNoWant = AllByRecursion (λ (x : Exchange). TellsWant x.reply → ⊥)

-- Two talks are over the same bytes, from nothing bound or queued, with any numbers of workers. If the budget replies the same to
-- both, and no reply of either tells of such lack, then they have the same text, the same end and the same calls of the budget,
-- among them those that release what is held at the end.
abbrev pub SameText : Type 0
SameText =
    (m n : ℕ) (bytes : List ℕ) (ended : Bool) (ds es : List Dealing) (text other : List ℕ) (end last : Option End) (s t : State)
    (a : Talk false (empty m) bytes ended ds text end s) (b : Talk false (empty n) bytes ended es other last t)
    → TellNoWant (exchanges a) → TellNoWant (exchanges b) → budget_replies ds ≡ budget_replies es
    → (text ≡ other) × (end ≡ last) × (ds ++ released s.queue ≡ es ++ released t.queue)

-- what the budget replies in some commands
abbrev pub replies_to : List Exchange → List BudgetReply
replies_to xs = budget_replies (flat_map (λ (x : Exchange). x.dealings) xs)

-- Two talks are over bytes of which one has more than the other, from nothing bound or queued, with any numbers of workers. Either
-- may break off. Of their first commands, as many of the one as of the other, no reply tells of such lack, and the budget replies
-- the same to both. Then these commands have the same replies and the same calls of the budget.
abbrev pub SameFirst : Type 0
SameFirst =
    (m n : ℕ) (cut broken : Bool) (bytes more : List ℕ) (ended over : Bool) (ds es : List Dealing) (text other : List ℕ)
    (end last : Option End) (s t : State) (first second later rest : List Exchange)
    (a : Talk cut (empty m) bytes ended ds text end s) (b : Talk broken (empty n) (bytes ++ more) over es other last t)
    → Follows ended more over → exchanges a ≡ first ++ later → exchanges b ≡ second ++ rest → length first ≡ length second
    → TellNoWant first → TellNoWant second → replies_to first ≡ replies_to second → first ≡ second

-- commands make up a text, and calls of the budget
pub record MakeUp (xs : List Exchange) (text : List ℕ) (ds : List Dealing) : Type 0 where
  pub text_is : text ≡ flat_map (λ (x : Exchange). x.reply) xs
  pub dealings_are : ds ≡ flat_map (λ (x : Exchange). x.dealings) xs

-- what a talk says, and its calls of the budget, are those of its commands
abbrev pub SaidByCommands : Type 0
SaidByCommands =
    (cut : Bool) (s t : State) (bytes text : List ℕ) (ended : Bool) (ds : List Dealing) (end : Option End)
    (a : Talk cut s bytes ended ds text end t) → MakeUp (exchanges a) text ds
