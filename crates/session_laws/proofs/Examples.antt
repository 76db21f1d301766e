-- Talks that are written out.
use Rattle.std.proofs.Common.{◌≡◌, ℕ, true, false, List, [], ◌∷◌, ◌++◌, get_or, Some, codes, inl, inr, refl, ap, arith}
use Rattle.command_text.specs.Replies.{refusal_text, budget_text, quit_text}
use Rattle.command_text.specs.Requests as ask
use Rattle.command_text.specs.declared.refusal.Refusal.TheVariants as no
use Rattle.command_text.specs.declared.rules.SessionRule.TheVariants.{MalformedWords}
use Rattle.session.specs.Talk.{Talk, finish, stop, go}
use Rattle.session.specs.declared.end.End.TheVariants.{InputEnd, Quit}
use Rattle.session_laws.specs.Laws.{TellsWant, TellNoWant, exchanges}
use Rattle.step_purse.specs.declared.dealings.Dealing.TheVariants.{Observed}
use Rattle.step_purse.specs.declared.dealings.Totals.{Totals}
use Rattle.workspace.specs.State.{empty}

-- a text is another where the bytes at some place differ
apart : (at : ℕ) (xs ys : List ℕ) → (get_or xs at 0 ≡ get_or ys at 0 → ⊥) → xs ≡ ys → ⊥
apart at xs ys differ e = differ (ap (λ zs. get_or zs at 0) e)

-- the third byte of a refusal for lack of memory or of a thread is behind a blank, and is `m` or `t`
not_want : (at : ℕ) (text : List ℕ) → (get_or text at 0 ≡ get_or (refusal_text no.Memory) at 0 → ⊥)
    → ((n : ℕ) → get_or text at 0 ≡ get_or (refusal_text (no.BatchMemory n)) at 0 → ⊥)
    → ((n : ℕ) → get_or text at 0 ≡ get_or (refusal_text (no.BatchThread n)) at 0 → ⊥) → TellsWant text → ⊥
not_want at text a b c w = elim w [
  | inl e ↦ apart at text (refusal_text no.Memory) a e
  | inr v ↦ elim v [
    | inl e ↦ apart at text (refusal_text (no.BatchMemory e.0)) (b e.0) e.1
    | inr e ↦ apart at text (refusal_text (no.BatchThread e.0)) (c e.0) e.1
  ]
]

pub budget_talk : (totals : Totals) → (talk : Talk false (empty 1) (codes "budget\nquit\n") false (Observed totals ∷ [])
    (budget_text totals.left totals.reserved totals.spent ++ quit_text) (Some Quit) (empty 1)) × TellNoWant (exchanges talk)
budget_talk totals = (
  go false (empty 1) (empty 1) (empty 1) (codes "budget\nquit\n") (codes "quit\n") false ask.Budget (Observed totals ∷ []) []
      (budget_text totals.left totals.reserved totals.spent) quit_text (Some Quit) refl (totals, refl, refl, refl)
      (stop false (empty 1) (empty 1) (codes "quit\n") false ask.Quit Quit [] quit_text refl (refl, refl, refl)),
  (
    not_want 0 (budget_text totals.left totals.reserved totals.spent) (λ e. omega (arith, e)) (λ n e. omega (arith, e)) (λ n e. omega (arith, e)),
    (not_want 0 quit_text (λ e. omega (arith, e)) (λ n e. omega (arith, e)) (λ n e. omega (arith, e)), tt),
  ),
)

pub rule_talk : (talk : Talk false (empty 1) (codes "op A x 0\n") true [] (refusal_text (no.Session MalformedWords)) (Some InputEnd) (empty 1)) × TellNoWant (exchanges talk)
rule_talk = (
  go false (empty 1) (empty 1) (empty 1) (codes "op A x 0\n") [] true (ask.Op (codes "A") (codes "x") []) [] []
      (refusal_text (no.Session MalformedWords)) [] (Some InputEnd) refl (inr (refl, refl, refl)) (finish false (empty 1) [] true refl),
  (
    not_want 3 (refusal_text (no.Session MalformedWords)) (λ e. omega (arith, e)) (λ n e. omega (arith, e)) (λ n e. omega (arith, e)),
    tt,
  ),
)

pub want_talk : Talk false (empty 1) (codes "op A x 0\n") true [] (refusal_text no.Memory) (Some InputEnd) (empty 1)
want_talk =
    go false (empty 1) (empty 1) (empty 1) (codes "op A x 0\n") [] true (ask.Op (codes "A") (codes "x") []) [] []
    (refusal_text no.Memory) [] (Some InputEnd) refl (inl (refl, refl, refl)) (finish false (empty 1) [] true refl)
