-- Sessions within their limits, and sessions without any.
use Rattle.std.proofs.Common.{◌≡◌, ◌++◌, ◌∙◌, ℕ, Bool, true, false, List, [], Option, None, Some, Result, Ok, Err, refl, sym, ap, subst}
use Rattle.step_purse.specs.Histories.{own_calls}
use Rattle.step_budget.specs.Budget.{Deals}
use Rattle.step_budget.specs.Drawing.{Draws}
use Rattle.step_purse.specs.Passes.{PassState}
use Rattle.step_purse.specs.declared.dealings.Dealing.{Dealing}
use Rattle.wire.specs.Devices.{SourceState, SinkState}
use Rattle.session.specs.Sessions.{SessionState}
use Rattle.session.specs.Talk.{Outcome, Outside, Said, SaidAll, Counts}
use Rattle.session.specs.declared.end.End.{End}
use Rattle.session.specs.declared.end.ServeFault.{ServeFault}
use Rattle.session.specs.declared.end.ServeFault.TheVariants as faults
use Rattle.metered_session.specs.declared.limits.Limits.{Limits}
use Rattle.metered_session.specs.Limits.{IsWithin, Metered, Meters, unbounded}
use Rattle.metered_session.specs.Metering.{spent_by, told_steps}
use Rattle.metered_session.proofs.Metering.{drawn, keeps, same_limits, spent_told, stays_within}

-- what is given to a session, with the pass alone in place of the meter
abbrev pub unmetered : Outside Metered → Outside PassState
unmetered o = record { budget = o.budget.pass; source = o.source; sink = o.sink }

-- what a session said, by a meter without limits, it said by the pass
said_drawn : (workers : ℕ) (cut : Bool) (old new : Outside Metered) (end : Option End) → old.budget.limits ≡ unbounded → Said workers cut Meters old new end
    → Said workers cut Draws (unmetered old) (unmetered new) end
said_drawn workers cut old new end none s = record {
  read = s.read;
  ended = s.ended;
  dealings = s.dealings;
  text = s.text;
  written = s.written;
  held = s.held;
  consumed = s.consumed;
  ends = s.ends;
  at_end = s.at_end;
  appended = s.appended;
  in_front = s.in_front;
  dealt = drawn old.budget _ new.budget none s.dealt;
  matched = s.matched;
  talk = s.talk;
}

said_all_drawn : (workers : ℕ) (old new : Outside Metered) (end : Option End) → old.budget.limits ≡ unbounded → SaidAll workers Meters old new end
    → SaidAll workers Draws (unmetered old) (unmetered new) end
unfolding said_drawn
said_all_drawn workers old new end none s = (said_drawn workers false old new end none s.0, s.1)

counts_drawn : (limit m n : ℕ) (old new : Outside Metered) → Counts limit m n old new → Counts limit m n (unmetered old) (unmetered new)
counts_drawn limit m n old new c = record { reads = c.reads; failed_reads = c.failed_reads; failed_writes = c.failed_writes }

-- how a session by a meter without limits went is how one by its pass goes
pub outcome_drawn : (session : SessionState) (old new : Outside Metered) (result : Result End ServeFault) → old.budget.limits ≡ unbounded
    → Outcome Meters session old new result → Outcome Draws session (unmetered old) (unmetered new) result
outcome_drawn session old new (Ok end) none o = (said_all_drawn session.workers old new (Some end) none o.0, counts_drawn session.reads 0 0 old new o.1)
outcome_drawn session old new (Err faults.Read) none o = (said_all_drawn session.workers old new None none o.0, counts_drawn session.reads 1 0 old new o.1)
outcome_drawn session old new (Err faults.Turns) none o = (said_all_drawn session.workers old new None none o.0, (counts_drawn session.reads 0 0 old new o.1.0, o.1.1))
outcome_drawn session old new (Err faults.Write) none o = ((o.0.0, said_drawn session.workers true old new o.0.0 none o.0.1), counts_drawn session.reads 0 1 old new o.1)
outcome_drawn session old new (Err faults.Memory) none o = ap unmetered o

-- a session's calls of its meter
pub calls_in : (session : SessionState) (old new : Outside Metered) (result : Result End ServeFault) → Outcome Meters session old new result
    → (ds : List Dealing) × Deals Meters old.budget ds new.budget
calls_in session old new (Ok end) o = let said = o.0.0 in (_, said.dealt)
calls_in session old new (Err faults.Read) o = let said = o.0.0 in (_, said.dealt)
calls_in session old new (Err faults.Turns) o = let said = o.0.0 in (_, said.dealt)
calls_in session old new (Err faults.Write) o = let said = o.0.1 in (_, said.dealt)
calls_in session old new (Err faults.Memory) o = ([], ap (λ (x : Outside Metered). x.budget) o)

-- a meter by its parts
by_parts : (m : Metered) (p : PassState) (s : ℕ) (l : Limits) → p ≡ m.pass → s ≡ m.spent → l ≡ m.limits
    → m ≡ record { pass = p; spent = s; limits = l }
by_parts m p s l pass spent limits =
    sym (subst (λ (q : PassState). record { pass = q; spent = s; limits = l } ≡ m) (sym pass)
    (subst (λ (k : ℕ). record { pass = m.pass; spent = k; limits = l } ≡ m) (sym spent)
    (ap (λ (x : Limits). record { pass = m.pass; spent = m.spent; limits = x }) limits)))

module _ (session : SessionState) (old new : Metered) (pass left : PassState) (limits : Limits) (spent : ℕ) (src src' : SourceState) (snk snk' : SinkState)
    (result : Result End ServeFault) (was : old ≡ record { pass = pass; spent = 0; limits = limits }) (is : left ≡ new.pass) (told : spent ≡ new.spent)
    (said : Outcome Meters session (record { budget = old; source = src; sink = snk }) (record { budget = new; source = src'; sink = snk' }) result) where
  abbrev first : Metered
  first = record { pass = pass; spent = 0; limits = limits }

  abbrev last : Metered
  last = record { pass = left; spent = spent; limits = limits }

  ends : new ≡ last
  ends =
      let calls = calls_in session (record { budget = old; source = src; sink = snk }) (record { budget = new; source = src'; sink = snk' }) result said in
      by_parts new left spent limits is told (sym (same_limits old calls.0 new calls.1 ∙ ap (λ (m : Metered). m.limits) was))

  -- a session by a meter that was made of a pass and limits
  pub said_within : Outcome Meters session (record { budget = first; source = src; sink = snk }) (record { budget = last; source = src'; sink = snk' }) result
  said_within =
      subst (λ (m : Metered). Outcome Meters session (record { budget = m; source = src; sink = snk }) (record { budget = last; source = src'; sink = snk' }) result) was
      (subst (λ (m : Metered). Outcome Meters session (record { budget = old; source = src; sink = snk }) (record { budget = m; source = src'; sink = snk' }) result) ends said)

  calls_within : (ds : List Dealing) × Deals Meters first ds last
  calls_within = calls_in session (record { budget = first; source = src; sink = snk }) (record { budget = last; source = src'; sink = snk' }) result said_within

  -- the pass that is left is one of the same purse
  pub same_purse : (left.purse ≡ pass.purse) × (left.allowance ≡ pass.allowance)
  same_purse = let calls = calls_within in keeps first calls.0 last calls.1

  -- it is left within the limits
  pub still_within : IsWithin first → IsWithin last
  still_within within = let calls = calls_within in stays_within first calls.0 last within calls.1

  -- what is told is what the new calls of the pass that is left spent
  pub spent_of_pass : (ds : List Dealing) → own_calls left.known ≡ own_calls pass.known ++ ds → spent ≡ told_steps (spent_by ds)
  spent_of_pass ds own = let calls = calls_within in spent_told first last calls.0 calls.1 refl ds own
