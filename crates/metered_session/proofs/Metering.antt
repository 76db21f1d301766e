-- Calls of a session within its limits, in a row.
use Rattle.std.proofs.Common.{◌≡◌, ◌≤◌, ◌+◌, ◌^◌, ◌-◌, ◌++◌, ◌∙◌, ℕ, List, [], ◌∷◌, Option, Some, None, IfSome, rules, inl, inr, refl, sym, ap, ap₂, subst, arith}
use Rattle.std.proofs.lemmas.List.{append_cancel_left}
use Rattle.step_budget.specs.Budget.{Deals}
use Rattle.step_budget.specs.Drawing.{Draws}
use Rattle.step_budget.proofs.Drawings.{stays, gains}
use Rattle.step_purse.proofs.Chains.{own_along}
use Rattle.step_purse.specs.Histories.{own_calls}
use Rattle.step_purse.specs.Passes.{PassState}
use Rattle.step_purse.specs.declared.dealings.Dealing.{Dealing}
use Rattle.step_purse.specs.declared.dealings.Dealing.TheVariants.{Reserved, Settled, Observed}
use Rattle.metered_session.specs.declared.limits.Limits.{Limits}
use Rattle.metered_session.specs.Limits.{IsWithin, Metered, Meters, StandsFor, allowed, unbounded}
use Rattle.metered_session.specs.Metering.{spent_in, spent_by, spent_after, told_steps}

-- calls in a row, and others behind them
both : (a b c : PassState) (es fs : List Dealing) → Deals Draws a es b → Deals Draws b fs c → Deals Draws a (es ++ fs) c
both a b c [] fs first next = subst (λ (p : PassState). Deals Draws p fs c) first next
both a b c (e ∷ es) fs (mid, made, rest) next = (mid, made, both mid b c es fs rest next)

-- what they spend
spent_by_both : (es fs : List Dealing) → spent_by (es ++ fs) ≡ spent_by es + spent_by fs
spent_by_both [] fs = omega arith
spent_by_both (e ∷ es) fs = let rest = spent_by_both es fs in grind arith

-- the calls of the pass behind a call of the session spend as much
spent_behind : (m : Metered) (calls : List Dealing) (call : Dealing) → StandsFor m calls call → spent_by calls ≡ spent_in call
spent_behind m calls (Reserved amount reply) (inl (fits, is)) = ap spent_by is
spent_behind m calls (Reserved amount reply) (inr (over, (totals, is, told))) = ap spent_by is
spent_behind m calls (Settled amount spent) is = ap spent_by is ∙ omega arith
spent_behind m calls (Observed totals) is = ap spent_by is

-- the calls of a session are calls of its pass, which spend as much
pub gained : (old : Metered) (ds : List Dealing) (new : Metered) → Deals Meters old ds new
    → (es : List Dealing) × Deals Draws old.pass es new.pass × (spent_by es ≡ spent_by ds)
gained old [] new e = ([], ap (λ (m : Metered). m.pass) e, refl)
gained old (d ∷ ds) new (mid, made, rest) =
    let later = gained mid ds new rest in (
      made.calls ++ later.0,
      both old.pass mid.pass new.pass made.calls later.0 made.drawn later.1,
      spent_by_both made.calls later.0 ∙ ap₂ (λ a b. a + b) (spent_behind old made.calls d made.stands) later.2,
    )

-- without limits a call of a session is the same call of its pass
same_call : (m : Metered) (calls : List Dealing) (call : Dealing) → m.limits ≡ unbounded → StandsFor m calls call
    → calls ≡ call ∷ []
same_call m calls (Reserved amount reply) none (inl (fits, is)) = is
same_call m calls (Reserved amount reply) none (inr (over, (totals, is, told))) =
    absurd (let all : allowed m amount ≡ amount = ap (λ (l : Limits). allowed (record m { limits = l }) amount) none in omega arith)
same_call m calls (Settled amount spent) none is = is
same_call m calls (Observed totals) none is = is

pub drawn : (old : Metered) (ds : List Dealing) (new : Metered) → old.limits ≡ unbounded → Deals Meters old ds new
    → Deals Draws old.pass ds new.pass
drawn old [] new none e = ap (λ (m : Metered). m.pass) e
drawn old (d ∷ ds) new none (mid, made, rest) =
    let one : Deals Draws old.pass (d ∷ []) mid.pass =
    subst (λ (cs : List Dealing). Deals Draws old.pass cs mid.pass) (same_call old made.calls d none made.stands) made.drawn in
    both old.pass mid.pass new.pass (d ∷ []) ds one (drawn mid ds new (made.limits ∙ none) rest)

-- a count in its range after a call, which is in its range
after_is : (count : ℕ) (call : Dealing) → count ≤ 2 ^ 64 - 1 → spent_after count call ≡ told_steps (count + spent_in call)
after_is count (Reserved amount reply) fits = grind arith
after_is count (Settled amount spent) fits = refl
after_is count (Observed totals) fits = grind arith

-- what is told of one count and another is told of their sum
told_twice : (a b c : ℕ) → told_steps (told_steps (a + b) + c) ≡ told_steps (a + (b + c))
told_twice a b c = grind arith

told_fits : (n : ℕ) → told_steps n ≤ 2 ^ 64 - 1
told_fits n = grind arith

told_same : (n : ℕ) → n ≤ 2 ^ 64 - 1 → n ≡ told_steps (n + 0)
told_same n fits = grind arith

-- what calls spend is counted
pub counted : (old : Metered) (ds : List Dealing) (new : Metered) → Deals Meters old ds new → old.spent ≤ 2 ^ 64 - 1
    → new.spent ≡ told_steps (old.spent + spent_by ds)
counted old [] new e fits = ap (λ (m : Metered). m.spent) e ∙ told_same old.spent fits
counted old (d ∷ ds) new (mid, made, rest) fits =
    let m : mid.spent ≡ told_steps (old.spent + spent_in d) = made.counted ∙ after_is old.spent d fits in
    let less : mid.spent ≤ 2 ^ 64 - 1 = subst (λ k. k ≤ 2 ^ 64 - 1) (sym m) (told_fits (old.spent + spent_in d)) in
    counted mid ds new rest less ∙ (ap (λ k. told_steps (k + spent_by ds)) m ∙ told_twice old.spent (spent_in d) (spent_by ds))

-- a meter's pass stays one of its purse, and its limits stay
pub keeps : (old : Metered) (ds : List Dealing) (new : Metered) → Deals Meters old ds new
    → (new.pass.purse ≡ old.pass.purse) × (new.pass.allowance ≡ old.pass.allowance)
keeps old ds new deals = let g = gained old ds new deals in stays old.pass g.0 new.pass g.1

pub same_limits : (old : Metered) (ds : List Dealing) (new : Metered) → Deals Meters old ds new → new.limits ≡ old.limits
same_limits old [] new e = ap (λ (m : Metered). m.limits) e
same_limits old (d ∷ ds) new (mid, made, rest) = same_limits mid ds new rest ∙ made.limits

-- what is within its limits stays so
pub stays_within : (old : Metered) (ds : List Dealing) (new : Metered) → IsWithin old → Deals Meters old ds new → IsWithin new
stays_within old [] new within e = subst IsWithin (sym e) within
stays_within old (d ∷ ds) new within (mid, made, rest) = stays_within mid ds new made.within rest

nothing : (o : Option ℕ) (n : ℕ) → n ≡ 0 → IfSome o (λ most. n ≤ most)
nothing None n none = search rules
nothing (Some most) n none = omega arith

-- who owes nothing and has spent nothing is within any limits
pub begins_within : (p : PassState) (l : Limits) → p.known.owes ≡ 0 → IsWithin (record { pass = p; spent = 0; limits = l })
begins_within p l none = (nothing l.steps (0 + p.known.owes) (omega arith), nothing l.reserve p.known.owes none)

-- what is told is what the pass's own new calls spent
pub spent_told : (old new : Metered) (es : List Dealing) → Deals Meters old es new → old.spent ≡ 0 → (ds : List Dealing)
    → own_calls new.pass.known ≡ own_calls old.pass.known ++ ds → new.spent ≡ told_steps (spent_by ds)
spent_told old new es deals none ds own =
    let g = gained old es new deals in
    let gained_own = own_along old.pass.allowance old.pass.known g.0 new.pass.known (gains old.pass g.0 new.pass g.1) in
    let same : g.0 ≡ ds = append_cancel_left (own_calls old.pass.known) g.0 ds (sym gained_own ∙ own) in
    let sum : new.spent ≡ told_steps (old.spent + spent_by es) = counted old es new deals (omega arith) in
    let from_none : old.spent + spent_by es ≡ spent_by es = omega arith in
    sum ∙ (ap told_steps from_none ∙ (ap told_steps (sym g.2) ∙ ap (λ (xs : List Dealing). told_steps (spent_by xs)) same))
