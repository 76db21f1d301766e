-- What calls of a purse keep.
use Rattle.std.proofs.Common.{◌≡◌, ℕ, ◌+◌, ◌≤◌, List, [], ◌∷◌, ◌++◌, Bool, true, false, refl, ap, ◌∙◌, arith}
use Rattle.std.specs.Prelude.{nat_le, if◌then◌else◌}
use Rattle.std.proofs.lemmas.Bool.Decides.{nat_tests}
use Rattle.step_purse.specs.declared.dealings.Totals.{Totals}
use Rattle.step_purse.specs.declared.dealings.Reply.TheVariants.{Took, NotEnough}
use Rattle.step_purse.specs.declared.dealings.Dealing.{Dealing}
use Rattle.step_purse.specs.declared.dealings.Dealing.TheVariants.{Reserved, Settled, Observed}
use Rattle.step_purse.specs.Plain.{opened, total, reply_to, IsAnswered, after, after_all, IsLegal, owed_after, owed_after_all, MayMake, amount_taken, amount_settled}

-- what was taken is what was asked for, and was left
pub taken : (t : Totals) (amount a : ℕ) → Took a ≡ reply_to t amount → (a ≡ amount) × (amount ≤ t.left)
taken t amount a e = go (nat_le amount t.left) refl e
  where
    go : (b : Bool) → nat_le amount t.left ≡ b → Took a ≡ (if b then Took amount else NotEnough t.left) → (a ≡ amount) × (amount ≤ t.left)
    go true is e = (cc, grind (arith, nat_tests))
    go false is e = absurd (cc)

-- a refusal tells what is left
pub refuses : (t : Totals) (amount : ℕ) → nat_le amount t.left ≡ false → NotEnough t.left ≡ reply_to t amount
refuses t amount e = rw e refl

-- a call moves steps, and makes or loses none
pub after_total : (t : Totals) (d : Dealing) → IsAnswered t d → total (after t d) ≡ total t
after_total t (Reserved amount (Took a)) r = let h = taken t amount a r in omega arith
after_total t (Reserved amount (NotEnough left)) r = refl
after_total t (Settled amount spent) r = omega arith
after_total t (Observed reply) r = refl

pub legal_total : (t : Totals) (history : List Dealing) → IsLegal t history → total (after_all t history) ≡ total t
legal_total t [] l = refl
legal_total t (d ∷ ds) l = legal_total (after t d) ds l.1 ∙ after_total t d l.0

-- a beginning of a legal history is legal
pub legal_front : (t : Totals) (history rest : List Dealing) → IsLegal t (history ++ rest) → IsLegal t history
legal_front t [] rest l = tt
legal_front t (d ∷ ds) rest l = (l.0, legal_front (after t d) ds rest l.1)

pub after_snoc : (t : Totals) (history : List Dealing) (d : Dealing) → after_all t (history ++ d ∷ []) ≡ after (after_all t history) d
after_snoc t [] d = refl
after_snoc t (x ∷ xs) d = after_snoc (after t x) xs d

pub legal_snoc : (t : Totals) (history : List Dealing) (d : Dealing) → IsLegal t history → IsAnswered (after_all t history) d → IsLegal t (history ++ d ∷ [])
legal_snoc t [] d l r = (r, tt)
legal_snoc t (x ∷ xs) d l r = (l.0, legal_snoc (after t x) xs d l.1 r)

-- one pass's debt changes as what is reserved does, and all others' stay
pub owed_step : (t : Totals) (d : Dealing) (mine all now : ℕ) → IsAnswered t d → MayMake mine d → all ≡ t.reserved → mine ≤ all → now + mine ≡ all + owed_after mine d → now ≡ (after t d).reserved
owed_step t (Reserved amount (Took a)) mine all now r m s le e = omega arith
owed_step t (Reserved amount (NotEnough left)) mine all now r m s le e = omega arith
owed_step t (Settled amount spent) mine all now r m s le e = omega arith
owed_step t (Observed reply) mine all now r m s le e = omega arith

-- no more is reserved than the allowance
pub reserved_most : (allowance : ℕ) (history : List Dealing) → IsLegal (opened allowance) history → (after_all (opened allowance) history).reserved ≤ allowance
reserved_most allowance history l = let t = legal_total (opened allowance) history l in omega arith

-- where one caller makes all calls, its debt changes as what is reserved does
pub owed_by_one : (t : Totals) (history : List Dealing) → IsLegal t history → owed_after_all t.reserved history ≡ (after_all t history).reserved
owed_by_one t [] l = refl
owed_by_one t (d ∷ ds) l = ap (λ (n : ℕ). owed_after_all n ds) (one t d l.0) ∙ owed_by_one (after t d) ds l.1
  where
    one : (t : Totals) (d : Dealing) → IsAnswered t d → owed_after t.reserved d ≡ (after t d).reserved
    one t (Reserved amount (Took a)) r = refl
    one t (Reserved amount (NotEnough left)) r = refl
    one t (Settled amount spent) r = refl
    one t (Observed reply) r = refl

-- a call adds to what its caller owes what it takes, and takes from it what it settles
pub owed_balance : (owed : ℕ) (d : Dealing) → MayMake owed d → owed_after owed d + amount_settled d ≡ owed + amount_taken d
owed_balance owed (Reserved amount (Took a)) m = omega arith
owed_balance owed (Reserved amount (NotEnough left)) m = omega arith
owed_balance owed (Settled amount spent) m = omega arith
owed_balance owed (Observed reply) m = omega arith

-- the last call of a legal history is answered
pub legal_last : (t : Totals) (history : List Dealing) (d : Dealing) → IsLegal t (history ++ d ∷ []) → IsAnswered (after_all t history) d
legal_last t [] d l = l.0
legal_last t (x ∷ xs) d l = legal_last (after t x) xs d l.1
