-- The rule of a purse's cell: what its three words say, what each pass knows, and the seven kinds of step. This
-- project's own. The words are what is left, reserved and spent. The first counts what the purse withholds too: the greatest
-- allowance less its own. So the three add up to 2^62 in every purse, and every cell begins with the same words.
use Rattle.std.specs.Prelude.{◌≡◌, ◌⊎◌, ℕ, ◌+◌, ◌-◌, ◌*◌, ◌^◌, ◌≤◌, ◌<◌, nat_lt, nat_le, nat_eq, if◌then◌else◌}
use Rattle.std.specs.Prelude.{List, [], ◌∷◌, ◌++◌, length, slice_index, MatchBool, true}
use mathlib.Core.Option.{some}
use lib.ListN.{get_elem?}
use lib.Pointwise.{pointwise}
use Rattle.step_purse.specs.declared.dealings.Totals.{Totals}
use Rattle.step_purse.specs.declared.dealings.Reply.TheVariants.{NotEnough}
use Rattle.step_purse.specs.declared.dealings.Dealing.{Dealing}
use Rattle.step_purse.specs.declared.dealings.Dealing.TheVariants.{Reserved, Observed}
use Rattle.step_purse.specs.declared.views.View.{View}
use Rattle.step_purse.specs.Plain.{opened, total, after_all, IsLegal}
use Rattle.step_purse.specs.Shares.{no_share, both_shares, IsWhole}
use Rattle.step_purse.specs.Histories.{Begins, Stand, total_of, times_at, gives_half, IsSound, Makes}
use Rattle.step_purse.specs.Rule.{blank, idle}

-- what a purse of this allowance never gives out
abbrev pub withheld : ℕ → ℕ
withheld allowance = 2 ^ 62 - allowance

abbrev pub words_of : ℕ → Totals → List ℕ
words_of allowance t = (t.left + withheld allowance) ∷ t.reserved ∷ t.spent ∷ []

abbrev pub totals_in : ℕ → List ℕ → Totals
totals_in allowance words =
    record { left = slice_index words 0 - withheld allowance; reserved = slice_index words 1; spent = slice_index words 2 }

-- the words are those of a purse of this allowance
pub record AddsUp (allowance : ℕ) (words : List ℕ) : Type 0 where
  pub held : withheld allowance ≤ slice_index words 0
  pub total : total (totals_in allowance words) ≡ allowance

-- 1 below n, and else 0
abbrev pub once_below : ℕ → ℕ → ℕ
once_below k n = if nat_lt k n then 1 else 0

-- each of these calls is in one of two beginnings of the history
abbrev pub AreSeen : List Dealing → List Dealing → List (ℕ × Dealing) → Type 0
AreSeen seen beside [] = Unit {0}
AreSeen seen beside (c ∷ cs) = ((c.0 < length seen) ⊎ (c.0 < length beside)) × AreSeen seen beside cs

-- the one view that a pass leaves when it is joined to another: it has no call, owes nothing and has no share
abbrev pub left_behind : View
left_behind = idle 0 [] no_share

-- what a pass knows is true of the history
pub record Knows (allowance : ℕ) (history : List Dealing) (v : View) : Type 0 where
  pub opened : v.opened ≡ true
  pub part : 0 < v.known.share.parts
  pub agrees : v.allowance ≡ allowance
  pub seen : Begins v.known.seen history
  pub beside : Begins v.beside history
  pub calls : Stand history v.known.calls
  pub own_seen : AreSeen v.known.seen v.beside v.known.calls

-- the view is the one that joined passes leave, or what it knows is true
abbrev pub Fits : ℕ → List Dealing → View → Type 0
Fits allowance history v = (v ≡ left_behind) ⊎ Knows allowance history v

-- how many parts a view has, each of them the whole halved so many times
abbrev pub parts_of : ℕ → View → ℕ
parts_of halvings v = v.known.share.parts * 2 ^ (halvings - v.known.share.halvings)

-- the shares of all views are the whole: of parts that divide each share
pub record AreWhole (views : List View) : Type 0 where
  pub halvings : ℕ
  pub divides : (id : ℕ) (v : View) → get_elem? views id ≡ some v → v.known.share.halvings ≤ halvings
  pub one : total_of (parts_of halvings) views ≡ 2 ^ halvings

-- A legal history from the allowance leads to the words. Each of its calls is one pass's own, and what the passes owe is what is
-- reserved. Their shares are the whole. Each view knows what is true, but the one that joined passes leave
pub record IsOpened (allowance : ℕ) (words : List ℕ) (views : List View) : Type 0 where
  pub history : List Dealing
  pub small : allowance ≤ 2 ^ 62
  pub legal : IsLegal (opened allowance) history
  pub now : words ≡ words_of allowance (after_all (opened allowance) history)
  pub once : (index : ℕ) → total_of (λ (v : View). times_at index v.known.calls) views ≡ once_below index (length history)
  pub owed : total_of (λ (v : View). v.known.owes) views ≡ (after_all (opened allowance) history).reserved
  pub shares : AreWhole views
  pub knows : (id : ℕ) (v : View) → get_elem? views id ≡ some v → Fits allowance history v

abbrev pub IsUnopened : List ℕ → List View → Type 0
IsUnopened words views = (words ≡ 2 ^ 62 ∷ 0 ∷ 0 ∷ []) × (views ≡ blank ∷ [])

abbrev pub Kept : List ℕ → List View → Type 0
Kept words views = IsUnopened words views ⊎ ((allowance : ℕ) × IsOpened allowance words views)

-- what the pass knows changes, and all else of its view stays
pub record SameBut (v w : View) : Type 0 where
  pub opened : w.opened ≡ v.opened
  pub allowance : w.allowance ≡ v.allowance
  pub beside : w.beside ≡ v.beside

-- Refuse or Look: a load is a call of `reserve` where too little is left, and else changes nothing
abbrev pub asked : ℕ → View → List ℕ → List ℕ → View → Type 0
asked amount v x y w =
    let left = (totals_in v.allowance x).left in
    AddsUp v.allowance x × SameBut v w
    × MatchBool (nat_le amount left) (w.known ≡ v.known) (Makes v.allowance v.known (Reserved amount (NotEnough left)) w.known)

-- Reserve, Settle or Look: an exchange is the call where it finds the words that it expects, and else changes nothing
abbrev pub exchanged : List ℕ → Dealing → View → List ℕ → List ℕ → View → Type 0
exchanged expected call v x y w =
    SameBut v w × MatchBool (pointwise nat_eq x expected) (Makes v.allowance v.known call w.known) (w.known ≡ v.known)

-- Read: a load is a call of `totals`. Where the pass has the whole share, it owes what is reserved
abbrev pub counted : View → List ℕ → List ℕ → View → Type 0
counted v x y w =
    AddsUp v.allowance x × SameBut v w × Makes v.allowance v.known (Observed (totals_in v.allowance x)) w.known
    × (IsWhole v.known.share → slice_index x 1 ≡ v.known.owes)

-- Look: a load before a try of `settle`
abbrev pub peeked : View → List ℕ → List ℕ → View → Type 0
peeked v x y w = AddsUp v.allowance x × (v.known.owes ≤ slice_index x 1) × (w ≡ v)

-- the last step of Join: a load that shows the history, which begins with both beginnings
pub record SeesBoth (v w : View) : Type 0 where
  pub opened : w.opened ≡ v.opened
  pub allowance : w.allowance ≡ v.allowance
  pub beside : w.beside ≡ []
  pub first_seen : Begins v.known.seen w.known.seen
  pub second_seen : Begins v.beside w.known.seen
  pub calls : w.known.calls ≡ v.known.calls
  pub owes : w.known.owes ≡ v.known.owes
  pub share : w.known.share ≡ v.known.share
  pub alone : IsWhole w.known.share → (w.known.seen ≡ v.known.seen) ⊎ (w.known.seen ≡ v.beside)
  pub sound : IsSound v.allowance w.known

abbrev pub learned : View → List ℕ → List ℕ → View → Type 0
learned v x y w = SeesBoth v w

-- a view that gave half of its share
abbrev pub giving : View → View
giving v = record { opened = v.opened; allowance = v.allowance; known = gives_half v.known; beside = v.beside }

-- two views joined to one
abbrev pub joined : View → View → View
joined v u =
    record {
      opened = v.opened;
      allowance = v.allowance;
      known = record {
        seen = v.known.seen;
        calls = v.known.calls ++ u.known.calls;
        owes = v.known.owes + u.known.owes;
        share = both_shares v.known.share u.known.share;
      };
      beside = u.known.seen;
    }
