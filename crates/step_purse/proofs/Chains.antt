-- Laws of calls in order.
use Rattle.std.proofs.Common.{◌≡◌, ℕ, ◌+◌, ◌≤◌, List, [], ◌∷◌, ◌++◌, length, map, refl, sym, ap, ◌∙◌, subst, arith, append_assoc}
use Rattle.step_purse.specs.declared.dealings.Totals.{Totals}
use Rattle.step_purse.specs.declared.dealings.Dealing.{Dealing}
use Rattle.step_purse.specs.declared.views.Books.{Books}
use Rattle.step_purse.specs.Plain.{opened, after_all, IsLegal, PlainlyLeads, owed_after_all, total_taken, total_settled}
use Rattle.step_purse.specs.Shares.{IsWhole}
use Rattle.step_purse.specs.Histories.{Begins, IsSound, Makes, Leads, totals_seen, own_calls}
use Rattle.step_purse.proofs.Lists.{append_nil}
use Rattle.step_purse.proofs.Calls.{after_snoc, owed_balance, reserved_most, legal_last}

-- two chains in a row are one
pub leads_append : (allowance : ℕ) (first next last : Books) (ds es : List Dealing) → Leads allowance first ds next → Leads allowance next es last → Leads allowance first (ds ++ es) last
leads_append allowance first next last [] es l m = subst (λ (k : Books). Leads allowance k es last) l m
leads_append allowance first next last (d ∷ ds) es l m = (l.0, l.1, leads_append allowance l.0 next last ds es l.2 m)

pub leads_snoc : (allowance : ℕ) (first next last : Books) (ds : List Dealing) (d : Dealing) → Leads allowance first ds next → Makes allowance next d last → Leads allowance first (ds ++ d ∷ []) last
leads_snoc allowance first next last ds d l m = leads_append allowance first next last ds (d ∷ []) l (last, m, refl)

pub share_kept : (allowance : ℕ) (before : Books) (ds : List Dealing) (now : Books) → Leads allowance before ds now → now.share ≡ before.share
share_kept allowance before [] now l = ap (λ (k : Books). k.share) l
share_kept allowance before (d ∷ ds) now l = share_kept allowance l.0 ds now l.2 ∙ l.1.share

pub owed_along : (allowance : ℕ) (before : Books) (ds : List Dealing) (now : Books) → Leads allowance before ds now → now.owes ≡ owed_after_all before.owes ds
owed_along allowance before [] now l = ap (λ (k : Books). k.owes) l
owed_along allowance before (d ∷ ds) now l = owed_along allowance l.0 ds now l.2 ∙ ap (λ (n : ℕ). owed_after_all n ds) l.1.owes

pub balance_along : (allowance : ℕ) (before : Books) (ds : List Dealing) (now : Books) → Leads allowance before ds now → now.owes + total_settled ds ≡ before.owes + total_taken ds
balance_along allowance before [] now l = let e = ap (λ (k : Books). k.owes) l in omega arith
balance_along allowance before (d ∷ ds) now l =
    let rest = balance_along allowance l.0 ds now l.2 in
    let here = owed_balance before.owes d l.1.covered in
    let owes = l.1.owes in
    omega arith

dealings_append : (cs us : List (ℕ × Dealing)) → map (λ (c : ℕ × Dealing). c.1) (cs ++ us) ≡ map (λ (c : ℕ × Dealing). c.1) cs ++ map (λ (c : ℕ × Dealing). c.1) us
dealings_append [] us = refl
dealings_append (c ∷ cs) us = ap (λ l. c.1 ∷ l) (dealings_append cs us)

pub own_along : (allowance : ℕ) (before : Books) (ds : List Dealing) (now : Books) → Leads allowance before ds now → own_calls now ≡ own_calls before ++ ds
own_along allowance before [] now l = ap own_calls l ∙ sym (append_nil (own_calls before))
own_along allowance before (d ∷ ds) now l =
    let made : own_calls l.0 ≡ own_calls before ++ d ∷ [] = ap (λ cs. map (λ (c : ℕ × Dealing). c.1) cs) l.1.calls ∙ dealings_append before.calls ((length (before.seen ++ l.1.between), d) ∷ []) in
    own_along allowance l.0 ds now l.2 ∙ (ap (λ (own : List Dealing). own ++ ds) made ∙ append_assoc (own_calls before) (d ∷ []) ds)

pub seen_along : (allowance : ℕ) (before : Books) (ds : List Dealing) (now : Books) → Leads allowance before ds now → Begins before.seen now.seen
seen_along allowance before [] now l = ([], ap (λ (k : Books). k.seen) l ∙ sym (append_nil before.seen))
seen_along allowance before (d ∷ ds) now l =
    let more = seen_along allowance l.0 ds now l.2 in
    let all : now.seen ≡ ((before.seen ++ l.1.between) ++ d ∷ []) ++ more.0 = more.1 ∙ ap (λ (s : List Dealing). s ++ more.0) l.1.seen in (
      l.1.between ++ (d ∷ more.0),
      all ∙ (append_assoc (before.seen ++ l.1.between) (d ∷ []) more.0 ∙ append_assoc before.seen l.1.between (d ∷ more.0)),
    )

-- who has the whole share sees its call follow what it had seen
pub alone_next : (allowance : ℕ) (before : Books) (d : Dealing) (now : Books) → Makes allowance before d now → IsWhole before.share → now.seen ≡ before.seen ++ d ∷ []
alone_next allowance before d now m is_whole = m.seen ∙ ap (λ (s : List Dealing). s ++ d ∷ []) (ap (λ (b : List Dealing). before.seen ++ b) (m.alone is_whole) ∙ append_nil before.seen)

-- and is answered as by a purse of one thread
pub alone_deals : (allowance : ℕ) (before : Books) (d : Dealing) (now : Books) → Makes allowance before d now → IsWhole before.share → PlainlyLeads (totals_seen allowance before) d (totals_seen allowance now)
alone_deals allowance before d now m is_whole =
    let next : now.seen ≡ before.seen ++ d ∷ [] = alone_next allowance before d now m is_whole in (
      legal_last (opened allowance) before.seen d (subst (IsLegal (opened allowance)) next m.sound.legal),
      ap (after_all (opened allowance)) next ∙ after_snoc (opened allowance) before.seen d,
    )

pub alone_seen : (allowance : ℕ) (before : Books) (ds : List Dealing) (now : Books) → Leads allowance before ds now → IsWhole before.share → now.seen ≡ before.seen ++ ds
alone_seen allowance before [] now l is_whole = ap (λ (k : Books). k.seen) l ∙ sym (append_nil before.seen)
alone_seen allowance before (d ∷ ds) now l is_whole =
    let next = alone_next allowance before d l.0 l.1 is_whole in
    let rest = alone_seen allowance l.0 ds now l.2 (subst IsWhole (sym l.1.share) is_whole) in
    rest ∙ (ap (λ (s : List Dealing). s ++ ds) next ∙ append_assoc before.seen (d ∷ []) ds)

pub alone_legal : (allowance : ℕ) (before : Books) (ds : List Dealing) (now : Books) → Leads allowance before ds now → IsWhole before.share → IsLegal (totals_seen allowance before) ds × (totals_seen allowance now ≡ after_all (totals_seen allowance before) ds)
alone_legal allowance before [] now l is_whole = (tt, ap (totals_seen allowance) l)
alone_legal allowance before (d ∷ ds) now l is_whole =
    let here = alone_deals allowance before d l.0 l.1 is_whole in
    let rest = alone_legal allowance l.0 ds now l.2 (subst IsWhole (sym l.1.share) is_whole) in (
      (here.0, subst (λ (t : Totals). IsLegal t ds) here.1 rest.0),
      rest.1 ∙ ap (λ (t : Totals). after_all t ds) here.1,
    )

pub owes_most : (allowance : ℕ) (k : Books) → IsSound allowance k → k.owes ≤ allowance
owes_most allowance k s = let most = reserved_most allowance k.seen s.legal in let owed = s.reserved in omega arith
