-- Each kind of step keeps the rule.
use Rattle.std.proofs.Common.{◌≡◌, ◌≢◌, ◌⊎◌, inl, inr, ℕ, zero, suc, ◌+◌, ◌-◌, ◌≤◌, ◌<◌, List, [], ◌∷◌, ◌++◌, length, set, Bool, true, false, refl, sym, ap, ◌∙◌, subst, ⊎_elim, arith, length-append}
use Rattle.std.specs.Prelude.{slice_index, nat_le, nat_eq, if◌then◌else◌, MatchBool}
use mathlib.Core.Option.{some, some-ne-none, some-injective}
use lib.ListN.{get_elem?}
use lib.Pointwise.{pointwise, bytes_decides}
use Rattle.atomic_table.proofs.Lists.{at_set, set_again}
use Rattle.crossbeam_utils.specs.Register.{Turns, Forks, Merges}
use Rattle.step_purse.specs.declared.dealings.Totals.{Totals}
use Rattle.step_purse.specs.declared.dealings.Reply.TheVariants.{NotEnough}
use Rattle.step_purse.specs.declared.dealings.Dealing.{Dealing}
use Rattle.step_purse.specs.declared.dealings.Dealing.TheVariants.{Reserved, Observed}
use Rattle.step_purse.specs.declared.views.View.{View}
use Rattle.step_purse.specs.declared.views.Share.{Share}
use Rattle.step_purse.specs.Shares.{half, IsWhole}
use Rattle.step_purse.specs.Plain.{opened, total, IsAnswered, after, after_all, IsLegal, owed_after, MayMake}
use Rattle.step_purse.specs.Histories.{Begins, Stand, total_of, times_at, IsSound, Makes}
use Rattle.step_purse.specs.Rule.{blank, idle, MayCall}
use Rattle.step_purse.specs.inner.Rule.{
  withheld,
  words_of,
  totals_in,
  AddsUp,
  once_below,
  AreSeen,
  left_behind,
  Knows,
  Fits,
  AreWhole,
  IsOpened,
  IsUnopened,
  Kept,
  SameBut,
  asked,
  exchanged,
  counted,
  peeked,
  learned,
  giving,
  joined,
}
use Rattle.step_purse.proofs.Calls.{refuses, legal_total, after_snoc, legal_snoc, owed_step}
use Rattle.step_purse.proofs.Lists.{sum_set, sum_snoc, sum_has, there_set, get_snoc, stand_more, stand_append, stand_seen, seen_first, seen_second, seen_append, seen_at, begins_more, begins_all, begins_whole, begins_itself, begins_none, fits_more, times_snoc, times_append, below_snoc, below_one, below_last, views_set, views_snoc}
use Rattle.step_purse.proofs.Shares.{IsPlaced, both_part, alone_counts, same_shares, moved_shares, halved_shares, joined_shares}

not_blank : (id : ℕ) (v : View) → get_elem? (blank ∷ []) id ≡ some v → v.opened ≡ true → ⊥
not_blank zero v at o = let e = ap (λ (u : View). u.opened) (some-injective blank v at) in cc
not_blank (suc id) v at o = some-ne-none v (sym at)

-- a pass isn't the view that joined passes leave
knows_of : (allowance : ℕ) (history : List Dealing) (v : View) → Fits allowance history v → 0 < v.known.share.parts → Knows allowance history v
knows_of allowance history v f part = ⊎_elim (λ (l : v ≡ left_behind). let e = ap (λ (u : View). u.known.share.parts) l in absurd (omega arith)) (λ (k : Knows allowance history v). k) f

placed : (allowance : ℕ) (history : List Dealing) (v : View) → Fits allowance history v → IsPlaced v
placed allowance history v f = ⊎_elim (λ (l : v ≡ left_behind). inl l) (λ (k : Knows allowance history v). inr k.part) f

-- a pass of a purse knows that its cell is the purse's, and with which allowance
pub opened_of : (words : List ℕ) (views : List View) (id : ℕ) (v : View) → Kept words views → get_elem? views id ≡ some v → v.opened ≡ true → 0 < v.known.share.parts → IsOpened v.allowance words views
opened_of words views id v k at o part =
    ⊎_elim
    (λ (u : IsUnopened words views). absurd (not_blank id v (subst (λ (l : List View). get_elem? l id ≡ some v) u.1 at) o))
    (λ (l : (allowance : ℕ) × IsOpened allowance words views). subst (λ (a : ℕ). IsOpened a words views) (sym (knows_of l.0 l.1.history v (l.1.knows id v at) part).agrees) l.1)
    k

-- words are read as they were written
read_back : (allowance : ℕ) (t : Totals) → totals_in allowance (words_of allowance t) ≡ t
read_back allowance t = let e : t.left + withheld allowance - withheld allowance ≡ t.left = omega arith in ap (λ (n : ℕ). record { left = n; reserved = t.reserved; spent = t.spent }) e

-- the words tell the totals
totals_now : (allowance : ℕ) (words : List ℕ) (views : List View) → (k : IsOpened allowance words views) → totals_in allowance words ≡ after_all (opened allowance) k.history
totals_now allowance words views k = ap (totals_in allowance) k.now ∙ read_back allowance (after_all (opened allowance) k.history)

words_back : (allowance : ℕ) (words : List ℕ) (views : List View) → (k : IsOpened allowance words views) → words_of allowance (totals_in allowance words) ≡ words
words_back allowance words views k = ap (words_of allowance) (totals_now allowance words views k) ∙ sym k.now

adds : (allowance : ℕ) (words : List ℕ) (views : List View) → IsOpened allowance words views → AddsUp allowance words
adds allowance words views k =
    let e : slice_index words 0 ≡ (after_all (opened allowance) k.history).left + withheld allowance = ap (λ (l : List ℕ). slice_index l 0) k.now in
    record {
      held = omega arith;
      total = ap total (totals_now allowance words views k) ∙ (legal_total (opened allowance) k.history k.legal ∙ (omega arith));
    }

reserved_at : (allowance : ℕ) (words : List ℕ) (views : List View) → (k : IsOpened allowance words views) → slice_index words 1 ≡ (after_all (opened allowance) k.history).reserved
reserved_at allowance words views k = ap (λ (l : List ℕ). slice_index l 1) k.now

same_sum : (f : View → ℕ) (views : List View) (id : ℕ) (v w : View) → get_elem? views id ≡ some v → f w ≡ f v → total_of f (set views id w) ≡ total_of f views
same_sum f views id v w at e = let s = sum_set f views id v w at in omega arith

-- what one pass counts is all that is counted, where its share is the whole
alone : (f : View → ℕ) → f left_behind ≡ 0 → (allowance : ℕ) (words : List ℕ) (views : List View) (id : ℕ) (v : View) → IsOpened allowance words views → get_elem? views id ≡ some v → IsWhole v.known.share → total_of f views ≡ f v
alone f none allowance words views id v k at is_whole = alone_counts f none views id v k.shares (λ j u e. placed allowance k.history u (k.knows j u e)) at is_whole

-- who holds the whole share has seen all of the history, in one of its two beginnings
all_seen : (allowance : ℕ) (words : List ℕ) (views : List View) (id : ℕ) (v : View) → (k : IsOpened allowance words views) → get_elem? views id ≡ some v → Knows allowance k.history v → IsWhole v.known.share
    → (length k.history ≤ length v.known.seen) ⊎ (length k.history ≤ length v.beside)
all_seen allowance words views id v k at mine is_whole = go (length k.history) refl
  where
    go : (n : ℕ) → length k.history ≡ n → (length k.history ≤ length v.known.seen) ⊎ (length k.history ≤ length v.beside)
    go zero e = inl (omega arith)
    go (suc n) e =
        let own = alone (λ (u : View). times_at n u.known.calls) refl allowance words views id v k at is_whole in
        let last : once_below n (length k.history) ≡ 1 = rw e (below_last n) in
        let here = k.once n in
        ⊎_elim
        (λ (l : n < length v.known.seen). inl (omega arith))
        (λ (l : n < length v.beside). inr (omega arith))
        (seen_at v.known.seen v.beside v.known.calls n mine.own_seen (omega arith))

-- so where it isn't amid a join, it has seen all
nothing_between : (allowance : ℕ) (words : List ℕ) (views : List View) (id : ℕ) (v : View) → (k : IsOpened allowance words views) → get_elem? views id ≡ some v → (mine : Knows allowance k.history v) → v.beside ≡ [] → IsWhole v.known.share → mine.seen.0 ≡ []
nothing_between allowance words views id v k at mine rested is_whole =
    let none : length v.beside ≡ 0 = ap length rested in
    begins_all v.known.seen k.history mine.seen (⊎_elim (λ (l : length k.history ≤ length v.known.seen). l) (λ (l : length k.history ≤ length v.beside). omega arith) (all_seen allowance words views id v k at mine is_whole))

-- what a pass knows once it has seen the whole history
sound : (allowance : ℕ) (words : List ℕ) (views : List View) (id : ℕ) (w : View) → (k : IsOpened allowance words views) → get_elem? views id ≡ some w → Knows allowance k.history w → w.known.seen ≡ k.history → IsSound allowance w.known
sound allowance words views id w k at mine all =
    let back : k.history ≡ w.known.seen = sym all in
    let owed : w.known.owes ≤ (after_all (opened allowance) k.history).reserved = (let h = sum_has (λ (u : View). u.known.owes) views id w at in let o = k.owed in omega arith) in
    record {
      legal = subst (IsLegal (opened allowance)) back k.legal;
      stand = subst (λ (h : List Dealing). Stand h w.known.calls) back mine.calls;
      once = λ place. let h = sum_has (λ (u : View). times_at place u.known.calls) views id w at in let b = below_one place (length k.history) in let c = k.once place in omega arith;
      reserved = subst (λ (h : List Dealing). w.known.owes ≤ (after_all (opened allowance) h).reserved) back owed;
    }

-- a view after a call, made where the history is this
abbrev grown : View → List Dealing → Dealing → View
grown v history d =
    record {
      opened = v.opened;
      allowance = v.allowance;
      known = record { seen = history ++ d ∷ []; calls = v.known.calls ++ (length history, d) ∷ []; owes = owed_after v.known.owes d; share = v.known.share };
      beside = v.beside;
    }

-- A call of one pass, whose reply is that of the purse of one thread at these words
pub extends : (words : List ℕ) (views : List View) (id : ℕ) (v : View) (d : Dealing) → (k : IsOpened v.allowance words views) → get_elem? views id ≡ some v → MayCall v → IsAnswered (totals_in v.allowance words) d → MayMake v.known.owes d
    → (w : View) × IsOpened v.allowance (words_of v.allowance (after (totals_in v.allowance words) d)) (set views id w) × SameBut v w × Makes v.allowance v.known d w.known
extends words views id v d k at m answered may =
    let a = v.allowance in
    let t : Totals = after_all (opened a) k.history in
    let is : totals_in a words ≡ t = totals_now a words views k in
    let fits : IsAnswered t d = subst (λ (x : Totals). IsAnswered x d) is answered in
    let w : View = grown v k.history d in
    let mine = knows_of a k.history v (k.knows id v at) m.part in
    let all : List Dealing = k.history ++ d ∷ [] in
    let stands : Stand all w.known.calls = stand_append all v.known.calls ((length k.history, d) ∷ []) (stand_more k.history (d ∷ []) v.known.calls mine.calls) (get_snoc k.history d, tt) in
    let next : after_all (opened a) all ≡ after t d = after_snoc (opened a) k.history d in
    let grows : Knows a all w = record {
      opened = mine.opened;
      part = mine.part;
      agrees = refl;
      seen = begins_itself all;
      beside = begins_more v.beside k.history (d ∷ []) mine.beside;
      calls = stands;
      own_seen = stand_seen all v.beside w.known.calls stands;
    } in
    let kept : IsOpened a (words_of a (after (totals_in a words) d)) (set views id w) = record {
      history = all;
      small = k.small;
      legal = legal_snoc (opened a) k.history d k.legal fits;
      now = ap (λ (x : Totals). words_of a (after x d)) is ∙ ap (words_of a) (sym next);
      once = λ n.
          let s = sum_set (λ (u : View). times_at n u.known.calls) views id v w at in
          let c = times_snoc n v.known.calls (length k.history) d in
          let b = below_snoc n (length k.history) in
          let l : length all ≡ length k.history + 1 = length-append k.history (d ∷ []) in
          let z = k.once n in
          rw l (omega arith);
      owed =
          owed_step t d v.known.owes (total_of (λ (u : View). u.known.owes) views) (total_of (λ (u : View). u.known.owes) (set views id w)) fits may k.owed (sum_has (λ (u : View). u.known.owes) views id v at) (sum_set (λ (u : View). u.known.owes) views id v w at)
          ∙ ap (λ (x : Totals). x.reserved) (sym next);
      shares = same_shares views id v w at refl k.shares;
      knows = views_set (Fits a all) views id w (inr grows) (λ j u e. fits_more a k.history (d ∷ []) u (k.knows j u e));
    } in (
      w,
      kept,
      record { opened = refl; allowance = refl; beside = refl },
      record {
        between = mine.seen.0;
        seen = ap (λ (l : List Dealing). l ++ d ∷ []) mine.seen.1;
        calls = ap (λ (l : List Dealing). v.known.calls ++ (length l, d) ∷ []) mine.seen.1;
        covered = may;
        owes = refl;
        share = refl;
        alone = nothing_between a words views id v k at mine m.rested;
        sound = sound a _ (set views id w) id w kept (there_set views id v w at) grows refl;
      },
    )

-- a call after which the words are the same
unmoved : (words : List ℕ) (views : List View) (id : ℕ) (v : View) (d : Dealing) → IsOpened v.allowance words views → get_elem? views id ≡ some v → MayCall v → IsAnswered (totals_in v.allowance words) d → MayMake v.known.owes d → after (totals_in v.allowance words) d ≡ totals_in v.allowance words
    → (w : View) × Kept words (set views id w) × SameBut v w × Makes v.allowance v.known d w.known
unmoved words views id v d k at m answered may same =
    let e = extends words views id v d k at m answered may in
    let back : words_of v.allowance (after (totals_in v.allowance words) d) ≡ words = ap (words_of v.allowance) same ∙ words_back v.allowance words views k in
    (e.0, inr (v.allowance, subst (λ (y : List ℕ). IsOpened v.allowance y (set views id e.0)) back e.1), e.2, e.3)

stays : (words : List ℕ) (views : List View) (id : ℕ) (v : View) → Kept words views → get_elem? views id ≡ some v → Kept words (set views id v)
stays words views id v k at = subst (λ (l : List View). Kept words l) (sym (set_again views id v at)) k

same_view : (v : View) → SameBut v v
same_view v = record { opened = refl; allowance = refl; beside = refl }

pub asks : (id : ℕ) (v : View) (amount : ℕ) → MayCall v → Turns Kept id v (λ x. x) (asked amount)
asks id v amount m x views k at = go (nat_le amount (totals_in v.allowance x).left) refl
  where
    left : ℕ
    left = (totals_in v.allowance x).left

    last : IsOpened v.allowance x views
    last = opened_of x views id v k at m.opened m.part

    go : (b : Bool) → nat_le amount (totals_in v.allowance x).left ≡ b
        → (w : View) × Kept x (set views id w) × (AddsUp v.allowance x × SameBut v w × MatchBool b (w.known ≡ v.known) (Makes v.allowance v.known (Reserved amount (NotEnough (totals_in v.allowance x).left)) w.known))
    go true is = (v, stays x views id v k at, (adds v.allowance x views last, same_view v, refl))
    go false is =
        let t = unmoved x views id v (Reserved amount (NotEnough (totals_in v.allowance x).left)) last at m (refuses (totals_in v.allowance x) amount is) tt refl in
        (t.0, t.1, (adds v.allowance x views last, t.2, t.3))

pub counts : (id : ℕ) (v : View) → MayCall v → Turns Kept id v (λ x. x) counted
counts id v m x views k at =
    let last = opened_of x views id v k at m.opened m.part in
    let t = unmoved x views id v (Observed (totals_in v.allowance x)) last at m refl tt refl in
    (t.0, t.1, (adds v.allowance x views last, t.2, t.3, λ is_whole. reserved_at v.allowance x views last ∙ (sym last.owed ∙ alone (λ (u : View). u.known.owes) refl v.allowance x views id v last at is_whole)))

pub peeks : (id : ℕ) (v : View) → MayCall v → Turns Kept id v (λ x. x) peeked
peeks id v m x views k at =
    let last = opened_of x views id v k at m.opened m.part in
    let h = sum_has (λ (u : View). u.known.owes) views id v at in
    let s = last.owed in
    let r = reserved_at v.allowance x views last in
    (v, stays x views id v k at, (adds v.allowance x views last, omega arith, refl))

pub exchanges : (id : ℕ) (v : View) (now : Totals) (expected next : List ℕ) (d : Dealing) → MayCall v → expected ≡ words_of v.allowance now → IsAnswered now d → MayMake v.known.owes d → next ≡ words_of v.allowance (after now d)
    → Turns Kept id v (λ x. if pointwise nat_eq x expected then next else x) (exchanged expected d)
exchanges id v now expected next d m means answered may to x views k at = go (pointwise nat_eq x expected) refl
  where
    go : (b : Bool) → pointwise nat_eq x expected ≡ b
        → (w : View) × Kept (if b then next else x) (set views id w) × (SameBut v w × MatchBool b (Makes v.allowance v.known d w.known) (w.known ≡ v.known))
    go true is =
        let found : x ≡ words_of v.allowance now = (bytes_decides x expected).0 is ∙ means in
        let tells : totals_in v.allowance x ≡ now = ap (totals_in v.allowance) found ∙ read_back v.allowance now in
        let e = extends x views id v d (opened_of x views id v k at m.opened m.part) at m (subst (λ (t : Totals). IsAnswered t d) (sym tells) answered) may in
        let becomes : words_of v.allowance (after (totals_in v.allowance x) d) ≡ next = ap (λ (t : Totals). words_of v.allowance (after t d)) tells ∙ sym to in
        (e.0, inr (v.allowance, subst (λ (y : List ℕ). IsOpened v.allowance y (set views id e.0)) becomes e.1), (e.2, e.3))
    go false is = (v, stays x views id v k at, (same_view v, refl))

-- the views change, and what they have made and owe in all does not
rearranged : (allowance : ℕ) (words : List ℕ) (views new : List View) → (k : IsOpened allowance words views) → ((n : ℕ) → total_of (λ (u : View). times_at n u.known.calls) new ≡ total_of (λ (u : View). times_at n u.known.calls) views)
    → total_of (λ (u : View). u.known.owes) new ≡ total_of (λ (u : View). u.known.owes) views → AreWhole new → ((j : ℕ) (u : View) → get_elem? new j ≡ some u → Fits allowance k.history u) → IsOpened allowance words new
rearranged allowance words views new k once owed shares knows =
    record { history = k.history; small = k.small; legal = k.legal; now = k.now; once = λ n. once n ∙ k.once n; owed = owed ∙ k.owed; shares = shares; knows = knows }

pub learns : (id : ℕ) (v : View) → v.opened ≡ true → 0 < v.known.share.parts → Turns Kept id v (λ x. x) learned
unfolding rearranged opened_of
learns id v o part x views k at =
    let last = opened_of x views id v k at o part in
    let w : View = record {
      opened = v.opened;
      allowance = v.allowance;
      known = record { seen = last.history; calls = v.known.calls; owes = v.known.owes; share = v.known.share };
      beside = [];
    } in
    let mine = knows_of v.allowance last.history v (last.knows id v at) part in
    let learnt : Knows v.allowance last.history w = record {
      opened = o;
      part = part;
      agrees = refl;
      seen = begins_itself last.history;
      beside = begins_none last.history;
      calls = mine.calls;
      own_seen = stand_seen last.history [] v.known.calls mine.calls;
    } in
    let same : (f : View → ℕ) → f w ≡ f v → total_of f (set views id w) ≡ total_of f views = (λ f e. same_sum f views id v w at e) in
    let kept : IsOpened v.allowance x (set views id w) =
    rearranged v.allowance x views (set views id w) last (λ n. same (λ (u : View). times_at n u.known.calls) refl) (same (λ (u : View). u.known.owes) refl)
    (same_shares views id v w at refl last.shares)
    (views_set (Fits v.allowance last.history) views id w (inr learnt) last.knows)
    in (
      w,
      inr (v.allowance, kept),
      record {
        opened = refl;
        allowance = refl;
        beside = refl;
        first_seen = mine.seen;
        second_seen = mine.beside;
        calls = refl;
        owes = refl;
        share = refl;
        alone = λ is_whole.
            ⊎_elim
            (λ (l : length last.history ≤ length v.known.seen). inl (begins_whole v.known.seen last.history mine.seen l))
            (λ (l : length last.history ≤ length v.beside). inr (begins_whole v.beside last.history mine.beside l))
            (all_seen v.allowance x views id v last at mine is_whole);
        sound = sound v.allowance x (set views id w) id w kept (there_set views id v w at) learnt refl;
      },
    )

pub idle_knows : (allowance : ℕ) (history seen : List Dealing) (share : Share) → 0 < share.parts → Begins seen history → Knows allowance history (idle allowance seen share)
idle_knows allowance history seen share part b = record { opened = refl; part = part; agrees = refl; seen = b; beside = begins_none history; calls = tt; own_seen = tt }

pub moves : (id : ℕ) (v : View) → MayCall v → Forks Kept id v left_behind v
moves id v m x views k at =
    let last = opened_of x views id v k at m.opened m.part in
    let new : List View = set views id left_behind ++ v ∷ [] in
    let same : (f : View → ℕ) → f left_behind ≡ 0 → total_of f new ≡ total_of f views =
    (λ f e. let s = sum_set f views id v left_behind at in let t = sum_snoc f (set views id left_behind) v in omega arith)
    in
    inr (
      v.allowance,
      rearranged v.allowance x views new last (λ n. same (λ (u : View). times_at n u.known.calls) refl) (same (λ (u : View). u.known.owes) refl)
          (moved_shares views id v at last.shares)
          (views_snoc (Fits v.allowance last.history) (set views id left_behind) v (last.knows id v at)
          (views_set (Fits v.allowance last.history) views id left_behind (inl refl) last.knows)),
    )

pub tells : (id : ℕ) (v : View) → MayCall v → Forks Kept id v (giving v) (idle v.allowance v.known.seen (half v.known.share))
tells id v m x views k at =
    let last = opened_of x views id v k at m.opened m.part in
    let w : View = giving v in
    let u : View = idle v.allowance v.known.seen (half v.known.share) in
    let new : List View = set views id w ++ u ∷ [] in
    let mine = knows_of v.allowance last.history v (last.knows id v at) m.part in
    let sum : (f : View → ℕ) → total_of f new + f v ≡ total_of f views + f w + f u =
    (λ f. let s = sum_set f views id v w at in let t = sum_snoc f (set views id w) u in omega arith)
    in
    let given : Knows v.allowance last.history w =
    record {
      opened = m.opened;
      part = m.part;
      agrees = refl;
      seen = mine.seen;
      beside = mine.beside;
      calls = mine.calls;
      own_seen = mine.own_seen;
    }
    in
    inr (
      v.allowance,
      rearranged v.allowance x views new last (λ n. let s = sum (λ (y : View). times_at n y.known.calls) in omega arith) (let s = sum (λ (y : View). y.known.owes) in omega arith) (halved_shares views id v w u at refl refl last.shares)
          (views_snoc (Fits v.allowance last.history) (set views id w) u (inr (idle_knows v.allowance last.history v.known.seen (half v.known.share) m.part mine.seen))
          (views_set (Fits v.allowance last.history) views id w (inr given) last.knows)),
    )

pub merges : (id : ℕ) (v : View) (other : ℕ) (u : View) → MayCall v → MayCall u → Merges Kept id v other u (joined v u) left_behind
merges id v other u m n x views k at apart there =
    let last = opened_of x views id v k at m.opened m.part in
    let w : View = joined v u in
    let their : get_elem? views other ≡ some u = ⊎_elim (λ (t : (other ≡ id) × (w ≡ u)). absurd (apart t.0)) (λ (t : (other ≢ id) × (get_elem? views other ≡ some u)). t.1) (at_set views id other w u there) in
    let new : List View = set (set views id w) other left_behind in
    let a = knows_of v.allowance last.history v (last.knows id v at) m.part in
    let b = knows_of v.allowance last.history u (last.knows other u their) n.part in
    let same : (f : View → ℕ) → f left_behind ≡ 0 → f w ≡ f v + f u → total_of f new ≡ total_of f views =
    (λ f e g. let s = sum_set f views id v w at in let t = sum_set f (set views id w) other u left_behind there in omega arith)
    in
    let first : AreSeen v.known.seen u.known.seen v.known.calls = seen_first v.known.seen u.known.seen v.known.calls (subst (λ (l : List Dealing). AreSeen v.known.seen l v.known.calls) m.rested a.own_seen) in
    let second : AreSeen v.known.seen u.known.seen u.known.calls = seen_second u.known.seen v.known.seen u.known.calls (subst (λ (l : List Dealing). AreSeen u.known.seen l u.known.calls) n.rested b.own_seen) in
    let together : Knows v.allowance last.history w =
    record {
      opened = a.opened;
      part = both_part v.known.share u.known.share a.part;
      agrees = refl;
      seen = a.seen;
      beside = b.seen;
      calls = stand_append last.history v.known.calls u.known.calls a.calls b.calls;
      own_seen = seen_append v.known.seen u.known.seen v.known.calls u.known.calls first second;
    }
    in
    inr (
      v.allowance,
      rearranged v.allowance x views new last
          (λ n. same (λ (y : View). times_at n y.known.calls) refl (times_append n v.known.calls u.known.calls))
          (same (λ (y : View). y.known.owes) refl refl)
          (joined_shares views id other v u w at their there refl last.shares)
          (views_set (Fits v.allowance last.history) (set views id w) other left_behind (inl refl)
          (views_set (Fits v.allowance last.history) views id w (inr together) last.knows)),
    )
