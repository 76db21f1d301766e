-- Cells that wait in a few places before they are added to rows.
use Rattle.std.proofs.Common.{◌≡◌, ◌≤◌, ◌<◌, ◌+◌, ℕ, suc, Bool, true, false, if◌then◌else◌, List, [], ◌∷◌, ◌++◌, refl, sym, ap, ◌∙◌, subst, arith, append-nil, append_assoc, length, get_or}
use Rattle.std.specs.Prelude.{nat_eq}
use Rattle.std.specs.List.{AllByRecursion}
use Rattle.csr_store.specs.Ascending.{Ascends}
use Rattle.csr_store.specs.Grid.{Cell}
use Rattle.csr_store.specs.Run.{Row, Run}
use Rattle.entry_ops.specs.inner.Standing.{CanPush, FollowIn, with_cell, with_cells, with_end}
use Rattle.entry_ops.specs.inner.SelectBuffer.{with_kept, placed, Fits}
use Rattle.entry_ops.specs.declared.select_buffer.Mark.{Mark}
use Rattle.entry_ops.specs.declared.select_buffer.Mark.TheVariants.{End, Selected}
use Rattle.entry_ops.proofs.Standing.{above_less}
use Rattle.entry_ops.proofs.SelectBuffer.{IsSifting, end-placed, keep-within, keep-fits, keep-placed}

ascends-more : (low n : ℕ) (cells : Row) (d : Cell) → Ascends low n cells → low ≤ d.0 → AllByRecursion (λ (c : Cell). c.0 < d.0) cells → d.0 < n
    → Ascends low n (cells ++ d ∷ [])
ascends-more low n [] d h l b u = (l, u, tt)
ascends-more low n (c ∷ cells) d h l b u = (h.0, h.1, ascends-more (suc c.0) n cells d h.2 (let m = b.0 in omega arith) b.1 u)

all_front : (P : Cell → Type 0) (xs ys : Row) → AllByRecursion P (xs ++ ys) → AllByRecursion P xs
all_front P [] ys h = tt
all_front P (x ∷ xs) ys h = (h.0, all_front P xs ys h.1)

all_back : (P : Cell → Type 0) (xs ys : Row) → AllByRecursion P (xs ++ ys) → AllByRecursion P ys
all_back P [] ys h = h
all_back P (x ∷ xs) ys h = all_back P xs ys h.1

-- a cell that may be added behind others follows with them
follow-more : (cells : Row) (d : Cell) (run : Run) → FollowIn cells run → CanPush d.0 (with_cells cells run) → FollowIn (cells ++ d ∷ []) run
follow-more [] d run h p = record {
  low = d.0;
  above = all_front (λ (c : Cell). c.0 < d.0) run.opened [] p.1;
  ascend = (let l : d.0 ≤ d.0 = omega arith in l, p.0, tt);
}
follow-more (c ∷ cells) d run h p =
    let below = all_back (λ (x : Cell). x.0 < d.0) run.opened (c ∷ cells) p.1 in record {
      low = h.low;
      above = h.above;
      ascend = ascends-more h.low run.columns (c ∷ cells) d h.ascend (let l = h.ascend.0 in let m = below.0 in omega arith) below p.0;
    }

with_none : (run : Run) → with_cells [] run ≡ run
with_none run = ap (λ (os : Row). record run { opened = os }) (append-nil run.opened)

-- a column behind all cells
past : Row → ℕ
past [] = 0
past (c ∷ cells) = c.0 + 1 + past cells

all_before_past : (cells : Row) → AllByRecursion (λ (c : Cell). c.0 < past cells) cells
unfolding past
all_before_past [] = tt
all_before_past (c ∷ cells) =
    (omega arith, above_less (past cells) (c.0 + 1 + past cells) cells (all_before_past cells) (omega arith))

-- so nothing follows any row
pub follow-none : (run : Run) → FollowIn [] run
follow-none run = record { low = past run.opened; above = all_before_past run.opened; ascend = tt }

module _ (run : Run) (front : Row) (d : Cell) (answer : ℕ) where
  kept-by : (b : Bool) → with_cells (if b then front else front ++ d ∷ []) run ≡ (if b then with_cells front run else with_cell d.0 d.1 (with_cells front run))
  kept-by true = refl
  kept-by false = ap (λ (os : Row). record run { opened = os }) (sym (append_assoc run.opened front (d ∷ [])))

  -- a cell was put behind others if its answer is not 0
  pub kept-more : (kept : Row) → kept ≡ (if nat_eq answer 0 then front else front ++ d ∷ [])
      → with_cells kept run ≡ with_kept d.0 d.1 answer (with_cells front run)
  kept-more kept e = ap (λ (cs : Row). with_cells cs run) e ∙ kept-by (nat_eq answer 0)

  follow-by : (b : Bool) → FollowIn front run → CanPush d.0 (with_cells front run) → FollowIn (if b then front else front ++ d ∷ []) run
  follow-by true h p = h
  follow-by false h p = follow-more front d run h p

  pub kept-follow : (kept : Row) → kept ≡ (if nat_eq answer 0 then front else front ++ d ∷ []) → FollowIn front run
      → CanPush d.0 (with_cells front run) → FollowIn kept run
  kept-follow kept e h p = subst (λ (cs : Row). FollowIn cs run) (sym e) (follow-by (nat_eq answer 0) h p)

-- ---- marks are placed, and what is kept of the open row waits

-- what stands in the places, how many of them, and the rows
pub record IsKeeping (marks : List Mark) (values : List ℕ) (start : Run) (i next : ℕ) (waiting : Row) (rows : Run) : Type 0 where
  pub follow : FollowIn waiting rows
  pub sifting : IsSifting marks values start i next (with_cells waiting rows)

pub keeping-start : (marks : List Mark) (values : List ℕ) (start : Run) → Fits marks values start → IsKeeping marks values start 0 0 [] start
keeping-start marks values start h =
    let same = sym (with_none start) in record {
      follow = follow-none start;
      sifting = record {
        fits = subst (Fits marks values) same h;
        same = ap (placed marks values) (with_none start);
        few = omega arith;
      };
    }

pub keeping-as : (marks : List Mark) (values : List ℕ) (start : Run) (i next again : ℕ) (waiting kept : Row) (rows new : Run) → again ≡ next
    → kept ≡ waiting → new ≡ rows → IsKeeping marks values start i next waiting rows → IsKeeping marks values start i again kept new
keeping-as marks values start i next again waiting kept rows new n w r h =
    subst (λ k. IsKeeping marks values start i k kept new) (sym n)
    (subst (λ (cs : Row). IsKeeping marks values start i next cs new) (sym w)
    (subst (λ (u : Run). IsKeeping marks values start i next waiting u) (sym r) h))

module _ (marks : List Mark) (values : List ℕ) (start : Run) (i next : ℕ) (waiting : Row) (rows : Run) (d : Mark)
    (h : IsKeeping marks values start i next waiting rows) (l : i < length marks) where
  -- a row is ended
  pub end-kept : get_or marks i d ≡ End → (new : Run) → new ≡ with_end (with_cells waiting rows)
      → IsKeeping marks values start (i + 1) next [] new
  end-kept here new is = record {
    follow = subst (λ (r : Run). FollowIn [] r) (sym is) (follow-none (with_end (with_cells waiting rows)));
    sifting = end-placed marks values start i next (with_cells waiting rows) d h.sifting l here (with_cells [] new)
        (with_none new ∙ is);
  }

  module _ (c w : ℕ) (here : get_or marks i d ≡ Selected c w) where
    pub kept-within : next < length values
    kept-within = keep-within marks values start i next (with_cells waiting rows) d h.sifting l c w here

    -- room was made, and a cell is kept or not
    pub one-kept : (left kept : Row) (now : Run) → FollowIn left now → with_cells left now ≡ with_cells waiting rows
        → kept ≡ (if nat_eq (get_or values next 0) 0 then left else left ++ (c, w) ∷ [])
        → IsKeeping marks values start (i + 1) (next + 1) kept now
    one-kept left kept now f same is =
        let fits = keep-fits marks values start i next (with_cells waiting rows) d h.sifting l kept-within c w here in
        let v = get_or values next 0 in record {
          follow = kept-follow now left (c, w) v kept is f (subst (CanPush c) (sym same) fits);
          sifting = keep-placed marks values start i next (with_cells waiting rows) d h.sifting l kept-within c w here
              (with_cells kept now)
              (kept-more now left (c, w) v kept is ∙ ap (λ (r : Run). with_kept c w v r) same);
        }
