-- What is added to rows while calls wait: one thing behind another, and what is still to come completes the whole.
use Rattle.std.proofs.Common.{◌≡◌, ◌≤◌, ◌<◌, ◌+◌, ◌^◌, ℕ, suc, length, drop, get_or, Option, None, Some, List, [], ◌∷◌, ◌++◌, refl, sym, ap, ◌∙◌, subst, arith, append-nil, append_assoc, Result, Ok, Err, OnOk, OnErr}
use Rattle.std.specs.List.{AllByRecursion}
use Rattle.std.proofs.lemmas.List.{drop_more, drop_all}
use Rattle.csr_store.specs.Grid.{Cell}
use Rattle.csr_store.specs.Run.{Row, Run}
use Rattle.csr_store.specs.Along.{cell_at}
use Rattle.bpf_run.specs.Calls.{Call, steps_of, Charges}
use Rattle.bpf_run.proofs.Charging.{Spends, spends-start, spends-further, spends-stop, steps-append, charges-none}
use Rattle.entry_ops.specs.inner.Standing.{CanPush, FollowIn, Standing, Adds, with_cell, with_cells}

abbrev pub empty_run : ℕ → ℕ → Run
empty_run first columns = record { first = first; columns = columns; ended = []; opened = [] }

pub on_err : {X E P : Type 0} (r : Result X E) → P → OnErr r P
on_err (Ok x) p = tt
on_err (Err e) p = p

pub on_ok_then : {X E P Q : Type 0} (r : Result X E) → (P → Q) → OnOk r P → OnOk r Q
on_ok_then (Ok x) f p = f p
on_ok_then (Err e) f p = tt

pub on_err_then : {X E P Q : Type 0} (r : Result X E) → (P → Q) → OnErr r P → OnErr r Q
on_err_then (Ok x) f p = tt
on_err_then (Err e) f p = f p

-- no call was made
pub charges-kept : (cs : List Call) (old new : ℕ) → new ≡ old → Charges cs old new
charges-kept cs old new e = subst (Charges cs old) (sym e) (charges-none cs old)

-- ---- one thing behind another

pub adds-nothing : (s : Standing) → Adds [] (λ run. run) s s
adds-nothing s = record { rows = refl; spends = λ rest. spends-start (s.waiting ++ rest) s.steps }

pub adds-then : (cs ds : List Call) (change further : Run → Run) (s t u : Standing) → Adds cs change s t → Adds ds further t u
    → Adds (cs ++ ds) (λ run. further (change run)) s u
adds-then cs ds change further s t u a b = record {
  rows = b.rows ∙ ap further a.rows;
  spends = λ rest. subst (λ all. Spends (s.waiting ++ all) s.steps (u.waiting ++ rest) u.steps) (sym (append_assoc cs ds rest))
      (spends-further (s.waiting ++ (cs ++ (ds ++ rest))) s.steps (t.waiting ++ (ds ++ rest)) t.steps (u.waiting ++ rest) u.steps
      (a.spends (ds ++ rest)) (b.spends rest));
}

-- calls were added, and none was made
pub adds-waiting : (calls : List Call) (change : Run → Run) (s t : Standing) → t.rows ≡ change s.rows → t.waiting ≡ s.waiting ++ calls
    → t.steps ≡ s.steps → Adds calls change s t
adds-waiting calls change s t rows more steps = record {
  rows = rows;
  spends = λ rest.
      let whole = ap (λ cs. cs ++ rest) more ∙ append_assoc s.waiting calls rest in
      subst (λ cs. Spends (s.waiting ++ (calls ++ rest)) s.steps cs t.steps) (sym whole)
      (subst (λ n. Spends (s.waiting ++ (calls ++ rest)) s.steps (s.waiting ++ (calls ++ rest)) n) (sym steps)
      (spends-start (s.waiting ++ (calls ++ rest)) s.steps));
}

-- what was made, and what waits, costs what was to be done
pub adds-costs : (made : List Call) (change : Run → Run) (s t : Standing) → Adds made change s t
    → t.steps + steps_of t.waiting ≡ s.steps + (steps_of s.waiting + steps_of made)
adds-costs made change s t d =
    let c = (d.spends []).counted in
    let x = steps-append s.waiting (made ++ []) in
    let y = steps-append made [] in
    let z = steps-append t.waiting [] in
    omega arith

-- no call was added, and some were made
pub adds-charged : (change : Run → Run) (s t : Standing) → Adds [] change s t → Charges s.waiting s.steps t.steps
adds-charged change s t d =
    subst (λ cs. Charges cs s.steps t.steps) (append-nil s.waiting) ((d.spends []).charged t.steps (charges-none (t.waiting ++ []) t.steps))

-- ---- a row under way: what is still to come completes it

pub record Completes (cells : Row) (calls : List Call) (old : Standing) (index_calls : Row) (left : List Call) (now : Standing) : Type 0 where
  pub rows : with_cells index_calls now.rows ≡ with_cells cells old.rows
  pub spends : (rest : List Call) → Spends (old.waiting ++ (calls ++ rest)) old.steps (now.waiting ++ (left ++ rest)) now.steps

pub completes-start : (cells : Row) (calls : List Call) (old : Standing) → Completes cells calls old cells calls old
completes-start cells calls old = record { rows = refl; spends = λ rest. spends-start (old.waiting ++ (calls ++ rest)) old.steps }

module _ (cells : Row) (calls : List Call) (old : Standing) where
  pub completes-same : (index_calls coming' : Row) (left left' : List Call) (now : Standing) → Completes cells calls old index_calls left now
      → index_calls ≡ coming' → left ≡ left' → Completes cells calls old coming' left' now
  completes-same index_calls coming' left left' now h c l =
      subst (λ (cs : Row). Completes cells calls old cs left' now) c (subst (λ (cs : List Call). Completes cells calls old index_calls cs now) l h)

  -- the first of what is still to come is added
  pub completes-step : (here index_calls : Row) (made left : List Call) (now next : Standing)
      → Completes cells calls old (here ++ index_calls) (made ++ left) now → Adds made (with_cells here) now next
      → Completes cells calls old index_calls left next
  completes-step here index_calls made left now next h d = record {
    rows = ap (with_cells index_calls) d.rows
        ∙ ap (λ cs. record now.rows { opened = cs }) (append_assoc now.rows.opened here index_calls) ∙ h.rows;
    spends = λ rest. spends-further _ old.steps _ now.steps _ next.steps (h.spends rest)
        (subst (λ cs. Spends (now.waiting ++ cs) now.steps (next.waiting ++ (left ++ rest)) next.steps) (sym (append_assoc made left rest))
        (d.spends (left ++ rest)));
  }

  -- a call more fits in
  pub completes-room : (index_calls : Row) (left : List Call) (now : Standing) → Completes cells calls old index_calls left now
      → old.steps + (steps_of old.waiting + steps_of calls) < 2 ^ 64 → now.steps + steps_of now.waiting < 2 ^ 64
  completes-room index_calls left now h r =
      let s = (h.spends []).counted in
      let a = steps-append old.waiting (calls ++ []) in
      let b = steps-append calls [] in
      let c = steps-append now.waiting (left ++ []) in
      omega arith

  -- no memory
  pub completes-stop : (index_calls : Row) (left : List Call) (now : Standing) → Completes cells calls old index_calls left now → (steps : ℕ)
      → Charges now.waiting now.steps steps → (rest : List Call) → Charges (old.waiting ++ (calls ++ rest)) old.steps steps
  completes-stop index_calls left now h steps c rest = spends-stop _ old.steps _ now.steps now.waiting _ steps (h.spends rest) refl c

  -- nothing is left
  pub completes-end : (now : Standing) → Completes cells calls old [] [] now → Adds calls (with_cells cells) old now
  completes-end now h = record {
    rows = ap (λ cs. record now.rows { opened = cs }) (sym (append-nil now.rows.opened)) ∙ h.rows;
    spends = h.spends;
  }

-- ---- all columns of an open row stand before its next one

pub above_all : (low c v : ℕ) (o : Option ℕ) (cs : Row) → AllByRecursion (λ (d : Cell). d.0 < low) cs → low ≤ c
    → AllByRecursion (λ (d : Cell). d.0 < c + 1) (cs ++ cell_at c o)
above_all low c v None [] h l = tt
above_all low c v (Some x) [] h l = (omega arith, tt)
above_all low c v o (d ∷ cs) h l = (let b = h.0 in omega arith, above_all low c v o cs h.1 l)

pub above_less : (low c : ℕ) (cs : Row) → AllByRecursion (λ (d : Cell). d.0 < low) cs → low ≤ c
    → AllByRecursion (λ (d : Cell). d.0 < c) cs
above_less low c [] h l = tt
above_less low c (d ∷ cs) h l = (let b = h.0 in omega arith, above_less low c cs h.1 l)

-- ---- cells whose values are known, added one by one

pub record IsCopying (cells : Row) (start : Run) (i : ℕ) (now : Run) : Type 0 where
  pub follow : FollowIn (drop i cells) now
  pub same : with_cells (drop i cells) now ≡ with_cells cells start

module _ (cells : Row) (start : Run) where
  pub copying-start : FollowIn cells start → IsCopying cells start 0 start
  copying-start h = record { follow = h; same = refl }

  module _ (i : ℕ) (now : Run) (m : IsCopying cells start i now) where
    module _ (d : Cell) (l : i < length cells) where
      cell_first : drop i cells ≡ get_or cells i d ∷ drop (i + 1) cells
      cell_first = drop_more cells i d l

      follow_here : FollowIn (get_or cells i d ∷ drop (i + 1) cells) now
      follow_here = subst (λ (cs : Row). FollowIn cs now) cell_first m.follow

      pub copying-fits : CanPush (get_or cells i d).0 now
      copying-fits = (follow_here.ascend.1, above_less follow_here.low (get_or cells i d).0 now.opened follow_here.above follow_here.ascend.0)

      pub copying-step : (new : Run) → new ≡ with_cell (get_or cells i d).0 (get_or cells i d).1 now → IsCopying cells start (i + 1) new
      copying-step new is =
          let c = get_or cells i d in
          let same : c.0 + 1 ≡ suc c.0 = omega arith in
          record {
            follow = subst (λ (r : Run). FollowIn (drop (i + 1) cells) r) (sym is) (record {
              low = suc c.0;
              above = subst (λ k. AllByRecursion (λ (x : Cell). x.0 < k) (now.opened ++ c ∷ [])) same
                  (above_all follow_here.low c.0 0 (Some c.1) now.opened follow_here.above follow_here.ascend.0);
              ascend = follow_here.ascend.2;
            });
            same = ap (with_cells (drop (i + 1) cells)) is
                ∙ (ap (λ cs. record now { opened = cs }) (append_assoc now.opened (c ∷ []) (drop (i + 1) cells))
                ∙ (ap (λ (cs : Row). with_cells cs now) (sym cell_first) ∙ m.same));
          }

    pub copying-end : length cells ≤ i → now ≡ with_cells cells start
    copying-end l = ap (λ cs. record now { opened = cs }) (sym (append-nil now.opened))
        ∙ (ap (λ (cs : Row). with_cells cs now) (sym (drop_all i cells l)) ∙ m.same)
