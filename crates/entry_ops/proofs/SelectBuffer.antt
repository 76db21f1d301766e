-- What is marked is added mark by mark, and calls wait until they are made: cells that stand where a value is not 0.
use Rattle.std.proofs.Common.{◌≡◌, ◌≤◌, ◌<◌, ◌+◌, ℕ, List, [], ◌∷◌, ◌++◌, length, length-drop, drop, get_or, refl, sym, ap, ◌∙◌, subst, arith, append-nil}
use Rattle.std.proofs.lemmas.List.{drop_more}
use Rattle.bpf_insn.specs.declared.operands.Operands.{Operands}
use Rattle.bpf_verify.specs.Accepted.{Accepted}
use Rattle.csr_store.specs.Run.{Run}
use Rattle.bpf_run.specs.Meaning.{value_of}
use Rattle.bpf_run.specs.Calls.{Call, Gathered, call_of, calls_on, values_on, steps_of}
use Rattle.bpf_run.proofs.Charging.{Spends, spends-start, spends-step, calls_on-append, values_on-append}
use Rattle.entry_ops.specs.declared.select_buffer.Mark.{Mark}
use Rattle.entry_ops.specs.declared.select_buffer.Mark.TheVariants.{End, Selected}
use Rattle.entry_ops.specs.inner.Standing.{CanPush, with_end}
use Rattle.entry_ops.specs.inner.SelectBuffer.{placed, Fits, with_kept, SelectState, final, Holds, standing, Does}
use Rattle.entry_ops.proofs.Standing.{adds-nothing, adds-then, adds-waiting}

-- what is left is added to the rows so far
pub record IsSifting (marks : List Mark) (values : List ℕ) (start : Run) (i next : ℕ) (now : Run) : Type 0 where
  pub fits : Fits (drop i marks) (drop next values) now
  pub same : placed (drop i marks) (drop next values) now ≡ placed marks values start
  pub few : next ≤ length values

-- marks behind marks

placed-append : (ms ns : List Mark) (vs ws : List ℕ) (run : Run) → Fits ms vs run
    → placed (ms ++ ns) (vs ++ ws) run ≡ placed ns ws (placed ms vs run)
placed-append [] ns vs ws run h = ap (λ us. placed ns (us ++ ws) run) h
placed-append (End ∷ ms) ns vs ws run h = placed-append ms ns vs ws (with_end run) h
placed-append (Selected c w ∷ ms) ns [] ws run h = absurd h
placed-append (Selected c w ∷ ms) ns (v ∷ vs) ws run h = placed-append ms ns vs ws (with_kept c w v run) h.1

fits-append : (ms ns : List Mark) (vs ws : List ℕ) (run : Run) → Fits ms vs run → Fits ns ws (placed ms vs run)
    → Fits (ms ++ ns) (vs ++ ws) run
fits-append [] ns vs ws run h k = subst (λ us. Fits ns (us ++ ws) run) (sym h) k
fits-append (End ∷ ms) ns vs ws run h k = fits-append ms ns vs ws (with_end run) h k
fits-append (Selected c w ∷ ms) ns [] ws run h k = absurd h
fits-append (Selected c w ∷ ms) ns (v ∷ vs) ws run h k = (h.0, fits-append ms ns vs ws (with_kept c w v run) h.1 k)

pub placing-at : (marks : List Mark) (values : List ℕ) (start : Run) (i next now_next : ℕ) (now : Run) → now_next ≡ next
    → IsSifting marks values start i next now → IsSifting marks values start i now_next now
placing-at marks values start i next now_next now e h = subst (λ n. IsSifting marks values start i n now) (sym e) h

-- ---- one mark is placed

module _ (marks : List Mark) (values : List ℕ) (start : Run) (i next : ℕ) (now : Run) (d : Mark) (h : IsSifting marks values start i next now)
    (l : i < length marks) where
  left_marks : (m : Mark) → get_or marks i d ≡ m → drop i marks ≡ m ∷ drop (i + 1) marks
  left_marks m here = drop_more marks i d l ∙ ap (λ n. n ∷ drop (i + 1) marks) here

  pub end-placed : get_or marks i d ≡ End → (new : Run) → new ≡ with_end now → IsSifting marks values start (i + 1) next new
  end-placed here new is = record {
    fits = subst (Fits (drop (i + 1) marks) (drop next values)) (sym is) (subst (λ ms. Fits ms (drop next values) now) (left_marks End here) h.fits);
    same = ap (placed (drop (i + 1) marks) (drop next values)) is ∙ ap (λ ms. placed ms (drop next values) now) (sym (left_marks End here)) ∙ h.same;
    few = h.few;
  }

  kept-some : (c w : ℕ) (ms : List Mark) (vs : List ℕ) (run : Run) → Fits (Selected c w ∷ ms) vs run → 0 < length vs
  kept-some c w ms [] run f = absurd f
  kept-some c w ms (v ∷ vs) run f = omega arith

  pub keep-within : (c w : ℕ) → get_or marks i d ≡ Selected c w → next < length values
  keep-within c w here =
      let f = kept-some c w (drop (i + 1) marks) (drop next values) now (subst (λ ms. Fits ms (drop next values) now) (left_marks (Selected c w) here) h.fits) in
      let n = length-drop next values in omega arith

  module _ (ll : next < length values) where
    left_values : drop next values ≡ get_or values next 0 ∷ drop (next + 1) values
    left_values = drop_more values next 0 ll

    pub keep-fits : (c w : ℕ) → get_or marks i d ≡ Selected c w → CanPush c now
    keep-fits c w here = (subst (λ vs. Fits (Selected c w ∷ drop (i + 1) marks) vs now) left_values
        (subst (λ ms. Fits ms (drop next values) now) (left_marks (Selected c w) here) h.fits)).0

    pub keep-placed : (c w : ℕ) → get_or marks i d ≡ Selected c w → (new : Run) → new ≡ with_kept c w (get_or values next 0) now
        → IsSifting marks values start (i + 1) (next + 1) new
    keep-placed c w here new is = record {
      fits = subst (Fits (drop (i + 1) marks) (drop (next + 1) values)) (sym is)
          (subst (λ vs. Fits (Selected c w ∷ drop (i + 1) marks) vs now) left_values
          (subst (λ ms. Fits ms (drop next values) now) (left_marks (Selected c w) here) h.fits)).1;
      same = ap (placed (drop (i + 1) marks) (drop (next + 1) values)) is
          ∙ ap (λ vs. placed (Selected c w ∷ drop (i + 1) marks) vs now) (sym left_values)
          ∙ ap (λ ms. placed ms (drop next values) now) (sym (left_marks (Selected c w) here)) ∙ h.same;
      few = omega arith;
    }

-- ---- what is done

module _ (f : Accepted) where
  pub does-nothing : (e : SelectState) (g : Gathered) → Holds f e g → Does f [] (λ run. run) e g e g
  does-nothing e g h = record { holds = h; adds = adds-nothing (standing f e g) }

  pub does-then : (cs ds : List Call) (change further : Run → Run) (e m n : SelectState) (g h k : Gathered)
      → Does f cs change e g m h → Does f ds further m h n k → Does f (cs ++ ds) (λ run. further (change run)) e g n k
  does-then cs ds change further e m n g h k a b =
      record { holds = b.holds; adds = adds-then cs ds change further (standing f e g) (standing f m h) (standing f n k) a.adds b.adds }

  -- all that was gathered is made
  pub does-flush : (e n : SelectState) (g k : Gathered)
      → n ≡ record { rows = final f e g; marks = []; steps = e.steps + steps_of (calls_on f g.operands) }
      → k.operands ≡ [] → k.kind ≡ f.kind → Does f [] (λ run. run) e g n k
  does-flush e n g k is none kind =
      let none_marked = ap (λ (x : SelectState). x.marks) is in
      let s = ap (λ (x : SelectState). x.steps) is in
      let gone : calls_on f k.operands ≡ [] = ap (calls_on f) none in record {
        holds = record {
          kind = kind;
          fits = subst (λ ms. Fits ms (values_on f k.operands) n.rows) (sym none_marked) (ap (values_on f) none);
        };
        adds = record {
          rows = ap (λ ms. placed ms (values_on f k.operands) n.rows) none_marked ∙ ap (λ (x : SelectState). x.rows) is;
          spends = λ rest. subst (λ cs. Spends (calls_on f g.operands ++ rest) e.steps (cs ++ rest) n.steps) (sym gone)
              (spends-step (calls_on f g.operands ++ rest) e.steps (calls_on f g.operands
              ++ rest) e.steps (calls_on f g.operands) rest n.steps
              (spends-start (calls_on f g.operands ++ rest) e.steps) refl s);
        };
      }

  -- a mark is added, with the operands of its call, if it has one
  pub does-mark : (e n : SelectState) (g k : Gathered) (m : Mark) (os : List Operands) (change : Run → Run) → Holds f e g
      → Fits (m ∷ []) (values_on f os) (final f e g) → placed (m ∷ []) (values_on f os) (final f e g) ≡ change (final f e g)
      → n ≡ record e { marks = e.marks ++ m ∷ [] } → k.kind ≡ g.kind → k.operands ≡ g.operands ++ os
      → Does f (calls_on f os) change e g n k
  does-mark e n g k m os change h fit same is kind more =
      let values = ap (values_on f) more ∙ values_on-append f g.operands os in
      let calls = ap (calls_on f) more ∙ calls_on-append f g.operands os in record {
        holds = record {
          kind = kind ∙ h.kind;
          fits = subst (λ (x : SelectState). Fits x.marks (values_on f k.operands) x.rows) (sym is)
              (subst (λ vs. Fits (e.marks ++ m ∷ []) vs e.rows) (sym values)
              (fits-append e.marks (m ∷ []) (values_on f g.operands) (values_on f os) e.rows h.fits fit));
        };
        adds = adds-waiting (calls_on f os) change (standing f e g) (standing f n k)
            (ap (λ (x : SelectState). placed x.marks (values_on f k.operands) x.rows) is
            ∙ ap (λ vs. placed (e.marks ++ m ∷ []) vs e.rows) values
            ∙ placed-append e.marks (m ∷ []) (values_on f g.operands) (values_on f os) e.rows h.fits ∙ same)
            calls (ap (λ (x : SelectState). x.steps) is);
      }

  -- a mark after room was made
  module _ (e m n : SelectState) (g h k : Gathered) (capacity : Does f [] (λ run. run) e g m h) where
    pub does-keep : (c w : ℕ) (o : Operands) → CanPush c (final f e g) → n ≡ record m { marks = m.marks ++ Selected c w ∷ [] }
        → k ≡ record h { operands = h.operands ++ o ∷ [] } → Does f (call_of f o ∷ []) (with_kept c w (value_of f o)) e g n k
    does-keep c w o p is more = does-then [] (call_of f o ∷ []) (λ run. run) (with_kept c w (value_of f o)) e m n g h k capacity
        (does-mark m n h k (Selected c w) (o ∷ []) (with_kept c w (value_of f o)) capacity.holds (
          subst (CanPush c) (sym capacity.adds.rows) p,
          refl,
        ) refl is
        (ap (λ (x : Gathered). x.kind) more) (ap (λ (x : Gathered). x.operands) more))

    pub does-end : n ≡ record m { marks = m.marks ++ End ∷ [] } → k ≡ h → Does f [] with_end e g n k
    does-end is more = does-then [] [] (λ run. run) with_end e m n g h k capacity
        (does-mark m n h k End [] with_end capacity.holds refl refl is
        (ap (λ (x : Gathered). x.kind) more) (ap (λ (x : Gathered). x.operands) more ∙ sym (append-nil h.operands)))

-- a mark was pushed to what is kept of an emission
pub marked : (rows : Run) (marks items : List Mark) (steps : ℕ) (m : SelectState) (x : Mark)
    → record { rows = rows; marks = marks; steps = steps } ≡ m
    → items ≡ marks ++ x ∷ [] → record { rows = rows; marks = items; steps = steps } ≡ record m { marks = m.marks ++ x ∷ [] }
marked rows marks items steps m x is pushed =
    ap (λ ms. record { rows = rows; marks = ms; steps = steps }) pushed
    ∙ ap (λ (e : SelectState). record e { marks = e.marks ++ x ∷ [] }) is
