-- Values are put in the places of their calls, whatever was added behind those.
use Rattle.std.proofs.Common.{◌≡◌, ◌≤◌, ◌<◌, ◌+◌, ℕ, suc, List, [], ◌∷◌, ◌++◌, length, length-append, length-drop, drop, set, get_or, refl, sym, ap, ◌∙◌, subst, arith, append_assoc, append-nil}
use Rattle.std.specs.List.{AllByRecursion}
use Rattle.std.proofs.lemmas.List.{drop_more, drop_all}
use Rattle.bpf_insn.specs.declared.operands.Operands.{Operands}
use Rattle.bpf_verify.specs.Accepted.{Accepted}
use Rattle.csr_store.specs.Grid.{Cell}
use Rattle.csr_store.specs.Run.{Row, Run}
use Rattle.csr_store.specs.Ascending.{Ascends}
use Rattle.csr_store.specs.Valued.{entries_of, with_value}
use Rattle.csr_store.proofs.Revalued.{entries_push, entries_end, entries_with_value, below_without_value, with_value_push, with_value_last, with_value_end}
use Rattle.bpf_run.specs.Meaning.{value_of}
use Rattle.bpf_run.specs.Calls.{Call, Gathered, call_of, calls_on, values_on, steps_of, Charges}
use Rattle.bpf_run.proofs.Charging.{Spends, spends-start, spends-step, calls_on-append, values_on-append}
use Rattle.entry_ops.specs.inner.Standing.{CanPush, FollowIn, with_cell, with_cells, with_end}
use Rattle.entry_ops.specs.inner.Placing.{placed, HavePlaces, Emission, final, Holds, standing, Does}
use Rattle.entry_ops.proofs.Standing.{empty_run, adds-nothing, adds-then, adds-waiting, adds-charged}

pub values-count : (f : Accepted) (os : List Operands) → length (values_on f os) ≡ length os
values-count f [] = refl
values-count f (o ∷ os) = ap suc (values-count f os)

-- ---- what other values leave as it was

placed-entries : (ps vs : List ℕ) (run : Run) → entries_of (placed ps vs run) ≡ entries_of run
placed-entries ps [] run = refl
placed-entries [] (v ∷ vs) run = refl
placed-entries (p ∷ ps) (v ∷ vs) run = placed-entries ps vs (with_value p v run) ∙ entries_with_value p v run

placed-columns : (ps vs : List ℕ) (run : Run) → (placed ps vs run).columns ≡ run.columns
placed-columns ps [] run = refl
placed-columns [] (v ∷ vs) run = refl
placed-columns (p ∷ ps) (v ∷ vs) run = placed-columns ps vs (with_value p v run)

placed-above : (low : ℕ) (ps vs : List ℕ) (run : Run) → AllByRecursion (λ (c : Cell). c.0 < low) (placed ps vs run).opened
    → AllByRecursion (λ (c : Cell). c.0 < low) run.opened
placed-above low ps [] run h = h
placed-above low [] (v ∷ vs) run h = h
placed-above low (p ∷ ps) (v ∷ vs) run h = below_without_value low p v run (placed-above low ps vs (with_value p v run) h)

have-entries : (ps vs : List ℕ) (n m : ℕ) → n ≡ m → HavePlaces ps vs n → HavePlaces ps vs m
have-entries ps vs n m e h = subst (HavePlaces ps vs) e h

-- ---- what is added behind

have-more : (ps vs : List ℕ) (n m : ℕ) → n ≤ m → HavePlaces ps vs n → HavePlaces ps vs m
have-more ps [] n m l h = tt
have-more [] (v ∷ vs) n m l h = absurd h
have-more (p ∷ ps) (v ∷ vs) n m l h = (let b = h.0 in omega arith, have-more ps vs n m l h.1)

module _ (c x : ℕ) where
  placed-push : (ps vs : List ℕ) (run : Run) → HavePlaces ps vs (entries_of run)
      → placed ps vs (with_cell c x run) ≡ with_cell c x (placed ps vs run)
  placed-push ps [] run h = refl
  placed-push [] (v ∷ vs) run h = absurd h
  placed-push (p ∷ ps) (v ∷ vs) run h =
      ap (placed ps vs) (with_value_push p v run (c, x) h.0)
      ∙ placed-push ps vs (with_value p v run) (have-entries ps vs _ _ (sym (entries_with_value p v run)) h.1)

placed-cells : (cells : Row) (ps vs : List ℕ) (run : Run) → HavePlaces ps vs (entries_of run)
    → placed ps vs (with_cells cells run) ≡ with_cells cells (placed ps vs run)
placed-cells [] ps vs run h =
    ap (λ os. placed ps vs (record run { opened = os })) (append-nil run.opened)
    ∙ ap (λ os. record (placed ps vs run) { opened = os }) (sym (append-nil (placed ps vs run).opened))
placed-cells (c ∷ cells) ps vs run h =
    ap (λ os. placed ps vs (record run { opened = os })) (sym (append_assoc run.opened (c ∷ []) cells))
    ∙ (placed-cells cells ps vs (with_cell c.0 c.1 run)
    (have-more ps vs (entries_of run) _ (let m = entries_push run c in omega arith) h)
    ∙ (ap (with_cells cells) (placed-push c.0 c.1 ps vs run h)
    ∙ ap (λ os. record (placed ps vs run) { opened = os }) (append_assoc (placed ps vs run).opened (c ∷ []) cells)))

placed-end : (ps vs : List ℕ) (run : Run) → HavePlaces ps vs (entries_of run) → placed ps vs (with_end run) ≡ with_end (placed ps vs run)
placed-end ps [] run h = refl
placed-end [] (v ∷ vs) run h = absurd h
placed-end (p ∷ ps) (v ∷ vs) run h =
    ap (placed ps vs) (with_value_end p v run h.0)
    ∙ placed-end ps vs (with_value p v run) (have-entries ps vs _ _ (sym (entries_with_value p v run)) h.1)

-- a place more
have-set : (ps vs : List ℕ) (p v n : ℕ) → length vs < length ps → p < n → HavePlaces ps vs n
    → HavePlaces (set ps (length vs) p) (vs ++ v ∷ []) n
have-set [] vs p v n l b h = elim l [ ]
have-set (q ∷ ps) [] p v n l b h = (b, tt)
have-set (q ∷ ps) (w ∷ vs) p v n l b h = (h.0, have-set ps vs p v n (omega arith) b h.1)

placed-set : (ps vs : List ℕ) (p v : ℕ) (run : Run) → length vs < length ps
    → placed (set ps (length vs) p) (vs ++ v ∷ []) run ≡ with_value p v (placed ps vs run)
placed-set [] vs p v run l = elim l [ ]
placed-set (q ∷ ps) [] p v run l = refl
placed-set (q ∷ ps) (w ∷ vs) p v run l = placed-set ps vs p v (with_value q w run) (omega arith)

-- ---- values are put in place one by one

pub record IsPlacing (indices values : List ℕ) (start : Run) (i : ℕ) (now : Run) : Type 0 where
  pub have : HavePlaces (drop i indices) (drop i values) (entries_of now)
  pub same : placed (drop i indices) (drop i values) now ≡ placed indices values start

module _ (indices values : List ℕ) (start : Run) where
  pub placing-start : HavePlaces indices values (entries_of start) → IsPlacing indices values start 0 start
  placing-start h = record { have = h; same = refl }

  module _ (i : ℕ) (now : Run) (h : IsPlacing indices values start i now) where
    module _ (l : i < length values) where
      value_first : drop i values ≡ get_or values i 0 ∷ drop (i + 1) values
      value_first = drop_more values i 0 l

      has_one : (ps : List ℕ) (v : ℕ) (vs : List ℕ) (n : ℕ) → HavePlaces ps (v ∷ vs) n → 0 < length ps
      has_one [] v vs n h = absurd h
      has_one (p ∷ ps) v vs n h = omega arith

      pub index-inside : i < length indices
      index-inside =
          let o = has_one (drop i indices) (get_or values i 0) (drop (i + 1) values) (entries_of now) (subst (λ vs. HavePlaces (drop i indices) vs (entries_of now)) value_first h.have) in
          let n = length-drop i indices in omega arith

      place_first : drop i indices ≡ get_or indices i 0 ∷ drop (i + 1) indices
      place_first = drop_more indices i 0 index-inside

      have_here : HavePlaces (get_or indices i 0 ∷ drop (i + 1) indices) (get_or values i 0 ∷ drop (i + 1) values) (entries_of now)
      have_here = subst (λ ps. HavePlaces ps (get_or values i 0 ∷ drop (i + 1) values) (entries_of now)) place_first
          (subst (λ vs. HavePlaces (drop i indices) vs (entries_of now)) value_first h.have)

      pub entry-inside : get_or indices i 0 < entries_of now
      entry-inside = have_here.0

      pub placing-step : (new : Run) → new ≡ with_value (get_or indices i 0) (get_or values i 0) now → IsPlacing indices values start (i + 1) new
      placing-step new is = record {
        have = subst (λ (r : Run). HavePlaces (drop (i + 1) indices) (drop (i + 1) values) (entries_of r)) (sym is)
            (have-entries _ _ _ _ (sym (entries_with_value (get_or indices i 0) (get_or values i 0) now)) have_here.1);
        same = ap (placed (drop (i + 1) indices) (drop (i + 1) values)) is
            ∙ (ap (λ ps. placed ps (get_or values i 0 ∷ drop (i + 1) values) now) (sym place_first)
            ∙ (ap (λ vs. placed (drop i indices) vs now) (sym value_first) ∙ h.same));
      }

    pub placing-end : length values ≤ i → now ≡ placed indices values start
    placing-end l = ap (λ vs. placed (drop i indices) vs now) (sym (drop_all i values l)) ∙ h.same

-- ---- what is done

module _ (f : Accepted) where
  pub does-nothing : (e : Emission) (g : Gathered) → Holds f e g → Does f [] (λ run. run) e g e g
  does-nothing e g h = record { holds = h; adds = adds-nothing (standing f e g) }

  pub does-then : (cs ds : List Call) (change further : Run → Run) (e m n : Emission) (g h k : Gathered)
      → Does f cs change e g m h → Does f ds further m h n k → Does f (cs ++ ds) (λ run. further (change run)) e g n k
  does-then cs ds change further e m n g h k a b =
      record { holds = b.holds; adds = adds-then cs ds change further (standing f e g) (standing f m h) (standing f n k) a.adds b.adds }

  -- all that was gathered is made
  pub does-flush : (e n : Emission) (g k : Gathered) → n.rows ≡ final f e g → n.steps ≡ e.steps + steps_of (calls_on f g.operands)
      → k.operands ≡ [] → k.kind ≡ f.kind → Does f [] (λ run. run) e g n k
  does-flush e n g k rows steps none kind =
      let values : values_on f k.operands ≡ [] = ap (values_on f) none in
      let gone : calls_on f k.operands ≡ [] = ap (calls_on f) none in record {
        holds = record { kind = kind; indices = subst (λ vs. HavePlaces n.indices vs (entries_of n.rows)) (sym values) tt };
        adds = record {
          rows = ap (λ vs. placed n.indices vs n.rows) values ∙ rows;
          spends = λ rest. subst (λ cs. Spends (calls_on f g.operands ++ rest) e.steps (cs ++ rest) n.steps) (sym gone)
              (spends-step (calls_on f g.operands ++ rest) e.steps (calls_on f g.operands ++ rest) e.steps
              (calls_on f g.operands) rest n.steps (spends-start (calls_on f g.operands ++ rest) e.steps) refl steps);
        };
      }

  module _ (e : Emission) (g : Gathered) (h : Holds f e g) where
    -- what may be added at last may be added now
    pub can-push : (c : ℕ) → CanPush c (final f e g) → CanPush c e.rows
    can-push c p = (
      let n = placed-columns e.indices (values_on f g.operands) e.rows in let b = p.0 in omega arith,
      placed-above c e.indices (values_on f g.operands) e.rows p.1,
    )

    pub can-follow : (cells : Row) → FollowIn cells (final f e g) → FollowIn cells e.rows
    can-follow cells b = record {
      low = b.low;
      above = placed-above b.low e.indices (values_on f g.operands) e.rows b.above;
      ascend = subst (λ n. Ascends b.low n cells) (placed-columns e.indices (values_on f g.operands) e.rows) b.ascend;
    }

    -- a cell whose value is known
    pub does-copy : (c x : ℕ) (n : Emission) → n ≡ record e { rows = with_cell c x e.rows } → Does f [] (with_cell c x) e g n g
    does-copy c x n is = subst (λ (m : Emission). Does f [] (with_cell c x) e g m g) (sym is) (record {
      holds = record {
        kind = h.kind;
        indices = have-more e.indices (values_on f g.operands) (entries_of e.rows) _ (let m = entries_push e.rows (c, x) in omega arith) h.indices;
      };
      adds = adds-waiting [] (with_cell c x) (standing f e g) (standing f (record e { rows = with_cell c x e.rows }) g)
          (placed-push c x e.indices (values_on f g.operands) e.rows h.indices) (sym (append-nil (calls_on f g.operands))) refl;
    })

    -- cells whose values are known
    pub does-copies : (cells : Row) (n : Emission) → n ≡ record e { rows = with_cells cells e.rows } → Does f [] (with_cells cells) e g n g
    does-copies cells n is = subst (λ (m : Emission). Does f [] (with_cells cells) e g m g) (sym is) (record {
      holds = record {
        kind = h.kind;
        indices = have-more e.indices (values_on f g.operands) (entries_of e.rows) _
            (let m = length-append e.rows.opened cells in omega arith) h.indices;
      };
      adds = adds-waiting [] (with_cells cells) (standing f e g) (standing f (record e { rows = with_cells cells e.rows }) g)
          (placed-cells cells e.indices (values_on f g.operands) e.rows h.indices) (sym (append-nil (calls_on f g.operands))) refl;
    })

    -- the open row ends
    pub does-end : (n : Emission) → n ≡ record e { rows = with_end e.rows } → Does f [] with_end e g n g
    does-end n is = subst (λ (m : Emission). Does f [] with_end e g m g) (sym is) (record {
      holds = record {
        kind = h.kind;
        indices = have-entries e.indices (values_on f g.operands) (entries_of e.rows) _ (sym (entries_end e.rows)) h.indices;
      };
      adds = adds-waiting [] with_end (standing f e g) (standing f (record e { rows = with_end e.rows }) g)
          (placed-end e.indices (values_on f g.operands) e.rows h.indices) (sym (append-nil (calls_on f g.operands))) refl;
    })

    -- a cell whose value is that of a call
    pub does-call : (c x : ℕ) (o : Operands) (n : Emission) (k : Gathered) → length g.operands < length e.indices
        → n ≡ record e { rows = with_cell c x e.rows; indices = set e.indices (length g.operands) (entries_of e.rows) }
        → k ≡ record g { operands = g.operands ++ o ∷ [] } → Does f (call_of f o ∷ []) (with_cell c (value_of f o)) e g n k
    does-call c x o n k l is more =
        let vs = values_on f g.operands in
        let count : length g.operands ≡ length vs = sym (values-count f g.operands) in
        let capacity : length vs < length e.indices = omega arith in
        let indices : n.indices ≡ set e.indices (length vs) (entries_of e.rows) =
        ap (λ (m : Emission). m.indices) is ∙ ap (λ i. set e.indices i (entries_of e.rows)) count in
        let rows : n.rows ≡ with_cell c x e.rows = ap (λ (m : Emission). m.rows) is in
        let operands = ap (λ (m : Gathered). m.operands) more in
        let values : values_on f k.operands ≡ vs ++ value_of f o ∷ [] = ap (values_on f) operands ∙ values_on-append f g.operands (o ∷ []) in
        let calls : calls_on f k.operands ≡ calls_on f g.operands ++ call_of f o ∷ [] = ap (calls_on f) operands ∙ calls_on-append f g.operands (o ∷ []) in
        let pushed : entries_of (with_cell c x e.rows) ≡ entries_of e.rows + 1 = entries_push e.rows (c, x) in
        let here : HavePlaces (set e.indices (length vs) (entries_of e.rows)) (vs ++ value_of f o ∷ []) (entries_of (with_cell c x e.rows))
        = have-set e.indices vs (entries_of e.rows) (value_of f o) _ capacity (omega arith) (have-more e.indices vs (entries_of e.rows) _ (omega arith) h.indices) in record {
          holds = record {
            kind = ap (λ (m : Gathered). m.kind) more ∙ h.kind;
            indices = subst (λ (r : Run). HavePlaces n.indices (values_on f k.operands) (entries_of r)) (sym rows)
                (subst (λ ps. HavePlaces ps (values_on f k.operands) (entries_of (with_cell c x e.rows))) (sym indices)
                (subst (λ us. HavePlaces (set e.indices (length vs) (entries_of e.rows)) us (entries_of (with_cell c x e.rows))) (sym values) here));
          };
          adds = adds-waiting (call_of f o ∷ []) (with_cell c (value_of f o)) (standing f e g) (standing f n k)
              (ap (placed n.indices (values_on f k.operands)) rows
              ∙ (ap (λ ps. placed ps (values_on f k.operands) (with_cell c x e.rows)) indices
              ∙ (ap (λ us. placed (set e.indices (length vs) (entries_of e.rows)) us (with_cell c x e.rows)) values
              ∙ (placed-set e.indices vs (entries_of e.rows) (value_of f o) (with_cell c x e.rows) capacity
              ∙ (ap (with_value (entries_of e.rows) (value_of f o)) (placed-push c x e.indices vs e.rows h.indices)
              ∙ (ap (λ p. with_value p (value_of f o) (with_cell c x (placed e.indices vs e.rows))) (sym (placed-entries e.indices vs e.rows))
              ∙ with_value_last c x (value_of f o) (placed e.indices vs e.rows)))))))
              calls (ap (λ (m : Emission). m.steps) is);
        }

-- ---- the same by what an emitter keeps, after room was made

module _ (f : Accepted) (e : Emission) (g : Gathered) (m : Emission) (h : Gathered) (capacity : Does f [] (λ run. run) e g m h)
    (rows : Run) (indices : List ℕ) (steps : ℕ) (is : record { rows = rows; indices = indices; steps = steps } ≡ m) where
  kept : Does f [] (λ run. run) e g (record { rows = rows; indices = indices; steps = steps }) h
  kept = subst (λ (n : Emission). Does f [] (λ run. run) e g n h) (sym is) capacity

  pub called-fits : (c : ℕ) → CanPush c (final f e g) → CanPush c rows
  called-fits c p = can-push f (record { rows = rows; indices = indices; steps = steps }) h kept.holds c (subst (CanPush c) (sym kept.adds.rows) p)

  pub called : (c x : ℕ) (o : Operands) (k : Gathered) (now : Run) (at entry : ℕ) → length indices ≡ 64 → length h.operands < 64
      → now ≡ with_cell c x rows → at ≡ length h.operands → entry ≡ entries_of rows → k ≡ record h { operands = h.operands ++ o ∷ [] }
      → Does f (call_of f o ∷ []) (with_cell c (value_of f o)) e g (record { rows = now; indices = set indices at entry; steps = steps }) k
  called c x o k now at entry all few pushed at_is entry_is more =
      let n : Emission = record { rows = now; indices = set indices at entry; steps = steps } in
      does-then f [] (call_of f o ∷ []) (λ run. run) (with_cell c (value_of f o)) e (record { rows = rows; indices = indices; steps = steps }) n g h k kept
      (does-call f (record { rows = rows; indices = indices; steps = steps }) h kept.holds c x o n k (omega arith)
      (ap (λ r. record { rows = r; indices = set indices at entry; steps = steps }) pushed
      ∙ (ap (λ i. record { rows = with_cell c x rows; indices = set indices i entry; steps = steps }) at_is
      ∙ ap (λ j. record { rows = with_cell c x rows; indices = set indices (length h.operands) j; steps = steps }) entry_is)) more)

  -- no memory
  pub called-spent : Charges (calls_on f g.operands) e.steps steps
  called-spent = adds-charged (λ run. run) (standing f e g) (standing f (record { rows = rows; indices = indices; steps = steps }) h) kept.adds

-- ---- nothing was added yet

pub begin-final : (f : Accepted) (e : Emission) (g : Gathered) (first columns : ℕ) → e.rows ≡ empty_run first columns → g.operands ≡ []
    → final f e g ≡ empty_run first columns
begin-final f e g first columns rows none = ap (λ os. placed e.indices (values_on f os) e.rows) none ∙ rows
