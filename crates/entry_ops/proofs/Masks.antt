-- The row of a mask walked along: what is still to come completes the row.
use Rattle.std.proofs.Common.{◌≡◌, ◌≤◌, ◌<◌, ◌+◌, ℕ, suc, Bool, true, false, List, [], ◌∷◌, ◌++◌, Option, Some, refl, sym, ap, ◌∙◌, arith, subst, is_some}
use Rattle.std.specs.List.{AllByRecursion}
use Rattle.bpf_verify.specs.Accepted.{Accepted}
use Rattle.csr_store.specs.Grid.{Cell}
use Rattle.csr_store.specs.Run.{Row, Run}
use Rattle.csr_store.specs.Along.{along, cell_at}
use Rattle.csr_store.specs.Ascending.{Ascends, at, shows}
use Rattle.csr_store.proofs.Along.{along-none, along-first, at-below, at-first, at-after, ascends-weaken}
use Rattle.bpf_run.specs.Calls.{Call}
use Rattle.entry_ops.specs.inner.Forms.{Form}
use Rattle.entry_ops.specs.inner.Standing.{CanPush, Standing, Adds, with_cells, IsOpen}
use Rattle.entry_ops.specs.inner.Walking.{form_at, form_calls, row_cells, row_calls}
use Rattle.entry_ops.proofs.Merging.{cells_here, calls_here}
use Rattle.entry_ops.proofs.Standing.{
  Completes,
  completes-start,
  completes-same,
  completes-step,
  completes-end,
  above_all,
  above_less,
}

-- ---- what is listed at the mask's next column comes first

abbrev pub SameFrom : ℕ → List Cell → List Cell → Type 0
SameFrom column cells rest = (j : ℕ) → column ≤ j → at cells j ≡ at rest j

module _ {T : Type 0} (g : Bool → ℕ → Option ℕ → Option ℕ → List T) (blank : (j : ℕ) (x y : Option ℕ) → g false j x y ≡ []) where
  pub shown_first : (n low : ℕ) (m : Cell) (ms xs ys us vs : List Cell) → Ascends low n (m ∷ ms) → SameFrom m.0 xs us → SameFrom
      m.0 ys vs
      → along (λ j. g (shows (Some (m ∷ ms)) j) j (at xs j) (at ys j)) 0 n
      ≡ g true m.0 (at us m.0) (at vs m.0) ++ along (λ j. g (shows (Some ms) j) j (at us j) (at vs j)) 0 n
  shown_first n low m ms xs ys us vs h x y =
      let inside = h.1 in
      along-first (λ j. g (shows (Some (m ∷ ms)) j) j (at xs j) (at ys j)) (λ j. g (shows (Some ms) j) j (at us j) (at vs j)) 0 n
      m.0
      (omega arith) (omega arith)
      (λ j l. ap (λ b. g b j (at xs j) (at ys j)) (ap is_some (at-below m.0 n (m ∷ ms) j (omega arith, h.1, h.2) l)) ∙ blank j
      (at xs j) (at ys j))
      (λ j l. ap (λ b. g b j (at us j) (at vs j)) (ap is_some (at-below (suc m.0) n ms j h.2 (omega arith))) ∙ blank j (at us j)
      (at vs j))
      (λ j l. ap (λ b. g b j (at xs j) (at ys j)) (ap is_some (at-after m ms j l))
      ∙ (ap (λ o. g (shows (Some ms) j) j o (at ys j)) (x j (omega arith)) ∙ ap (g (shows (Some ms) j) j (at us j))
      (y j (omega arith))))
      ∙ ap (λ zs. zs ++ along (λ j. g (shows (Some ms) j) j (at us j) (at vs j)) 0 n)
      (ap (λ b. g b m.0 (at xs m.0) (at ys m.0)) (ap is_some (at-first m ms))
      ∙ (ap (λ o. g true m.0 o (at ys m.0)) (x m.0 (omega arith)) ∙ ap (g true m.0 (at us m.0)) (y m.0 (omega arith))))

-- ---- a row under way

module _ (form : Form) (f : Accepted) (i n : ℕ) (cells : Row) (calls : List Call) (old : Standing) where
  pub record IsMasking (xs ys ms : List Cell) (now : Standing) : Type 0 where
    pub low : ℕ
    pub left_row : Ascends 0 n xs
    pub right_row : Ascends 0 n ys
    pub mask_row : Ascends low n ms
    pub above : AllByRecursion (λ (d : Cell). d.0 < low) now.rows.opened
    pub columns : now.rows.columns ≡ n
    pub completes : Completes cells calls old (row_cells form f i n xs ys (Some ms)) (row_calls form f i n xs ys (Some ms)) now

  pub masking-start : (left right mask : List Cell) → Ascends 0 n left → Ascends 0 n right → Ascends 0 n mask
      → cells ≡ row_cells form f i n left right (Some mask) → calls ≡ row_calls form f i n left right (Some mask) → IsOpen n
      old.rows
      → IsMasking left right mask old
  masking-start left right mask l r m c d o = record {
    low = 0;
    left_row = l;
    right_row = r;
    mask_row = m;
    above = subst (AllByRecursion (λ (d : Cell). d.0 < 0)) (sym o.none) tt;
    columns = o.columns_are;
    completes = completes-same cells calls old cells _ calls _ old (completes-start cells calls old) c d;
  }

  module _ (xs ys ms : List Cell) (now : Standing) (k : IsMasking xs ys ms now) where
    module _ (m : Cell) (rest : List Cell) (is : ms ≡ m ∷ rest) where
      mask_here : Ascends k.low n (m ∷ rest)
      mask_here = subst (Ascends k.low n) is k.mask_row

      pub masking-fits : CanPush m.0 now.rows
      masking-fits = (
        let e = k.columns in let l = mask_here.1 in omega arith,
        above_less k.low m.0 now.rows.opened k.above mask_here.0,
      )

      -- a position more
      module _ (us vs : List Cell) (left : Ascends m.0 n us × SameFrom m.0 xs us) (right : Ascends 0 n vs × SameFrom m.0 ys vs)
          (p q : Option ℕ) (p_is : p ≡ at us m.0) (q_is : q ≡ at vs m.0) where
        cells_next : row_cells form f i n xs ys (Some ms) ≡ cells_here form f i true m.0 p q ++ row_cells form f i n us vs
            (Some rest)
        cells_next = ap (λ zs. row_cells form f i n xs ys (Some zs)) is
            ∙ (shown_first (cells_here form f i) (λ j x y. refl) n k.low m rest xs ys us vs mask_here left.1 right.1
            ∙ ap (λ zs. zs ++ row_cells form f i n us vs (Some rest))
            (ap (λ o. cells_here form f i true m.0 o (at vs m.0)) (sym p_is) ∙ ap (cells_here form f i true m.0 p) (sym q_is)))

        calls_next : row_calls form f i n xs ys (Some ms) ≡ calls_here form f i true m.0 p q ++ row_calls form f i n us vs
            (Some rest)
        calls_next = ap (λ zs. row_calls form f i n xs ys (Some zs)) is
            ∙ (shown_first (calls_here form f i) (λ j x y. refl) n k.low m rest xs ys us vs mask_here left.1 right.1
            ∙ ap (λ zs. zs ++ row_calls form f i n us vs (Some rest))
            (ap (λ o. calls_here form f i true m.0 o (at vs m.0)) (sym p_is) ∙ ap (calls_here form f i true m.0 p) (sym q_is)))

        pub masking-step : (new : Standing)
            → Adds (form_calls form f (i, m.0) p q) (with_cells (cell_at m.0 (form_at form f (i, m.0) p q))) now new → IsMasking
            us vs rest new
        masking-step new d = record {
          low = m.0 + 1;
          left_row = ascends-weaken 0 m.0 n us (omega arith) left.0;
          right_row = right.0;
          mask_row = ascends-weaken (m.0 + 1) (suc m.0) n rest (omega arith) mask_here.2;
          above = subst (λ (r : Run). AllByRecursion (λ (d : Cell). d.0 < m.0 + 1) r.opened) (sym d.rows)
              (above_all k.low m.0 0 (form_at form f (i, m.0) p q) now.rows.opened k.above mask_here.0);
          columns = ap (λ (r : Run). r.columns) d.rows ∙ k.columns;
          completes = completes-step cells calls old (cell_at m.0 (form_at form f (i, m.0) p q)) _
              (form_calls form f (i, m.0) p q) _ now new
              (completes-same cells calls old _ _ _ _ now k.completes cells_next calls_next) d;
        }

    -- nothing is left
    pub masking-end : ms ≡ [] → Adds calls (with_cells cells) old now
    masking-end e = completes-end cells calls old now (completes-same cells calls old _ _ _ _ now k.completes
        (ap (λ zs. row_cells form f i n xs ys (Some zs)) e ∙ along-none (λ j. cells_here form f i false j (at xs j) (at ys j)) 0 n
        (λ j. refl))
        (ap (λ zs. row_calls form f i n xs ys (Some zs)) e ∙ along-none (λ j. calls_here form f i false j (at xs j) (at ys j)) 0 n
        (λ j. refl)))
