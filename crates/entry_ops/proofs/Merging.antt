-- The rows of two operands, position by position: what is still to come completes the row.
use Rattle.std.proofs.Common.{
  ◌≡◌,
  ◌<◌,
  ◌+◌,
  ℕ,
  suc,
  Bool,
  true,
  false,
  if◌then◌else◌,
  List,
  [],
  ◌∷◌,
  ◌++◌,
  Option,
  None,
  Some,
  refl,
  sym,
  ap,
  ◌∙◌,
  subst,
  arith,
  append-nil,
}
use Rattle.std.specs.List.{AllByRecursion}
use Rattle.bpf_verify.specs.Accepted.{Accepted}
use Rattle.csr_store.specs.Grid.{Cell}
use Rattle.csr_store.specs.Run.{Row, Run}
use Rattle.csr_store.specs.Along.{along, cell_at}
use Rattle.csr_store.specs.Ascending.{Ascends, at}
use Rattle.csr_store.proofs.Along.{along-none}
use Rattle.bpf_run.specs.Calls.{Call}
use Rattle.job_forms.specs.Forms.{joint, joint_calls}
use Rattle.entry_ops.specs.inner.Forms.{Form, Apply, Select, Union, Both}
use Rattle.entry_ops.specs.inner.Standing.{CanPush, FollowIn, Standing, Adds, with_cells, IsOpen}
use Rattle.entry_ops.specs.inner.Walking.{form_at, form_calls, row_cells, row_calls, is_joint, left_over, IsNext}
use Rattle.entry_ops.proofs.Nexts.{next_left, next_right, next_first}
use Rattle.entry_ops.proofs.Standing.{
  Completes,
  completes-start,
  completes-same,
  completes-step,
  completes-end,
  adds-nothing,
  above_all,
  above_less,
}

-- ---- a form gives nothing where nothing stands

abbrev pub cells_here : Form → Accepted → ℕ → Bool → ℕ → Option ℕ → Option ℕ → Row
cells_here form f i b j x y = cell_at j (if b then form_at form f (i, j) x y else None)

abbrev pub calls_here : Form → Accepted → ℕ → Bool → ℕ → Option ℕ → Option ℕ → List Call
calls_here form f i b j x y = if b then form_calls form f (i, j) x y else []

pub no_cell : (form : Form) (f : Accepted) (i : ℕ) (b : Bool) (j : ℕ) → cells_here form f i b j None None ≡ []
no_cell form f i false j = refl
no_cell (Apply thunk) f i true j = refl
no_cell (Select thunk) f i true j = refl
no_cell Union f i true j = refl
no_cell Both f i true j = refl

pub no_call : (form : Form) (f : Accepted) (i : ℕ) (b : Bool) (j : ℕ) → calls_here form f i b j None None ≡ []
no_call form f i false j = refl
no_call (Apply thunk) f i true j = refl
no_call (Select thunk) f i true j = refl
no_call Union f i true j = refl
no_call Both f i true j = refl

-- ---- a row under way, all of which passes

module _ (form : Form) (f : Accepted) (i n : ℕ) (cells : Row) (calls : List Call) (old : Standing) where
  pub record IsMerging (xs ys : List Cell) (now : Standing) : Type 0 where
    pub low : ℕ
    pub left_row : Ascends low n xs
    pub right_row : Ascends low n ys
    pub above : AllByRecursion (λ (d : Cell). d.0 < low) now.rows.opened
    pub columns : now.rows.columns ≡ n
    pub completes : Completes cells calls old (row_cells form f i n xs ys None) (row_calls form f i n xs ys None) now

  pub merging-start : (left right : List Cell) (mask : Option (List Cell)) → Ascends 0 n left → Ascends 0 n right → mask ≡ None
      → cells ≡ row_cells form f i n left right mask → calls ≡ row_calls form f i n left right mask → IsOpen n old.rows
      → IsMerging left right old
  merging-start left right mask l r none c d o = record {
    low = 0;
    left_row = l;
    right_row = r;
    above = subst (AllByRecursion (λ (d : Cell). d.0 < 0)) (sym o.none) tt;
    columns = o.columns_are;
    completes = completes-same cells calls old cells _ calls _ old (completes-start cells calls old)
        (c ∙ ap (row_cells form f i n left right) none) (d ∙ ap (row_calls form f i n left right) none);
  }

  module _ (xs ys : List Cell) (now : Standing) (m : IsMerging xs ys now) where
    module _ (c : ℕ) (p q : Option ℕ) (us vs : List Cell) (next : IsNext n m.low xs ys c p q us vs) where
      pub merging-fits : CanPush c now.rows
      merging-fits = (
        let k = m.columns in let l = next.inside in omega arith,
        above_less m.low c now.rows.opened m.above next.from,
      )

      cells_next : row_cells form f i n xs ys None ≡ cells_here form f i true c p q ++ row_cells form f i n us vs None
      cells_next = next_first (cells_here form f i) (no_cell form f i) n m.low xs ys None None c p q us vs next (λ j l. refl)

      calls_next : row_calls form f i n xs ys None ≡ calls_here form f i true c p q ++ row_calls form f i n us vs None
      calls_next = next_first (calls_here form f i) (no_call form f i) n m.low xs ys None None c p q us vs next (λ j l. refl)

      -- a position more
      pub merging-step : (new : Standing)
          → Adds (form_calls form f (i, c) p q) (with_cells (cell_at c (form_at form f (i, c) p q))) now new → IsMerging us vs new
      merging-step new d = record {
        low = c + 1;
        left_row = next.left_row;
        right_row = next.right_row;
        above = subst (λ (r : Run). AllByRecursion (λ (d : Cell). d.0 < c + 1) r.opened) (sym d.rows)
            (above_all m.low c 0 (form_at form f (i, c) p q) now.rows.opened m.above next.from);
        columns = ap (λ (r : Run). r.columns) d.rows ∙ m.columns;
        completes = completes-step cells calls old (cell_at c (form_at form f (i, c) p q)) _ (form_calls form f (i, c) p q) _ now
            new
            (completes-same cells calls old _ _ _ _ now m.completes cells_next calls_next) d;
      }

-- a position at which nothing is added
pub adds-none : (s : Standing) → Adds [] (with_cells []) s s
adds-none s = record {
  rows = ap (λ cs. record s.rows { opened = cs }) (sym (append-nil s.rows.opened));
  spends =
      (adds-nothing s).spends;
}

-- ---- what is left where one of two rows has ended

module _ (f : Accepted) (i n : ℕ) where
  union_left : (low : ℕ) (xs : List Cell) → Ascends low n xs → row_cells Union f i n xs [] None ≡ xs
  union_left low [] h = along-none (λ j. cells_here Union f i true j None None) 0 n (λ j. no_cell Union f i true j)
  union_left low (x ∷ xs) h =
      next_first (cells_here Union f i) (no_cell Union f i) n low (x ∷ xs) [] None None x.0 (Some x.1) None xs []
      (next_left n low x xs [] h tt) (λ j l. refl)
      ∙ ap (λ us. x ∷ us) (union_left (suc x.0) xs h.2)

  union_right : (low : ℕ) (ys : List Cell) → Ascends low n ys → row_cells Union f i n [] ys None ≡ ys
  union_right low [] h = along-none (λ j. cells_here Union f i true j None None) 0 n (λ j. no_cell Union f i true j)
  union_right low (y ∷ ys) h =
      next_first (cells_here Union f i) (no_cell Union f i) n low [] (y ∷ ys) None None y.0 None (Some y.1) [] ys
      (next_right n low [] y ys h tt) (λ j l. refl)
      ∙ ap (λ us. y ∷ us) (union_right (suc y.0) ys h.2)

  joint_left : (x : Option ℕ) → joint_calls f x None ≡ []
  joint_left None = refl
  joint_left (Some x) = refl

  both_left : (j : ℕ) (x : Option ℕ) → cell_at j (joint f x None) ≡ []
  both_left j None = refl
  both_left j (Some x) = refl

  calls_left : (xs : List Cell) → along (λ j. joint_calls f (at xs j) None) 0 n ≡ []
  calls_left xs = along-none (λ j. joint_calls f (at xs j) None) 0 n (λ j. joint_left (at xs j))

  calls_right : (ys : List Cell) → along (λ j. joint_calls f None (at ys j)) 0 n ≡ []
  calls_right ys = along-none (λ j. joint_calls f None (at ys j)) 0 n (λ j. refl)

-- of a union it is copied, and of where both have a word it is left out

left_cells : (form : Form) → is_joint form ≡ true → (f : Accepted) (i n low : ℕ) (xs : List Cell) → Ascends low n xs
    → row_cells form f i n xs [] None ≡ left_over form xs
left_cells (Apply thunk) e f i n low xs h = absurd (cc)
left_cells (Select thunk) e f i n low xs h = absurd (cc)
left_cells Union e f i n low xs h = union_left f i n low xs h
left_cells Both e f i n low xs h = along-none (λ j. cell_at j (joint f (at xs j) None)) 0 n (λ j. both_left f i n j (at xs j))

right_cells : (form : Form) → is_joint form ≡ true → (f : Accepted) (i n low : ℕ) (ys : List Cell) → Ascends low n ys
    → row_cells form f i n [] ys None ≡ left_over form ys
right_cells (Apply thunk) e f i n low ys h = absurd (cc)
right_cells (Select thunk) e f i n low ys h = absurd (cc)
right_cells Union e f i n low ys h = union_right f i n low ys h
right_cells Both e f i n low ys h = along-none (λ j. cell_at j (joint f None (at ys j))) 0 n (λ j. refl)

no_calls_left : (form : Form) → is_joint form ≡ true → (f : Accepted) (i n : ℕ) (xs : List Cell) → row_calls form f i n xs [] None
    ≡ []
no_calls_left (Apply thunk) e f i n xs = absurd (cc)
no_calls_left (Select thunk) e f i n xs = absurd (cc)
no_calls_left Union e f i n xs = calls_left f i n xs
no_calls_left Both e f i n xs = calls_left f i n xs

no_calls_right : (form : Form) → is_joint form ≡ true → (f : Accepted) (i n : ℕ) (ys : List Cell) → row_calls form f i n [] ys
    None ≡ []
no_calls_right (Apply thunk) e f i n ys = absurd (cc)
no_calls_right (Select thunk) e f i n ys = absurd (cc)
no_calls_right Union e f i n ys = calls_right f i n ys
no_calls_right Both e f i n ys = calls_right f i n ys

module _ (form : Form) (f : Accepted) (i n : ℕ) (cells : Row) (calls : List Call) (old : Standing) (xs ys : List Cell)
    (now : Standing)
    (m : IsMerging form f i n cells calls old xs ys now) where
  pub merging-end-left : is_joint form ≡ true → ys ≡ [] → (new : Standing) → Adds [] (with_cells (left_over form xs)) now new
      → Adds calls (with_cells cells) old new
  merging-end-left j e new d =
      completes-end cells calls old new (completes-step cells calls old (left_over form xs) [] [] [] now new
      (completes-same cells calls old _ _ _ _ now m.completes
      (ap (λ us. row_cells form f i n xs us None) e ∙
      (left_cells form j f i n m.low xs m.left_row ∙ sym (append-nil (left_over form xs))))
      (ap (λ us. row_calls form f i n xs us None) e ∙ no_calls_left form j f i n xs)) d)

  pub merging-end-right : is_joint form ≡ true → xs ≡ [] → (new : Standing) → Adds [] (with_cells (left_over form ys)) now new
      → Adds calls (with_cells cells) old new
  merging-end-right j e new d =
      completes-end cells calls old new (completes-step cells calls old (left_over form ys) [] [] [] now new
      (completes-same cells calls old _ _ _ _ now m.completes
      (ap (λ us. row_cells form f i n us ys None) e ∙
      (right_cells form j f i n m.low ys m.right_row ∙ sym (append-nil (left_over form ys))))
      (ap (λ us. row_calls form f i n us ys None) e ∙ no_calls_right form j f i n ys)) d)

  -- the cells of either row may be added
  pub merging-follow-left : FollowIn xs now.rows
  merging-follow-left = record { low = m.low; above = m.above; ascend = subst (λ k. Ascends m.low k xs) (sym m.columns) m.left_row }

  pub merging-follow-right : FollowIn ys now.rows
  merging-follow-right = record {
    low = m.low;
    above = m.above;
    ascend = subst (λ k. Ascends m.low k ys) (sym m.columns)
        m.right_row;
  }
