-- What is listed along two rows begins with what stands at their next column.
use Rattle.std.proofs.Common.{
  ◌≡◌,
  ◌<◌,
  ◌+◌,
  ℕ,
  suc,
  Bool,
  List,
  [],
  ◌∷◌,
  ◌++◌,
  length,
  Option,
  None,
  Some,
  refl,
  ap,
  ◌∙◌,
  arith,
  subst,
  sym,
}
use Rattle.csr_store.specs.Grid.{Cell}
use Rattle.csr_store.specs.Along.{along}
use Rattle.csr_store.specs.Ascending.{Ascends, at, shows}
use Rattle.csr_store.proofs.Along.{along-first, at-below, at-first, at-after, ascends-weaken}
use Rattle.entry_ops.specs.inner.Walking.{IsNext}

pub none_left : (xs : List Cell) → length xs ≡ 0 → xs ≡ []
none_left [] e = refl
none_left (x ∷ xs) e = absurd (omega arith)

-- a row beside one that begins later
pub next_left : (n low : ℕ) (x : Cell) (xs right : List Cell) → Ascends low n (x ∷ xs) → Ascends (suc x.0) n right
    → IsNext n low (x ∷ xs) right x.0 (Some x.1) None xs right
next_left n low x xs right h k = record {
  from = h.0;
  inside = h.1;
  before_left = λ j l. at-below x.0 n (x ∷ xs) j (omega arith, h.1, h.2) l;
  before_right = λ j l. at-below (suc x.0) n right j k (omega arith);
  here_left = at-first x xs;
  here_right = at-below (suc x.0) n right x.0 k (omega arith);
  after_left = λ j l. at-after x xs j l;
  after_right = λ j l. refl;
  left_row = ascends-weaken (x.0 + 1) (suc x.0) n xs (omega arith) h.2;
  right_row = ascends-weaken (x.0 + 1) (suc x.0) n right (omega arith) k;
  shorter = omega arith;
}

pub next_right : (n low : ℕ) (left : List Cell) (y : Cell) (ys : List Cell) → Ascends low n (y ∷ ys) → Ascends (suc y.0) n left
    → IsNext n low left (y ∷ ys) y.0 None (Some y.1) left ys
next_right n low left y ys k h =
    let s = next_left n low y ys left k h in
    record {
      from = s.from;
      inside = s.inside;
      before_left = s.before_right;
      before_right = s.before_left;
      here_left = s.here_right;
      here_right = s.here_left;
      after_left = s.after_right;
      after_right = s.after_left;
      left_row = s.right_row;
      right_row = s.left_row;
      shorter = let w = s.shorter in omega arith;
    }

pub next_both : (n low : ℕ) (x y : Cell) (xs ys : List Cell) → Ascends low n (x ∷ xs) → Ascends low n (y ∷ ys) → x.0 ≡ y.0
    → IsNext n low (x ∷ xs) (y ∷ ys) x.0 (Some x.1) (Some y.1) xs ys
next_both n low x y xs ys h k e = record {
  from = h.0;
  inside = h.1;
  before_left = λ j l. at-below x.0 n (x ∷ xs) j (omega arith, h.1, h.2) l;
  before_right = λ j l. at-below y.0 n (y ∷ ys) j (omega arith, k.1, k.2) (omega arith);
  here_left = at-first x xs;
  here_right = ap (at (y ∷ ys)) e ∙ at-first y ys;
  after_left = λ j l. at-after x xs j l;
  after_right = λ j l. at-after y ys j (omega arith);
  left_row = ascends-weaken (x.0 + 1) (suc x.0) n xs (omega arith) h.2;
  right_row = ascends-weaken (x.0 + 1) (suc y.0) n ys (omega arith) k.2;
  shorter = omega arith;
}

-- a row whose first column is later ascends from there
pub later_row : (n low c : ℕ) (y : Cell) (ys : List Cell) → c < y.0 → Ascends low n (y ∷ ys) → Ascends (suc c) n (y ∷ ys)
later_row n low c y ys l h = (omega arith, h.1, h.2)

-- the same by what the rows are
module _ (n low : ℕ) (left right : List Cell) (l : Ascends low n left) (r : Ascends low n right) where
  module _ (x y : Cell) (xs ys : List Cell) (e : left ≡ x ∷ xs) (f : right ≡ y ∷ ys) where
    pub first_left : x.0 < y.0 → IsNext n low left right x.0 (Some x.1) None xs right
    first_left h = subst (λ us. IsNext n low us right x.0 (Some x.1) None xs right) (sym e)
        (next_left n low x xs right (subst (Ascends low n) e l)
        (subst (Ascends (suc x.0) n) (sym f) (later_row n low x.0 y ys h (subst (Ascends low n) f r))))

    pub first_right : y.0 < x.0 → IsNext n low left right y.0 None (Some y.1) left ys
    first_right h = subst (λ us. IsNext n low left us y.0 None (Some y.1) left ys) (sym f)
        (next_right n low left y ys (subst (Ascends low n) f r)
        (subst (Ascends (suc y.0) n) (sym e) (later_row n low y.0 x xs h (subst (Ascends low n) e l))))

    pub together : x.0 ≡ y.0 → IsNext n low left right x.0 (Some x.1) (Some y.1) xs ys
    together h = subst (λ us. IsNext n low us right x.0 (Some x.1) (Some y.1) xs ys) (sym e)
        (subst (λ us. IsNext n low (x ∷ xs) us x.0 (Some x.1) (Some y.1) xs ys) (sym f)
        (next_both n low x y xs ys (subst (Ascends low n) e l) (subst (Ascends low n) f r) h))

-- what is listed at the next column comes first
module _ {T : Type 0} (g : Bool → ℕ → Option ℕ → Option ℕ → List T) (blank : (b : Bool) (j : ℕ) → g b j None None ≡ []) where
  pub next_first : (n low : ℕ) (left right : List Cell) (mask rest : Option (List Cell)) (c : ℕ) (p q : Option ℕ) (xs ys : List
      Cell)
      → IsNext n low left right c p q xs ys → ((j : ℕ) → c < j → shows mask j ≡ shows rest j)
      → along (λ j. g (shows mask j) j (at left j) (at right j)) 0 n
      ≡ g (shows mask c) c p q ++ along (λ j. g (shows rest j) j (at xs j) (at ys j)) 0 n
  next_first n low left right mask rest c p q xs ys h m =
      let i = h.inside in
      along-first (λ j. g (shows mask j) j (at left j) (at right j)) (λ j. g (shows rest j) j (at xs j) (at ys j)) 0 n c (omega
      arith) (omega arith)
      (λ j l. ap (λ o. g (shows mask j) j o (at right j)) (h.before_left j l)
      ∙ (ap (g (shows mask j) j None) (h.before_right j l) ∙ blank (shows mask j) j))
      (λ j l. ap (λ o. g (shows rest j) j o (at ys j)) (at-below (c + 1) n xs j h.left_row (omega arith))
      ∙ (ap (g (shows rest j) j None) (at-below (c + 1) n ys j h.right_row (omega arith)) ∙ blank (shows rest j) j))
      (λ j l. ap (λ b. g b j (at left j) (at right j)) (m j l)
      ∙ (ap (λ o. g (shows rest j) j o (at right j)) (h.after_left j l) ∙ ap (g (shows rest j) j (at xs j)) (h.after_right j l)))
      ∙ ap (λ zs. zs ++ along (λ j. g (shows rest j) j (at xs j) (at ys j)) 0 n)
      (ap (λ o. g (shows mask c) c o (at right c)) h.here_left ∙ ap (g (shows mask c) c p) h.here_right)
