-- The shares of all views stay the whole. Who has the whole is alone: no other view has a call or a debt.
use Rattle.std.proofs.Common.{◌≡◌, ◌⊎◌, inl, ℕ, zero, suc, ◌+◌, ◌*◌, ◌-◌, ◌^◌, ◌≤◌, ◌<◌, List, [], ◌∷◌, ◌++◌, set, refl, sym, ap, ◌∙◌, subst, ⊎_elim, arith}
use mathlib.Core.Option.{some}
use lib.ListN.{get_elem?}
use Rattle.std.proofs.lemmas.Nat.{pow-add, pow_pos}
use Rattle.step_purse.specs.declared.views.Share.{Share}
use Rattle.step_purse.specs.declared.views.View.{View}
use Rattle.step_purse.specs.Shares.{half, both_shares, IsWhole}
use Rattle.step_purse.specs.Histories.{total_of}
use Rattle.step_purse.specs.inner.Rule.{left_behind, parts_of, AreWhole}
use Rattle.step_purse.proofs.Lists.{sum_set, sum_snoc, views_set, views_snoc}

-- the view has a share, or is the one that joined passes leave
abbrev pub IsPlaced : View → Type 0
IsPlaced u = (u ≡ left_behind) ⊎ (0 < u.known.share.parts)

abbrev pub ArePlaced : List View → Type 0
ArePlaced views = (id : ℕ) (u : View) → get_elem? views id ≡ some u → IsPlaced u

-- so many halvings divide the view's share
abbrev pub IsDivided : ℕ → View → Type 0
IsDivided n u = u.known.share.halvings ≤ n

abbrev pub AreDivided : ℕ → List View → Type 0
AreDivided n views = (id : ℕ) (u : View) → get_elem? views id ≡ some u → IsDivided n u

product_pos : (m n : ℕ) → 0 < m → 0 < n → 0 < m * n
product_pos zero n a b = absurd (omega arith)
product_pos (suc m) n a b = omega arith

pub both_part : (s t : Share) → 0 < s.parts → 0 < (both_shares s t).parts
both_part s t some_part = let p = product_pos s.parts (2 ^ t.halvings) some_part (pow_pos t.halvings) in omega arith

pub whole_back : (s : Share) → IsWhole s → IsWhole (both_shares (half s) (half s))
whole_back s w =
    let a = pow-add 2 (s.halvings + 1) (s.halvings + 1) in
    let b = pow-add 2 s.halvings 1 in
    rw (w, a, b) (omega arith)

-- smaller parts are more
finer : (n k : ℕ) (v : View) → IsDivided n v → parts_of (n + k) v ≡ parts_of n v * 2 ^ k
finer n k v d =
    let e : n + k - v.known.share.halvings ≡ n - v.known.share.halvings + k = omega arith in
    let p = pow-add 2 (n - v.known.share.halvings) k in
    rw (e, p) (omega arith)

all_finer : (n k : ℕ) (views : List View) → AreDivided n views → total_of (parts_of (n + k)) views ≡ total_of (parts_of n) views * 2 ^ k
all_finer n k [] d = omega arith
all_finer n k (u ∷ us) d =
    let here = finer n k u (d zero u refl) in
    let rest = all_finer n k us (λ id v at. d (suc id) v at) in
    omega arith

-- a whole share is all parts
all_parts : (n : ℕ) (v : View) → IsDivided n v → IsWhole v.known.share → parts_of n v ≡ 2 ^ n
all_parts n v d w =
    let p = pow-add 2 v.known.share.halvings (n - v.known.share.halvings) in
    let e : v.known.share.halvings + (n - v.known.share.halvings) ≡ n = omega arith in
    rw w (sym p ∙ ap (λ (k : ℕ). 2 ^ k) e)

nothing_left : (f : View → ℕ) → f left_behind ≡ 0 → (n : ℕ) (views : List View) → ArePlaced views → total_of (parts_of n) views ≡ 0 → total_of f views ≡ 0
nothing_left f none n [] placed no_part = refl
nothing_left f none n (u ∷ us) placed no_part =
    let here : f u ≡ 0 =
    ⊎_elim
    (λ (l : u ≡ left_behind). ap f l ∙ none)
    (λ (l : 0 < u.known.share.parts). let p = product_pos u.known.share.parts (2 ^ (n - u.known.share.halvings)) l (pow_pos (n - u.known.share.halvings)) in absurd (omega arith))
    (placed zero u refl)
    in
    let rest = nothing_left f none n us (λ id v at. placed (suc id) v at) (omega arith) in
    omega arith

-- what one view with the whole share counts is all that is counted
pub alone_counts : (f : View → ℕ) → f left_behind ≡ 0 → (views : List View) (id : ℕ) (v : View) → AreWhole views → ArePlaced views → get_elem? views id ≡ some v → IsWhole v.known.share → total_of f views ≡ f v
alone_counts f none views id v shares placed at is_whole =
    let n = shares.halvings in
    let p = sum_set (parts_of n) views id v left_behind at in
    let all = all_parts n v (shares.divides id v at) is_whole in
    let one = shares.one in
    let s = sum_set f views id v left_behind at in
    let z = nothing_left f none n (set views id left_behind) (views_set IsPlaced views id left_behind (inl refl) placed) (omega arith) in
    omega arith

-- a view changes, and keeps its share
pub same_shares : (views : List View) (id : ℕ) (v w : View) → get_elem? views id ≡ some v → w.known.share ≡ v.known.share → AreWhole views → AreWhole (set views id w)
same_shares views id v w at same k =
    let e : parts_of k.halvings w ≡ parts_of k.halvings v = ap (λ (s : Share). s.parts * 2 ^ (k.halvings - s.halvings)) same in
    record {
      halvings = k.halvings;
      divides = views_set (IsDivided k.halvings) views id w (subst (λ (s : Share). s.halvings ≤ k.halvings) (sym same) (k.divides id v at)) k.divides;
      one = let s = sum_set (parts_of k.halvings) views id v w at in let o = k.one in omega arith;
    }

-- all of a view goes to a new one
pub moved_shares : (views : List View) (id : ℕ) (v : View) → get_elem? views id ≡ some v → AreWhole views → AreWhole (set views id left_behind ++ v ∷ [])
moved_shares views id v at k =
    record {
      halvings = k.halvings;
      divides = views_snoc (IsDivided k.halvings) (set views id left_behind) v (k.divides id v at) (views_set (IsDivided k.halvings) views id left_behind (omega arith) k.divides);
      one =
          let s = sum_set (parts_of k.halvings) views id v left_behind at in
          let t = sum_snoc (parts_of k.halvings) (set views id left_behind) v in
          let o = k.one in
          omega arith;
    }

-- half of a view's share goes to a new one
pub halved_shares : (views : List View) (id : ℕ) (v w u : View) → get_elem? views id ≡ some v → w.known.share ≡ half v.known.share → u.known.share ≡ half v.known.share → AreWhole views → AreWhole (set views id w ++ u ∷ [])
halved_shares views id v w u at first second k =
    let n = k.halvings in
    let mine : v.known.share.halvings ≤ n = k.divides id v at in
    let halved : (x : View) → x.known.share ≡ half v.known.share → parts_of (n + 1) x ≡ parts_of n v =
    (λ x same.
    let e : n + 1 - (v.known.share.halvings + 1) ≡ n - v.known.share.halvings = omega arith in
    ap (λ (s : Share). s.parts * 2 ^ (n + 1 - s.halvings)) same ∙ ap (λ (d : ℕ). v.known.share.parts * 2 ^ d) e)
    in
    let divided : (x : View) → x.known.share ≡ half v.known.share → IsDivided (n + 1) x =
    (λ x same. subst (λ (s : Share). s.halvings ≤ n + 1) (sym same) (omega arith))
    in
    let more : AreDivided (n + 1) views = (λ j x there. let d = k.divides j x there in omega arith) in
    record {
      halvings = n + 1;
      divides = views_snoc (IsDivided (n + 1)) (set views id w) u (divided u second) (views_set (IsDivided (n + 1)) views id w (divided w first) more);
      one =
          let s = sum_set (parts_of (n + 1)) views id v w at in
          let t = sum_snoc (parts_of (n + 1)) (set views id w) u in
          let a = halved w first in
          let b = halved u second in
          let f = finer n 1 v mine in
          let all = all_finer n 1 views k.divides in
          let p = pow-add 2 n 1 in
          let o = k.one in
          omega arith;
    }

-- a view takes in another
pub joined_shares : (views : List View) (id other : ℕ) (v u w : View) → get_elem? views id ≡ some v → get_elem? views other ≡ some u → get_elem? (set views id w) other ≡ some u → w.known.share ≡ both_shares v.known.share u.known.share → AreWhole views
    → AreWhole (set (set views id w) other left_behind)
joined_shares views id other v u w at their there same k =
    let n = k.halvings in
    let s = v.known.share.halvings in
    let t = u.known.share.halvings in
    let mine : s ≤ n = k.divides id v at in
    let yours : t ≤ n = k.divides other u their in
    let more : AreDivided (n + t) views = (λ j x there. let d = k.divides j x there in omega arith) in
    let both : parts_of (n + t) w ≡ parts_of (n + t) v + parts_of (n + t) u =
    (let e : n + t - (s + t) ≡ n - s = omega arith in
    let a : n + t - s ≡ n - s + t = omega arith in
    let b : n + t - t ≡ s + (n - s) = omega arith in
    let p = pow-add 2 (n - s) t in
    let q = pow-add 2 s (n - s) in
    ap (λ (x : Share). x.parts * 2 ^ (n + t - x.halvings)) same ∙ rw (e, a, b, p, q) (omega arith))
    in
    record {
      halvings = n + t;
      divides = views_set (IsDivided (n + t)) (set views id w) other left_behind (omega arith)
          (views_set (IsDivided (n + t)) views id w (subst (λ (x : Share). x.halvings ≤ n + t) (sym same) (omega arith)) more);
      one =
          let i = sum_set (parts_of (n + t)) views id v w at in
          let j = sum_set (parts_of (n + t)) (set views id w) other u left_behind there in
          let all : total_of (parts_of (n + t)) views ≡ 2 ^ (n + t) = all_finer n t views k.divides ∙ (ap (λ (x : ℕ). x * 2 ^ t) k.one ∙ sym (pow-add 2 n t)) in
          let together = both in
          omega arith;
    }
