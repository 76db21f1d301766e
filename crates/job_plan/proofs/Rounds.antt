-- A job whose result isn't too large takes no more rounds than a matrix has entries.
use Rattle.std.proofs.Common.{◌≡◌, ◌≤◌, ◌+◌, ◌-◌, ◌<◌, ℕ, zero, suc, min, true, false, not, nat_eq, cond, if◌then◌else◌, Option, None, Some, List, [], length, ap, refl, arith}
use Rattle.std.specs.FinMap.{len-entries}
use Rattle.csr_store.specs.Grid.{Grid, Cell, IsGrid, limit, row_of, row_start}
use Rattle.csr_store.specs.Mask.{row_passes}
use Rattle.csr_store.specs.Along.{along, summed}
use Rattle.csr_store.proofs.ByRow.{row_start-zero, row_start-next, row_start-within}
use Rattle.csr_store.proofs.Starting.{row_blank}
use Rattle.job_plan.specs.Job.{Form, Apply, Select, Union, Both, Product, Reduce}
use Rattle.job_plan.specs.Forms.{operation}
use Rattle.job_plan.specs.Costing.{costing, count, of_passing, if_passing}
use Rattle.job_plan.specs.Kept.{IsForm}
use Rattle.job_plan.proofs.Sums.{IsAdding, summed-le, adding_room}

-- the entries of rows that follow one another
counted : (a : Grid) (from n : ℕ) → row_start a from + summed (count a) from n ≡ row_start a (from + n)
counted a from zero = let e = ap (row_start a) (let z : from + 0 ≡ from = omega arith in z) in omega arith
counted a from (suc n) =
    let s = row_start-next a from in
    let t = ap (row_start a) (let z : suc from ≡ from + 1 = omega arith in z) in
    let r = counted a (suc from) n in
    let e = ap (row_start a) (let z : suc from + n ≡ from + suc n = omega arith in z) in
    omega arith

-- the same, by where rows start
pub between : (a : Grid) (from to : ℕ) → from ≤ to → row_start a to - row_start a from ≡ summed (count a) from (to - from)
between a from to h =
    let c = counted a from (to - from) in
    let e = ap (row_start a) (let z : from + (to - from) ≡ to = omega (arith, h) in z) in
    omega (arith, c, e)

pub some_entries : (a : Grid) (from n : ℕ) → IsGrid a → summed (count a) from n ≤ limit
some_entries a from n g =
    let c = counted a from n in
    let w = row_start-within a (from + n) in
    let e = g.entries_small in
    omega (arith, len-entries a.cells)

-- the entries of rows are the calls that fold them, and the first of each row that has some
pub folds_and_firsts : (a : Grid) (from n : ℕ)
    → summed (λ i. count a i - 1) from n + summed (λ i. min (count a i) 1) from n ≡ summed (count a) from n
folds_and_firsts a from zero = refl
folds_and_firsts a from (suc n) = let r = folds_and_firsts a (suc from) n in omega arith

few_entries : (a : Grid) (n : ℕ) → IsGrid a → summed (count a) 0 n ≤ limit
few_entries a n g =
    let z = row_start-zero a in
    let c = counted a 0 n in
    let w = row_start-within a (0 + n) in
    let e = g.entries_small in
    omega (arith, len-entries a.cells)

pub passing_le : (mask : Option Grid) (i n : ℕ) → of_passing mask i n ≤ n
passing_le None i n = omega arith
passing_le (Some mask) i n = omega arith

pub passing_if : (mask : Option Grid) (i n : ℕ) → if_passing mask i n ≤ n
passing_if mask i n = elim (row_passes mask i) as (λ b. cond b n 0 ≤ n) [ true ↦ omega arith | false ↦ omega arith ]

below : (p : ℕ → ℕ) (a : Grid) (n : ℕ) → IsGrid a → ((i : ℕ) → p i ≤ count a i) → summed p 0 n ≤ limit
below p a n g h = let s = summed-le p (count a) 0 n h in let f = few_entries a n g in omega arith

pub few_rounds : (form : Form) (mask : Option Grid) → IsForm form → (costing form).entries mask ≤ limit
    → summed ((costing form).rounds mask) 0 (operation form).rows ≤ limit
few_rounds (Apply f thunk a) mask h e = below _ a a.rows h.1.0 (λ i. passing_le mask i (count a i))
few_rounds (Select f thunk a) mask h e = below _ a a.rows h.1.0 (λ i. passing_le mask i (count a i))
few_rounds (Union f a b) mask h e =
    below _ a a.rows h.1.0 (λ i. let l = passing_le mask i (min (count a i) (count b i)) in omega arith)
few_rounds (Both f a b) mask h e =
    below _ a a.rows h.1.0 (λ i. let l = passing_le mask i (min (count a i) (count b i)) in omega arith)
few_rounds (Product add mul a b) mask h e = e
few_rounds (Reduce f a) mask h e =
    below _ a a.rows h.1.0 (λ i. let l = passing_if mask i (count a i - 1) in omega arith)

-- ---- sums over rows, of which none has more than its entries

pub few_of : (p : ℕ → ℕ) (a : Grid) (from n : ℕ) → IsGrid a → ((i : ℕ) → p i ≤ count a i) → summed p from n ≤ limit
few_of p a from n g h = let s = summed-le p (count a) from n h in let f = some_entries a from n g in omega (arith, s, f)

-- a sum that goes on stays within that
pub room_of : (p : ℕ → ℕ) (a : Grid) (from to i sum more : ℕ) → IsGrid a → ((i : ℕ) → p i ≤ count a i)
    → IsAdding p from to i sum → i < to → more ≡ p i → sum + more ≤ limit
room_of p a from to i sum more g h adding l e =
    let room = adding_room p from to i sum more adding l e in
    let few = few_of p a from (to - from) g h in
    omega (arith, room, few)

-- nothing, where no row has anything
none_of : (p : ℕ → ℕ) (from n : ℕ) → ((i : ℕ) → from ≤ i → i < from + n → p i ≡ 0) → summed p from n ≡ 0
none_of p from zero h = refl
none_of p from (suc n) h =
    let here = h from (omega arith) (omega arith) in
    let rest = none_of p (suc from) n (λ i l u. h i (omega (arith, l)) (omega (arith, u))) in
    omega (arith, here, rest)

pub blank_sum : (p : ℕ → ℕ) (a : Grid) (from n : ℕ) → along (row_of a) from n ≡ [] → ((i : ℕ) → row_of a i ≡ [] → p i ≡ 0)
    → summed p from n ≡ 0
blank_sum p a from n b h = none_of p from n (λ i l u. h i (row_blank a from n i b l u))

pub blank_count : (a : Grid) (i : ℕ) → row_of a i ≡ [] → count a i ≡ 0
blank_count a i e = ap length e

pub blank_if : (mask : Grid) (i n : ℕ) → row_of mask i ≡ [] → if_passing (Some mask) i n ≡ 0
blank_if mask i n e = ap (λ (row : List Cell). if not (nat_eq (length row) 0) then n else 0) e
