-- A row of B read beside the mask's row: the cells that pass.
use Rattle.std.proofs.Common.{◌≡◌, ℕ, suc, ◌+◌, ◌≤◌, ◌<◌, Bool, true, false, if◌then◌else◌}
use Rattle.std.proofs.Common.{List, [], ◌∷◌, ◌++◌, length, take, set, is_some, refl, sym, ap, ◌∙◌, subst, append_assoc, arith}
use Rattle.std.proofs.lemmas.List.{take-set, take_more_set}
use mir.Val.{bool_byte}
use Rattle.csr_store.specs.Grid.{Cell}
use Rattle.csr_store.proofs.Along.{Ascends, at, ascends-weaken}
use Rattle.row_product.specs.inner.Adding.{taking}
use Rattle.row_product.specs.inner.RowUnderMask.{stores, IsRowUnderMask}

-- the same test takes the same cells
pub taking_same : (t u : ℕ → Bool) (cs : List Cell) → ((j : ℕ) → t j ≡ u j) → taking t cs ≡ taking u cs
taking_same t u [] e = refl
taking_same t u (c ∷ cs) e =
    ap (λ b. if b then c ∷ taking t cs else taking t cs) (e c.0) ∙ ap (λ us. if u c.0 then c ∷ us else us) (taking_same t u cs e)

-- one cell further, where the mask's row is read up to its column
pub beside_further : (whole : List Cell) (n : ℕ) (cells mask : List Cell) (c : Cell) (more left : List Cell)
    → IsRowUnderMask whole n cells mask
    → cells ≡ c ∷ more → Ascends c.0 n left → ((j : ℕ) → c.0 ≤ j → at mask j ≡ at left j) → IsRowUnderMask whole n more left
beside_further whole n cells mask c more left b e o s =
    let a = subst (Ascends b.low n) e b.ascends in
    let l = a.0 in
    record {
      low = suc c.0;
      ascends = a.2;
      order = ascends-weaken 0 c.0 n left (omega arith) o;
      same = λ j h. sym (s j (omega (arith, h))) ∙ b.same j (omega (arith, h, l));
    }

-- and whether it is taken
pub taken_so : (whole : List Cell) (n : ℕ) (cells mask : List Cell) (c : Cell) (more left : List Cell) → IsRowUnderMask whole n cells mask
    → cells ≡ c ∷ more → ((j : ℕ) → c.0 ≤ j → at mask j ≡ at left j) → (b : Bool) → b ≡ stores left c.0
    → taking (stores whole) cells ≡ (if b then c ∷ taking (stores whole) more else taking (stores whole) more)
taken_so whole n cells mask c more left b e s t h =
    let a = subst (Ascends b.low n) e b.ascends in
    ap (taking (stores whole)) e
    ∙ ap (λ q. if q then c ∷ taking (stores whole) more else taking (stores whole) more)
    (sym (h ∙ ap is_some (sym (s c.0 (omega arith)) ∙ b.same c.0 a.0)))

-- a cell is put behind those that passed, and counted if it passes
pub put_next : {T : Type 0} (ps : List T) (n m : ℕ) (c : T) (all rest whole : List T) (b : Bool) → m ≡ n + bool_byte b → n < length ps
    → all ≡ (if b then c ∷ rest else rest) → take n ps ++ all ≡ whole → take m (set ps n c) ++ rest ≡ whole
put_next ps n m c all rest whole true p f k h =
    ap (λ us. us ++ rest) (ap (λ q. take q (set ps n c)) p ∙ take_more_set ps n c f)
    ∙ (append_assoc (take n ps) (c ∷ []) rest ∙ (ap (λ us. take n ps ++ us) (sym k) ∙ h))
put_next ps n m c all rest whole false p f k h =
    let q : m ≡ n = omega (arith, p) in
    ap (λ us. us ++ rest) (ap (λ q. take q (set ps n c)) q ∙ take-set ps n c) ∙ (ap (λ us. take n ps ++ us) (sym k) ∙ h)

pub byte_few : (b : Bool) → bool_byte b ≤ 1
byte_few true = omega arith
byte_few false = omega arith
