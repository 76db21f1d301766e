-- A row that is read along.
use Rattle.std.proofs.Common.{◌≡◌, ◌∙◌, ℕ, suc, List, [], ◌∷◌, None, Some, refl, sym, ap, arith, cond}
use Rattle.std.proofs.lemmas.Bool.{ne_eqb}
use Rattle.csr_store.specs.Grid.{Cell}
use Rattle.csr_store.specs.Ascending.{Ascends, at}
use Rattle.csr_store.proofs.Along.{at-below}
use Rattle.job_forms.specs.inner.Cursor.{first_column}

-- nothing stands at a column where no cell begins
pub none_here : (n column : ℕ) (cs : List Cell) → Ascends column n cs → (first_column cs ≡ column → ⊥) → None ≡ at cs column
none_here n column [] h e = refl
none_here n column (c ∷ cs) h e =
    let b = h.0 in
    sym (ap (λ t. cond t (Some c.1) (at cs column)) (ne_eqb column c.0 (λ q. e (sym q)))
    ∙ at-below (suc c.0) n cs column h.2 (omega arith))
