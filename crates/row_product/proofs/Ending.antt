-- A row of the product is put into the open row, which then is ended; or memory is wanting.
use Rattle.std.proofs.Common.{◌≡◌, ◌+◌, ◌∷◌, ◌++◌, ℕ, false, List, [], sym, ap, ◌∙◌, subst, arith}
use Rattle.std.specs.Prelude.{Result, Ok, Err, OnOk}
use Rattle.std.specs.declared.alloc.AllocError.{AllocError}
use Rattle.bpf_run.specs.Calls.{Call, steps_of}
use Rattle.bpf_run.proofs.Charging.{charges-all}
use Rattle.csr_store.specs.Mask.{mask_of, row_passes}
use Rattle.csr_store.specs.Run.{Row, Run}
use Rattle.job_forms.specs.Product.{product_at, product_calls_at}
use Rattle.job_forms.specs.Region.{Adds}
use Rattle.job_forms.specs.declared.region.Making.{Making}
use Rattle.row_product.specs.declared.factors.MaskedFactors.{MaskedFactors}
use Rattle.row_product.specs.inner.Masked.{row_of_product, calls_of_row, IsNext, AddsRow}
use Rattle.row_product.proofs.Filling.{row_closed, calls_closed}

-- all calls were made for a row, it was put into the open row, and that was ended
pub adds_ended : (row : Row) (calls : List Call) (old : Making) (mid : Run) (new : Making) (filled : Result (Unit {0}) AllocError)
    → old.rows.opened ≡ [] → mid ≡ record old.rows { opened = row } → new.steps ≡ old.steps + steps_of calls
    → OnOk filled (new.rows ≡ record mid { ended = mid.ended ++ mid.opened ∷ []; opened = [] })
    → Adds (row ∷ []) calls old new filled
adds_ended row calls old mid new (Ok x) o m s e = record {
  rows = e ∙ (ap (λ (u : Run). record u { ended = u.ended ++ u.opened ∷ []; opened = [] }) m
      ∙ ap (λ (os : Row). record old.rows { ended = old.rows.ended ++ row ∷ []; opened = os }) (sym o));
  steps = s;
  spent = tt;
}
adds_ended row calls old mid new (Err x) o m s e = record { rows = tt; steps = tt; spent = charges-all calls old.steps new.steps s }

-- nothing passes in row i: no call is made, and the open row is ended as it is
pub adds_closed : (f : MaskedFactors) (i : ℕ) (old new : Making) (filled : Result (Unit {0}) AllocError) → IsNext f i old
    → row_passes (mask_of f.mask) i ≡ false → new.steps ≡ old.steps
    → OnOk filled (new.rows ≡ record old.rows { ended = old.rows.ended ++ old.rows.opened ∷ []; opened = [] })
    → AddsRow f i old new filled
adds_closed f i old new filled next closed s e =
    let mask = mask_of f.mask in
    let none = row_closed mask f.b.now.columns (product_at f.add.now f.mul.now f.a.now f.b.now) i closed in
    let free = ap steps_of (calls_closed mask f.b.now.columns (product_calls_at f.add.now f.mul.now f.a.now f.b.now) i closed) in
    record {
      adds = adds_ended (row_of_product f i) (calls_of_row f i) old old.rows new filled next.none_open
          (ap (λ (os : Row). record old.rows { opened = os }) (next.none_open ∙ sym none)) (omega (arith, s, free)) e;
      little = omega (arith, s);
    }

-- the same rows and calls, told otherwise
pub adds_same : (row more : Row) (calls others : List Call) (old new : Making) (filled : Result (Unit {0}) AllocError) → row ≡ more
    → calls ≡ others → Adds (row ∷ []) calls old new filled → Adds (more ∷ []) others old new filled
adds_same row more calls others old new filled r c h =
    subst (λ (cs : List Call). Adds (more ∷ []) cs old new filled) c (subst (λ (us : Row). Adds (us ∷ []) calls old new filled) r h)
