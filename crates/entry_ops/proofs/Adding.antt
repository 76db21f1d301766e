-- The results of a block, added row by row.
use Rattle.std.proofs.Common.{◌≡◌, ℕ, List, [], ◌++◌, Option, drop, map, refl, ap}
use Rattle.csr_store.specs.Run.{Run}
use Rattle.csr_store.specs.Along.{cell_at}

pub record IsAdding (results : List (Option ℕ)) (start : Run) (i : ℕ) (now : Run) : Type 0 where
  pub same : now ≡ record start { ended = now.ended; opened = [] }
  pub index_calls : now.ended ++ map (cell_at 0) (drop i results) ≡ start.ended ++ map (cell_at 0) results

module _ (results : List (Option ℕ)) (start : Run) where
  pub adding-start : start.opened ≡ [] → IsAdding results start 0 start
  adding-start e = record { same = ap (λ os. record start { opened = os }) e; index_calls = refl }
