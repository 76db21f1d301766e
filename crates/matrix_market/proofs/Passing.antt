-- Lines that are passed over.
use Rattle.std.proofs.Common.{◌≡◌, ◌+◌, ℕ, List, [], ◌∷◌, ◌++◌, true, false, nat_lt, length, sym, ap, ◌∙◌, arith, append_assoc, length-append}
use Rattle.std.specs.List.{AllByRecursion}
use Rattle.std.specs.Str.Lines.{lines}
use Rattle.matrix_market.specs.Market.{is_skipped}
use Rattle.matrix_market.specs.inner.Answers.{IsIdle, Passes}

pub all_push : {X : Type 0} (P : X → Type 0) (xs : List X) (x : X) → AllByRecursion P xs → P x → AllByRecursion P (xs ++ x ∷ [])
all_push P [] x h p = (p, tt)
all_push P (y ∷ ys) x h p = (h.0, all_push P ys x h.1 p)

pub passes_more : (text : List ℕ) (number : ℕ) (rest : List ℕ) (at : ℕ) (line more : List ℕ) → Passes text number (lines rest) at → lines rest ≡ line ∷ lines more
    → is_skipped line ≡ true → nat_lt 1024 (length line) ≡ false → Passes text number (lines more) (at + 1)
passes_more text number rest at line more h e s l = record {
  between = h.between ++ line ∷ [];
  split = h.split ∙ (ap (λ ls. h.between ++ ls) e ∙ sym (append_assoc h.between (line ∷ []) (lines more)));
  counts = let n = h.counts in omega (arith, length-append h.between (line ∷ []));
  idle = all_push IsIdle h.between line h.idle (s, l);
}
