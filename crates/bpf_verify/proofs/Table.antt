-- What a table tells after a write.
use Rattle.std.proofs.Common.{◌≡◌, ◌≢◌, ◌<◌, ℕ, zero, suc, arith, List, [], ◌∷◌, length, get_or, sym}
use Rattle.std.proofs.Common.{◌∙◌, ap, refl}
use Rattle.std.specs.Prelude.{Option, Some, None, ℤ, pos, slice_get, slice_set, replicate}
use Rattle.std.proofs.lemmas.Option.{slice_get-get_or}
use Rattle.bpf_verify.specs.declared.facts.Facts.{Facts}
use Rattle.bpf_verify.specs.Tags.{Types}
use Rattle.bpf_verify.specs.Table.{known, known_in, known_at}
use Rattle.bpf_verify.specs.inner.Pass.{IsMerged, Adds}

get_set_same : (xs : List (Option Facts)) (k : ℕ) (x : Option Facts) → k < length xs
    → slice_get (slice_set xs k x) k ≡ Some x
get_set_same [] k x h = absurd (omega arith)
get_set_same (y ∷ xs) zero x h = refl
get_set_same (y ∷ xs) (suc k) x h = get_set_same xs k x (omega arith)

get_set_other : (xs : List (Option Facts)) (k n : ℕ) (x : Option Facts) → n ≢ k
    → slice_get (slice_set xs k x) n ≡ slice_get xs n
get_set_other [] k n x h = refl
get_set_other (y ∷ xs) zero zero x h = absurd (h refl)
get_set_other (y ∷ xs) zero (suc n) x h = refl
get_set_other (y ∷ xs) (suc k) zero x h = refl
get_set_other (y ∷ xs) (suc k) (suc n) x h = get_set_other xs k n x (λ e. h (ap suc e))

pub known_set : (table : List (Option Facts)) (k : ℕ) (f : Facts) → k < length table
    → known_at (slice_set table k (Some f)) k ≡ Some (known f)
known_set table k f h = ap known_in (get_set_same table k (Some f) h)

pub known_other : (table : List (Option Facts)) (k n : ℕ) (x : Option Facts) → n ≢ k
    → known_at (slice_set table k x) n ≡ known_at table n
known_other table k n x d = ap known_in (get_set_other table k n x d)

-- a write of what is merged adds it
pub adds_set : (table : List (Option Facts)) (to : ℤ) (destination : ℕ) (k : Types) (f : Facts) → to ≡ pos destination
    → destination < length table → IsMerged (known_at table destination) k (known f) → Adds to k table (slice_set table destination (Some f))
adds_set table to destination k f e h m = record {
  destination = destination;
  is_place = e;
  others = λ slot d. known_other table destination slot (Some f) d;
  there = known f;
  now = known_set table destination f h;
  merged = m;
}

pub none_replicated : (n k : ℕ) (us : Types) → known_at (replicate n None) k ≡ Some us → ⊥
none_replicated zero k us e = cc
none_replicated (suc n) zero us e = cc
none_replicated (suc n) (suc k) us e = none_replicated n k us e

-- what is known where an entry was read
pub known_get : (table : List (Option Facts)) (n : ℕ) (o : Option Facts) → n < length table → o ≡ get_or table n o
    → known_at table n ≡ known_in (Some o)
known_get table n o h e = ap known_in (slice_get-get_or table n o h ∙ ap Some (sym e))
