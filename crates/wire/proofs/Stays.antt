-- A line that is whole stays so, whatever follows.
use Rattle.std.proofs.Common.{◌≡◌, ℕ, Bool, true, false, cond, List, [], ◌∷◌, ◌++◌, length, refl, ap, ◌∙◌, ltb, eqb}
use Rattle.std.specs.Str.Lines.{strip_carriage_return}
use Rattle.wire.specs.Lines.{Uncut, At, after_front, cut_line, first, first_of, measured, Partial, Over, Line}
use Rattle.wire.specs.Fetching.{Follows}
use Rattle.wire.proofs.Known.{append_nil}

-- a line that is whole stays so
cut_line-append : (bs more line rest : List ℕ) → cut_line bs ≡ At line rest → cut_line (bs ++ more) ≡ At line (rest ++ more)
cut_line-append [] more line rest e = absurd (cc)
cut_line-append (b ∷ bs) more line rest e =
    elim (eqb b 10) as (λ t. cond t (At [] bs) (after_front (b ∷ []) (cut_line bs)) ≡ At line rest → cond t (At [] (bs ++ more)) (after_front (b ∷ []) (cut_line (bs ++ more))) ≡ At line (rest ++ more)) [
      | true ↦ λ q. cc
      | false ↦ λ q. elim (cut_line bs) as (λ o. cut_line bs ≡ o → after_front (b ∷ []) o ≡ At line rest → after_front (b ∷ []) (cut_line (bs ++ more)) ≡ At line (rest ++ more)) [
        | Uncut ↦ λ r k. absurd (cc)
        | At l m ↦ λ r k. rw (cut_line-append bs more l m r) (cc)
      ] refl q
    ] e

measured-more : (line rest more l r : List ℕ) → measured line rest ≡ Line l r → measured line (rest ++ more) ≡ Line l (r ++ more)
measured-more line rest more l r h =
    elim (ltb 1024 (length line)) as (λ t. cond t Over (Line line rest) ≡ Line l r → cond t Over (Line line (rest ++ more)) ≡ Line l (r ++ more)) [
      | true ↦ λ k. absurd (cc)
      | false ↦ λ k. cc
    ] h

-- nothing follows what has ended
pub ended_same : (more xs : List ℕ) → more ≡ [] → xs ++ more ≡ xs
ended_same more xs e = ap (λ ys. xs ++ ys) e ∙ append_nil xs

pub first-more : (known e : Bool) (bytes more line rest : List ℕ) → first known bytes ≡ Line line rest → Follows known more e → first e (bytes ++ more) ≡ Line line (rest ++ more)
first-more true e bytes more line rest h f = rw (f.1, ended_same more bytes f.0, ended_same more rest f.0) h
first-more false e bytes more line rest h f =
    elim (cut_line bytes) as (λ o. cut_line bytes ≡ o → first_of false bytes o ≡ Line line rest → first e (bytes ++ more) ≡ Line line (rest ++ more)) [
      | Uncut ↦ λ r k. absurd (elim (ltb (length bytes) 1026) as (λ t. cond t Partial Over ≡ Line line rest → ⊥) [ true ↦ λ q. cc | false ↦ λ q. cc ] k)
      | At l m ↦ λ r k. rw (cut_line-append bytes more l m r) (measured-more (strip_carriage_return l) m more line rest k)
    ] refl h
