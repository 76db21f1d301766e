-- How a body grows, or is passed over.
use Rattle.std.proofs.Common.{◌≡◌, ◌<◌, ◌≤◌, ℕ, false, ◌+◌, ◌-◌, List, [], ◌++◌, length, take, drop, take_all, sym, ap, ◌∙◌, arith, append_assoc}
use Rattle.std.proofs.Common.{length-append, length-take, Result, Ok, Err}
use Rattle.std.proofs.lemmas.List.{take-append-drop, length-take-le}
use Rattle.std.proofs.Math.Seq.{take-add}
use Rattle.wire.specs.InputState.{InputState}
use Rattle.wire.specs.declared.fault.ReadFault.{ReadFault}
use Rattle.wire.specs.declared.fault.ReadFault.TheVariants.{Failed, OutOfReads}
use Rattle.wire.specs.declared.fetch.Body.{Body}
use Rattle.wire.specs.declared.fetch.Body.TheVariants as bodies
use Rattle.wire.specs.Fetching.{IsBody, IsFilled}
use Rattle.wire.specs.inner.Keeping.{IsSkipped}
use Rattle.wire.proofs.Known.{append_nil}

-- all bytes are a part of a body, of which some are missing, and what is held behind it
pub record IsPart (len missing : ℕ) (behind bytes : List ℕ) : Type 0 where
  pub body : List ℕ
  pub parts : bytes ≡ body ++ behind
  pub count : length body + missing ≡ len

module _ (len missing : ℕ) (behind bytes : List ℕ) (p : IsPart len missing behind bytes) where
  -- some of what is held was passed over
  pub part_gathered : (part : ℕ) → part ≤ missing → part ≤ length behind → IsPart len (missing - part) (drop part behind) bytes
  part_gathered part m h = record {
    body = p.body ++ take part behind;
    parts = p.parts ∙ (ap (λ xs. p.body ++ xs) (sym (take-append-drop part behind)) ∙ sym (append_assoc p.body (take part behind) (drop part behind)));
    count = let n = p.count in omega (arith, length-append p.body (take part behind), length-take part behind);
  }

  -- more was read behind a part
  pub part_read : (got filled : List ℕ) → filled ≡ behind ++ got → IsPart len missing filled (bytes ++ got)
  part_read got filled e = record {
    body = p.body;
    count = p.count;
    parts = ap (λ xs. xs ++ got) p.parts ∙ (append_assoc p.body behind got ∙ ap (λ xs. p.body ++ xs) (sym e));
  }

-- bytes came in front of those that were passed over
pub skipped_behind : (len came : ℕ) (front rest : List ℕ) (new : InputState) (result : Result Body ReadFault) → length front ≡ came → came ≤ len → IsSkipped (len - came) result new rest → IsBody len result new (front ++ rest)
skipped_behind len came front rest new (Ok (bodies.Whole body)) f c s = absurd s
skipped_behind len came front rest new (Ok bodies.Dropped) f c s =
    (front ++ s.0, ap (λ xs. front ++ xs) s.1 ∙ sym (append_assoc front s.0 new.bytes), let n = s.2 in omega (arith, length-append front s.0))
skipped_behind len came front rest new (Ok bodies.Cut) f c s = (let n = s.0 in omega (arith, length-append front rest), s.1)
skipped_behind len came front rest new (Err Failed) f c s = (let n = s.0 in omega (arith, length-append front rest), s.1)
skipped_behind len came front rest new (Err OutOfReads) f c s = (let n = s.0 in omega (arith, length-append front rest), s.1)

-- The first part of a body and all bytes behind it are what came of the body, which stands first in its room, and what is held
-- behind it.
abbrev pub IsKeeping : List ℕ → ℕ → List ℕ → List ℕ → List ℕ → Type 0
IsKeeping first came buffer behind bytes = first ++ bytes ≡ take came buffer ++ behind

module _ (first bytes buffer behind : List ℕ) (came : ℕ) (k : IsKeeping first came buffer behind bytes) (c : came ≤ length buffer) where
  -- all of the room is the body
  pub keeping_whole : (len : ℕ) → came ≡ len → length buffer ≤ len → (first ++ bytes ≡ buffer ++ behind) × (length buffer ≡ len)
  keeping_whole len e l = (k ∙ ap (λ xs. xs ++ behind) (take_all came buffer (omega arith)), omega arith)

  -- nothing is held behind it
  pub keeping_count : behind ≡ [] → length (first ++ bytes) ≡ came
  keeping_count e = omega (arith, ap length k, length-append (take came buffer) behind, ap (λ (xs : List ℕ). length xs) e, length-take-le came buffer c)

  -- nothing was read, and something is missing
  pub keeping_short : (len : ℕ) (fault : ReadFault) (old new : InputState) (got : List ℕ) → behind ≡ [] → came < len → old.ended ≡ false → IsFilled (Err fault) old new (old.bytes ++ got)
      → IsBody len (Err fault) new (first ++ (bytes ++ got))
  keeping_short len Failed old new got e s fresh h = (let n = keeping_count e in omega (arith, ap length (append_assoc first bytes got), length-append (first ++ bytes) got, length-append old.bytes got, ap length h.1.0), h.1.1 ∙ fresh)
  keeping_short len OutOfReads old new got e s fresh h = (let n = keeping_count e in omega (arith, ap length (append_assoc first bytes got), length-append (first ++ bytes) got, length-append old.bytes got, ap length h.1.0), (ap (λ (x : InputState). x.ended) h.0 ∙ fresh, h.1.1))

  -- more was read into a room with the same front
  pub keeping_more : (filled got after : List ℕ) (n : ℕ) → take came filled ≡ take came buffer → behind ++ got ≡ take n (drop came filled) → after ≡ [] → IsKeeping first (came + n) filled after (bytes ++ got)
  keeping_more filled got after n same e none =
      sym (append_assoc first bytes got) ∙ (ap (λ xs. xs ++ got) k ∙ (append_assoc (take came buffer) behind got
      ∙ (ap (λ xs. xs ++ (behind ++ got)) (sym same) ∙ (ap (λ xs. take came filled ++ xs) e
      ∙ (sym (take-add came n filled) ∙ (sym (append_nil (take (came + n) filled)) ∙ ap (λ xs. take (came + n) filled ++ xs) (sym none)))))))
