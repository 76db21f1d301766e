-- At which moments a source may be asked, on the way to a line or a body.
use Rattle.std.proofs.Common.{◌≡◌, ℕ, Bool, true, false, cond, List, [], ◌∷◌, ◌++◌, length, ltb, refl, sym, ◌∙◌, subst, append_assoc, arith}
use Rattle.std.specs.Str.Lines.{strip_carriage_return}
use Rattle.wire.specs.Devices.{SourceState, SinkState}
use Rattle.wire.specs.InputState.{Stream}
use Rattle.wire.specs.Fetching.{Follows, Fetched, MayAsk}
use Rattle.wire.specs.Lines.{Cut, Uncut, At, cut_line, first, first_of, measured, Partial, Over, Line}
use Rattle.wire.proofs.Known.{append_nil, consumes_nothing, consumes_more}

-- what is open now was open before
pub open_before : (a b : Bool) (xs : List ℕ) → Follows a xs b → b ≡ false → a ≡ false
open_before true b xs f e = absurd (let bad : true ≡ false = sym f.1 ∙ e in cc)
open_before false b xs f e = refl

-- some was fetched, and the source may still be asked
pub ask_on : (may : SourceState → SinkState → Type 0) (a b : Stream) (sink : SinkState) (P Q R : List ℕ → Type 0) → (f : Fetched 0 a b Q) → MayAsk may a sink P
    → ((bytes more : List ℕ) → Q bytes → R (b.held.bytes ++ more) → P (bytes ++ more)) → MayAsk may b sink R
ask_on may a b sink P Q R f asked then source got going consumed failures holds =
    let zero = f.failures in
    asked source (f.got ++ got) (open_before a.held.ended b.held.ended f.got f.follows going)
    (consumes_more a.source.remaining b.source.remaining source.remaining f.got got f.consumed consumed)
    (omega arith)
    (subst P (append_assoc a.held.bytes f.got got) (then (a.held.bytes ++ f.got) got f.holds holds))

-- it may be asked now
pub ask_here : (may : SourceState → SinkState → Type 0) (now : Stream) (sink : SinkState) (P : List ℕ → Type 0) → MayAsk may now sink P → now.held.ended ≡ false → P now.held.bytes
    → may now.source sink
ask_here may now sink P asked going here =
    asked now.source [] going (consumes_nothing now.source.remaining) refl (subst P (sym (append_nil now.held.bytes)) here)

-- less than a line stands first only where more may come
measured_whole : (line rest : List ℕ) → measured line rest ≡ Partial → ⊥
measured_whole line rest h =
    elim (ltb 1024 (length line)) as (λ t. cond t Over (Line line rest) ≡ Partial → ⊥) [ true ↦ λ k. cc | false ↦ λ k. cc ] h

ended_whole : (bytes : List ℕ) (o : Cut) → first_of true bytes o ≡ Partial → ⊥
ended_whole [] Uncut h = cc
ended_whole (b ∷ bs) Uncut h = measured_whole (b ∷ bs) [] h
ended_whole bytes (At line rest) h = measured_whole (strip_carriage_return line) rest h

pub partial_open : (ended : Bool) (bytes : List ℕ) → first ended bytes ≡ Partial → (ended ≡ false) × (first false bytes ≡ Partial)
partial_open true bytes h = absurd (ended_whole bytes (cut_line bytes) h)
partial_open false bytes h = (refl, h)
