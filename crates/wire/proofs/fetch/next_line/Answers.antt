use Rattle.std.proofs.Common.{◌≡◌, ◌++◌, false, List, ℕ, Err, refl, ap, ◌∙◌, subst}
use Rattle.wire.specs.InputState.{InputState, Stream}
use Rattle.wire.specs.Lines as lines
use Rattle.wire.specs.Fetching.{IsFilled, IsLined, failed_reads}
use Rattle.wire.specs.declared.fault.ReadFault.{ReadFault}
use Rattle.wire.specs.declared.fault.ReadFault.TheVariants.{Failed, OutOfReads}
use Rattle.wire.specs.declared.fetch.Lined.{Lined}
use Rattle.wire.proofs.Asking.{ask_here, ask_on, partial_open}
use Rattle.wire.proofs.Fetching.{fetched_then, fetched_map, fetched_as}
use Rattle.wire.proofs.fetch.next_line.Goals as goal

partial_still : (old new : InputState) (bytes : List ℕ) → bytes ≡ old.bytes → new.ended ≡ old.ended → lines.first old.ended old.bytes ≡ lines.Partial → lines.first new.ended bytes ≡ lines.Partial
partial_still old new bytes b e p = ap (λ d. lines.first d bytes) e ∙ (ap (lines.first old.ended) b ∙ p)

lined_failed : (fault : ReadFault) (old new : InputState) (line bytes : List ℕ) → lines.first old.ended old.bytes ≡ lines.Partial → IsFilled (Err fault) old new bytes → IsLined (Err fault) line new bytes
lined_failed Failed old new line bytes p h = partial_still old new bytes h.1.0 h.1.1 p
lined_failed OutOfReads old new line bytes p h = (partial_still old new bytes h.1.0 (ap (λ (s : InputState). s.ended) h.0) p, h.1.1)

same_count : (fault : ReadFault) → failed_reads {A = Unit {0}} (Err fault) ≡ failed_reads {A = Lined} (Err fault)
same_count Failed = refl
same_count OutOfReads = refl

pub returns-in-Err-clause-fetched : goal.returns-in-Err-clause-fetched
returns-in-Err-clause-fetched g c =
    let now = c.reading.input in
    let new = c.fill.new.self in
    let fault = c.in-Err.fault in
    let partial : lines.first now.ended now.bytes ≡ lines.Partial =
    subst (λ e. lines.first e now.bytes ≡ lines.Partial) c.has_ended.ensures (subst (λ bs. lines.first c.has_ended.result bs ≡ lines.Partial) c.bytes.ensures c.in-Partial.ensures) in
    fetched_as _ _ _ _ (IsLined (Err fault) c.reading.line.items new)
    (fetched_then 0 _ _ _ _ (IsLined (Err fault) c.reading.line.items new) c.reading.invariant.fetched
    (fetched_map _ _ _ (IsFilled (Err fault) now new) (IsLined (Err fault) c.reading.line.items new) c.in-Err.ensures.fetched (λ bytes h. lined_failed fault now new c.reading.line.items bytes partial h)) refl) (same_count fault)

pub fill-requires-clause-asked : goal.fill-requires-clause-asked
fill-requires-clause-asked g c =
    let now = c.reading.input in
    let partial : lines.first now.ended now.bytes ≡ lines.Partial =
    subst (λ e. lines.first e now.bytes ≡ lines.Partial) c.has_ended.ensures (subst (λ bs. lines.first c.has_ended.result bs ≡ lines.Partial) c.bytes.ensures c.in-Partial.ensures) in
    let going = partial_open now.ended now.bytes partial in
    let lacks = λ (bytes : List ℕ). lines.first false bytes ≡ lines.Partial in
    let at : Stream = record { source = g.R.Asked.state c.reading.reader; held = now } in
    ask_here g.R.Asked.may_ask at _ lacks
    (ask_on g.R.Asked.may_ask _ at _ lacks (λ bytes. now.bytes ≡ bytes) lacks c.reading.invariant.fetched c.requires.asked
    (λ bytes more same partial. subst (λ bs. lines.first false (bs ++ more) ≡ lines.Partial) same partial)) going.0 going.1
