use Rattle.std.proofs.Common.{◌≡◌, ◌≤◌, ◌-◌, ℕ, List, ◌<◌, ◌++◌, Ok, length, drop, length-append, length-drop, refl, ap, subst, sym, ◌∙◌, arith}
use Rattle.wire.specs.Devices.{SourceState}
use Rattle.wire.specs.InputState.{InputState, Stream}
use Rattle.wire.specs.Fetching.{Fetched, LacksBytes}
use Rattle.wire.specs.inner.Keeping.{IsSkipped}
use Rattle.wire.specs.declared.fetch.Body.TheVariants as bodies
use Rattle.wire.proofs.Asking.{ask_here, ask_on}
use Rattle.wire.proofs.Fetching.{fetched_on, fetched_map, fetched_left}
use Rattle.wire.proofs.Gathering.{IsPart, part_gathered, part_read}
use Rattle.wire.proofs.fetch.skip.Goals as goal

-- some of what is held was passed over
passed : (old : Stream) (source : SourceState) (now new : InputState) (len missing part : ℕ) → Fetched 0 old (record { source = source; held = now }) (IsPart len missing now.bytes)
    → part ≤ missing → part ≤ length now.bytes → new ≡ record now { bytes = drop part now.bytes } → Fetched 0 old (record { source = source; held = new }) (IsPart len (missing - part) new.bytes)
passed old source now new len missing part f m h n =
    fetched_left 0 old source now new (IsPart len missing now.bytes) (IsPart len (missing - part) new.bytes) f (ap (λ (h : InputState). h.ended) n) (ap (λ (h : InputState). h.reads_left) n)
    (λ bytes p. subst (λ bs. IsPart len (missing - part) bs bytes) (sym (ap (λ (h : InputState). h.bytes) n)) (part_gathered len missing now.bytes bytes p part m h))

-- nothing is missing
dropped : (len missing : ℕ) (new : InputState) (bytes : List ℕ) → missing ≡ 0 → IsPart len missing new.bytes bytes → IsSkipped len (Ok bodies.Dropped) new bytes
dropped len missing new bytes e p = (p.body, p.parts, let n = p.count in omega arith)

pub returns-then-missing-eq0-clause-fetched : goal.returns-then-missing-eq0-clause-fetched
returns-then-missing-eq0-clause-fetched g c =
    let part = c.min-part.result in
    let there = ap length c.bytes.ensures in
    let f = passed _ _ c.reading.input c.take.new.self c.args.count c.reading.missing part c.reading.invariant.fetched (omega (arith, c.min-part.ensures)) (omega (arith, c.min-part.ensures, there)) c.take.ensures in
    fetched_map 0 _ _ (IsPart c.args.count (c.reading.missing - part) c.take.new.self.bytes) (IsSkipped c.args.count (Ok bodies.Dropped) c.take.new.self) f
    (λ bytes p. dropped c.args.count (c.reading.missing - part) c.take.new.self bytes c.if-missing-eq0.true p)

pub reading-preserved : goal.reading-preserved
reading-preserved g c =
    let part = c.min-part.result in
    let there = ap length c.bytes.ensures in
    let q = c.take.new.self in
    let f = passed _ _ c.reading.input q c.args.count c.reading.missing part c.reading.invariant.fetched (omega (arith, c.min-part.ensures)) (omega (arith, c.min-part.ensures, there)) c.take.ensures in
    let n = c.fill.new.self in
    let more = c.in-Ok.ensures.fetched in
    record {
      fetched = fetched_on 0 0 _ _ _ (IsPart c.args.count (c.reading.missing - part) q.bytes) (λ bytes. n.bytes ≡ bytes) (IsPart c.args.count (c.reading.missing - part) n.bytes) f more refl
          (λ bytes p. part_read c.args.count (c.reading.missing - part) q.bytes bytes p more.got n.bytes more.holds);
      bounded = let k = c.in-Ok.ensures.spent.1 in let l = c.reading.invariant.bounded in let m = c.fill.ensures.capacity in let e = ap (λ (h : InputState). h.reads_left) c.take.ensures in omega arith;
    }

-- more of a part is missing
part_lacks : (len missing : ℕ) (behind bytes more : List ℕ) → IsPart len missing behind bytes → length (behind ++ more) < missing → length (bytes ++ more) < len
part_lacks len missing behind bytes more p short =
    let n = p.count in
    omega (arith, ap length p.parts, length-append p.body behind, length-append behind more, length-append bytes more)

pub fill-requires-clause-asked : goal.fill-requires-clause-asked
fill-requires-clause-asked g c =
    let part = c.min-part.result in
    let now = c.reading.input in
    let there = ap length c.bytes.ensures in
    let q = c.take.new.self in
    let left = c.reading.missing - part in
    let f = passed _ _ now q c.args.count c.reading.missing part c.reading.invariant.fetched (omega (arith, c.min-part.ensures)) (omega (arith, c.min-part.ensures, there)) c.take.ensures in
    let none = ap (λ (h : InputState). length h.bytes) c.take.ensures in
    let some = c.if-missing-eq0.false in
    let at : Stream = record { source = g.R.Asked.state c.reading.reader; held = q } in
    ask_here g.R.Asked.may_ask at _ (LacksBytes left)
    (ask_on g.R.Asked.may_ask _ at _ (LacksBytes c.args.count) (IsPart c.args.count left q.bytes) (LacksBytes left) f c.requires
    (λ bytes more p short. part_lacks c.args.count left q.bytes bytes more p short))
    (sym c.has_ended.ensures ∙ c.if-has_ended.false)
    (omega (arith, c.min-part.ensures, there, none, length-drop part now.bytes))
