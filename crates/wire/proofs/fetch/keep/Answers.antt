use Rattle.std.proofs.Common.{◌≡◌, ◌<◌, ◌+◌, [], List, ℕ, ◌++◌, take, drop, length, length-append, take_all, Ok, Err, refl, sym, ap, ◌∙◌, arith}
use Rattle.std.proofs.lemmas.List.{take_at}
use Rattle.wire.specs.InputState.{Stream}
use Rattle.wire.specs.Fetching.{IsFilled, IsReadBehind, LacksBytes, failed_reads}
use Rattle.wire.specs.inner.Keeping.{IsKept}
use Rattle.wire.specs.declared.fault.ReadFault.{ReadFault}
use Rattle.wire.specs.declared.fault.ReadFault.TheVariants.{Failed, OutOfReads}
use Rattle.wire.specs.declared.fetch.Received.{Received}
use Rattle.wire.specs.declared.fetch.Received.TheVariants.{Whole, Full, Cut}
use Rattle.wire.proofs.Asking.{ask_here, ask_on}
use Rattle.wire.proofs.Fetching.{fetched_here, fetched_on, fetched_map, fetched_as}
use Rattle.wire.proofs.Gathering.{IsKeeping, keeping_whole, keeping_count, keeping_short, keeping_more}
use Rattle.wire.proofs.fetch.keep.Goals as goal

same_count : (fault : ReadFault) → failed_reads {A = ℕ} (Err fault) ≡ failed_reads {A = Received} (Err fault)
same_count Failed = refl
same_count OutOfReads = refl

pub reading-init : goal.reading-init
reading-init g c =
    let v = c.args.first in
    let now = c.args.input.now in
    let count : c.len-came.result ≡ length v.items = c.len-came.ensures ∙ v.ok.0 in
    record {
      fetched = fetched_here _ now now (IsKeeping v.items c.len-came.result v.items now.bytes) refl refl (ap (λ xs. xs ++ now.bytes) (sym (take_all c.len-came.result v.items (omega arith))));
      came = omega (arith, c.len-came.ensures);
      within = c.requires.within;
      none = λ h. c.requires.next (omega (arith, c.len-came.ensures));
      bounded = omega arith;
    }

pub returns-then-came-length-clause-fetched : goal.returns-then-came-length-clause-fetched
returns-then-came-length-clause-fetched g c =
    let l = c.reading in
    let first = c.args.first.items in
    let buffer = l.body.items in
    let count = l.body.ok.0 in
    let came = l.invariant.came in
    let within = l.invariant.within in
    fetched_map 0 _ _ (IsKeeping first l.came buffer l.input.bytes) (IsKept c.args.length first (Ok (Whole l.body)) l.input) l.invariant.fetched
    (λ bytes k. keeping_whole first bytes buffer l.input.bytes l.came k (omega arith) c.args.length c.if-came-length.true (omega arith))

pub returns-then-has_ended-clause-fetched : goal.returns-then-has_ended-clause-fetched
returns-then-has_ended-clause-fetched g c =
    let l = c.reading in
    let first = c.args.first.items in
    let buffer = l.body.items in
    let count = l.body.ok.0 in
    let came = l.invariant.came in
    let within = l.invariant.within in
    let some = c.if-came-length.false in
    let short : l.came < c.args.length = omega arith in
    fetched_map 0 _ _ (IsKeeping first l.came buffer l.input.bytes) (IsKept c.args.length first (Ok Cut) l.input) l.invariant.fetched
    (λ bytes k. (let n = keeping_count first bytes buffer l.input.bytes l.came k (omega arith) (l.invariant.none short) in omega arith, sym c.has_ended.ensures ∙ c.if-has_ended.true))

pub returns-in-Err-clause-fetched : goal.returns-in-Err-clause-fetched
returns-in-Err-clause-fetched g c =
    let l = c.reading in
    let first = c.args.first.items in
    let buffer = l.body.items in
    let count = l.body.ok.0 in
    let came = l.invariant.came in
    let within = l.invariant.within in
    let some = c.if-came-length.false in
    let short : l.came < c.args.length = omega arith in
    fetched_map 0 _ _ (IsKeeping first l.came buffer l.input.bytes) (IsKept c.args.length first (Ok (Full l.came)) l.input) l.invariant.fetched
    (λ bytes k. (keeping_count first bytes buffer l.input.bytes l.came k (omega arith) (l.invariant.none short), (short, (l.invariant.none short, sym c.has_ended.ensures ∙ c.if-has_ended.false))))

pub returns-in-Err-fill_behind-clause-fetched : goal.returns-in-Err-fill_behind-clause-fetched
returns-in-Err-fill_behind-clause-fetched g c =
    let l = c.reading in
    let first = c.args.first.items in
    let buffer = l.body.items in
    let count = l.body.ok.0 in
    let came = l.invariant.came in
    let within = l.invariant.within in
    let some = c.if-came-length.false in
    let short : l.came < c.args.length = omega arith in
    let fault = c.in-Err-fill_behind.fault in
    let new = c.fill_behind.new.self in
    let more = c.in-Err-fill_behind.ensures.fetched in
    fetched_as _ _ _ _ (IsKept c.args.length first (Err fault) new)
    (fetched_on 0 _ _ _ _ (IsKeeping first l.came buffer l.input.bytes) (IsFilled (Err fault) l.input new) (IsKept c.args.length first (Err fault) new) l.invariant.fetched more refl
    (λ bytes k. keeping_short first bytes buffer l.input.bytes l.came k (omega arith) c.args.length fault l.input new more.got (l.invariant.none short) short (sym c.has_ended.ensures ∙ c.if-has_ended.false) more.holds)) (same_count fault)

pub reading-preserved : goal.reading-preserved
reading-preserved g c =
    let l = c.reading in
    let first = c.args.first.items in
    let wider = c.extend.new.body in
    let buffer = c.fill_behind.new.buffer in
    let n = c.in-Ok-fill_behind.n in
    let new = c.fill_behind.new.self in
    let given = c.deref_mut.ensures in
    let filled : List ℕ = take wider.len (buffer ++ drop (length buffer) wider.items) in
    let size : length buffer ≡ wider.len = c.fill_behind.ensures.put.len ∙ given.len in
    let whole : filled ≡ buffer = take_at buffer (drop (length buffer) wider.items) wider.len size in
    let bound = c.in-Ok-fill_behind.ensures.put.bound in
    let end = given.len in
    let front : take l.came filled ≡ take l.came l.body.items = ap (take l.came) whole ∙ (c.fill_behind.ensures.put.front ∙ (ap (take l.came) given.value ∙ c.in-Ok.ensures.ready.1)) in
    let more = c.in-Ok-fill_behind.ensures.fetched in
    let count = l.body.ok.0 in
    let came = l.invariant.came in
    record {
      fetched = fetched_on 0 0 _ _ _ (IsKeeping first l.came l.body.items l.input.bytes) (IsReadBehind (Ok n) buffer l.came l.input new) (IsKeeping first (l.came + n) filled new.bytes) l.invariant.fetched more refl
          (λ bytes k. keeping_more first bytes l.body.items l.input.bytes l.came k (omega arith) filled more.got new.bytes n front (more.holds.0 ∙ ap (λ xs. take n (drop l.came xs)) (sym whole)) more.holds.1);
      came = omega arith;
      within = c.in-Ok.ensures.within;
      none = λ h. more.holds.1;
      bounded = let less = c.in-Ok-fill_behind.ensures.spent.1 in let before = l.invariant.bounded in let empty = ap (λ (xs : List ℕ). length xs) more.holds.1 in omega arith;
    }

-- more of a body is missing, where so much of it came and nothing is held behind it
keeping_lacks : (len came : ℕ) (first bytes behind more : List ℕ) → length (first ++ bytes) ≡ came → came + length (behind ++ more) < len → behind ≡ [] → length (first ++ (bytes ++ more)) < len
keeping_lacks len came first bytes behind more count short none =
    omega (arith, length-append first bytes, length-append bytes more, length-append first (bytes ++ more), length-append behind more)

pub fill_behind-requires-clause-asked : goal.fill_behind-requires-clause-asked
fill_behind-requires-clause-asked g c =
    let l = c.reading in
    let first = c.args.first.items in
    let buffer = l.body.items in
    let len = c.args.length in
    let count = l.body.ok.0 in
    let came = l.invariant.came in
    let within = l.invariant.within in
    let some = c.if-came-length.false in
    let short : l.came < len = omega arith in
    let none = l.invariant.none short in
    let lacks = λ (bytes : List ℕ). l.came + length bytes < len in
    let at : Stream = record { source = g.R.Asked.state l.reader; held = l.input } in
    ask_here g.R.Asked.may_ask at _ lacks
    (ask_on g.R.Asked.may_ask _ at _ (λ bytes. LacksBytes len (first ++ bytes)) (IsKeeping first l.came buffer l.input.bytes) lacks l.invariant.fetched c.requires.asked
    (λ bytes more k less. keeping_lacks len l.came first bytes l.input.bytes more (keeping_count first bytes buffer l.input.bytes l.came k (omega arith) none) less none))
    (sym c.has_ended.ensures ∙ c.if-has_ended.false)
    (let empty = ap (λ (xs : List ℕ). length xs) none in omega arith)
