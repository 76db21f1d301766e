use Rattle.std.proofs.Common.{◌≡◌, ◌≤◌, ◌-◌, length-append, List, ℕ, ◌++◌, take, drop, length, Result, refl, sym, ap, ◌∙◌, subst, append_assoc, arith}
use Rattle.std.proofs.lemmas.List.{take-append-drop, length-take-le}
use Rattle.wire.specs.Devices.{SourceState, SinkState}
use Rattle.wire.specs.InputState.{InputState, Stream}
use Rattle.wire.specs.Fetching.{Fetched, IsBody, MayAsk, LacksBytes}
use Rattle.wire.specs.inner.Keeping.{IsSkipped}
use Rattle.wire.specs.declared.fault.ReadFault.{ReadFault}
use Rattle.wire.specs.declared.fetch.Body.{Body}
use Rattle.wire.proofs.Asking.{ask_on}
use Rattle.wire.proofs.Fetching.{fetched_here, fetched_on}
use Rattle.wire.proofs.Gathering.{skipped_behind}
use Rattle.wire.proofs.fetch.read_body.Goals as goal

-- the first part of what is held was taken
first_taken : (source : SourceState) (now new : InputState) (part : ℕ) → new ≡ record now { bytes = drop part now.bytes }
    → Fetched 0 (record { source = source; held = now }) (record { source = source; held = new }) (λ bytes. bytes ≡ take part now.bytes ++ new.bytes)
first_taken source now new part n =
    fetched_here source now new (λ bytes. bytes ≡ take part now.bytes ++ new.bytes) (ap (λ (h : InputState). h.ended) n) (ap (λ (h : InputState). h.reads_left) n)
    (sym (take-append-drop part now.bytes) ∙ ap (λ xs. take part now.bytes ++ xs) (sym (ap (λ (h : InputState). h.bytes) n)))

module _ (source : SourceState) (now mid : InputState) (last : Stream) (len part n : ℕ) (result : Result Body ReadFault) (taken : mid ≡ record now { bytes = drop part now.bytes }) where
  -- the rest was kept behind it
  then_kept : (first : List ℕ) → first ≡ take part now.bytes → Fetched n (record { source = source; held = mid }) last (λ bytes. IsBody len result last.held (first ++ bytes))
      → Fetched n (record { source = source; held = now }) last (IsBody len result last.held)
  then_kept first e f =
      fetched_on 0 n _ _ last (λ bytes. bytes ≡ take part now.bytes ++ mid.bytes) (λ bytes. IsBody len result last.held (first ++ bytes)) (IsBody len result last.held) (first_taken source now mid part taken) f refl
      (λ bytes b. subst (IsBody len result last.held) (sym (append_assoc first mid.bytes f.got) ∙ ap (λ xs. xs ++ f.got) (ap (λ xs. xs ++ mid.bytes) e ∙ sym b)) f.holds)

  -- the rest was passed over
  then_skipped : part ≤ len → part ≤ length now.bytes → Fetched n (record { source = source; held = mid }) last (IsSkipped (len - part) result last.held)
      → Fetched n (record { source = source; held = now }) last (IsBody len result last.held)
  then_skipped m h f =
      let front = take part now.bytes in
      fetched_on 0 n _ _ last (λ bytes. bytes ≡ front ++ mid.bytes) (IsSkipped (len - part) result last.held) (IsBody len result last.held) (first_taken source now mid part taken) f refl
      (λ bytes b. subst (IsBody len result last.held) (sym (append_assoc front mid.bytes f.got) ∙ ap (λ xs. xs ++ f.got) (sym b))
      (skipped_behind len part front (mid.bytes ++ f.got) last.held result (length-take-le part now.bytes h) m f.holds))

pub returns-in-Ok-clause-fetched : goal.returns-in-Ok-clause-fetched
returns-in-Ok-clause-fetched g c =
    then_kept _ c.args.input.now c.take.new.self _ c.args.length c.min-part.result _ c.read_rest.result c.take.ensures c.in-Ok.first.items (c.in-Ok.ensures ∙ ap (take c.min-part.result) c.bytes-2.ensures) c.read_rest.ensures.fetched

pub returns-in-Err-clause-fetched : goal.returns-in-Err-clause-fetched
returns-in-Err-clause-fetched g c =
    let there = ap length c.bytes.ensures in
    then_skipped _ c.args.input.now c.take.new.self _ c.args.length c.min-part.result _ c.skip.result c.take.ensures (omega (arith, c.min-part.ensures)) (omega (arith, c.min-part.ensures, there)) c.skip.ensures.fetched

module _ (may : SourceState → SinkState → Type 0) (source : SourceState) (sink : SinkState) (now mid : InputState) (len part : ℕ) (taken : mid ≡ record now { bytes = drop part now.bytes })
    (asked : MayAsk may (record { source = source; held = now }) sink (LacksBytes len)) where
  -- more of the body is missing, behind its first part
  rest_asked : (first : List ℕ) → first ≡ take part now.bytes → MayAsk may (record { source = source; held = mid }) sink (λ bytes. LacksBytes len (first ++ bytes))
  rest_asked first e =
      ask_on may _ _ sink (LacksBytes len) (λ bytes. bytes ≡ take part now.bytes ++ mid.bytes) (λ bytes. LacksBytes len (first ++ bytes)) (first_taken source now mid part taken) asked
      (λ bytes more b short. omega (arith, ap length b, ap length e, length-append (take part now.bytes) mid.bytes, length-append mid.bytes more, length-append bytes more, length-append first (mid.bytes ++ more)))

  passed_asked : part ≤ length now.bytes → MayAsk may (record { source = source; held = mid }) sink (LacksBytes (len - part))
  passed_asked h =
      ask_on may _ _ sink (LacksBytes len) (λ bytes. bytes ≡ take part now.bytes ++ mid.bytes) (LacksBytes (len - part)) (first_taken source now mid part taken) asked
      (λ bytes more b short. omega (arith, ap length b, length-take-le part now.bytes h, length-append (take part now.bytes) mid.bytes, length-append mid.bytes more, length-append bytes more))

pub read_rest-requires-clause-asked : goal.read_rest-requires-clause-asked
read_rest-requires-clause-asked g c =
    rest_asked g.R.Asked.may_ask (g.R.Asked.state c.args.reader.now) _ c.args.input.now c.take.new.self c.args.length c.min-part.result c.take.ensures c.requires c.in-Ok.first.items (c.in-Ok.ensures ∙ ap (take c.min-part.result) c.bytes-2.ensures)

pub skip-requires : goal.skip-requires
skip-requires g c =
    let there = ap length c.bytes.ensures in
    passed_asked g.R.Asked.may_ask (g.R.Asked.state c.args.reader.now) _ c.args.input.now c.take.new.self c.args.length c.min-part.result c.take.ensures c.requires (omega (arith, c.min-part.ensures, there))
