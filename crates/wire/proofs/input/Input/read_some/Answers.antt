use Rattle.std.proofs.Common.{◌≡◌, ◌-◌, ◌+◌, ◌++◌, ◌≤◌, length, take, drop, sym, ap, ◌∙◌, arith, vec_len}
use Rattle.wire.specs.InputState.{InputState}
use Rattle.wire.proofs.Known.{filled, still_open, not_end, not_empty}
use Rattle.wire.proofs.input.Input.read_some.Goals as goal

pub returns-else-n-eq0-clause-got : goal.returns-else-n-eq0-clause-got
returns-else-n-eq0-clause-got g c =
    let s = c.self.inside in
    let buffer = c.read_behind.new.buffer in
    let w = s.to - s.from in
    let n = c.in_ok-n.n in
    let d = c.deref_mut.ensures in
    let len : length buffer ≡ c.rotate_left.new.self.len = c.read_behind.ensures.put.len ∙ d.len in
    let whole : vec_len s.buffer ≡ length s.buffer.items = s.buffer.ok.0 in
    let inv = c.self.invariant in
    let front : take w buffer ≡ take w (drop s.from s.buffer.items ++ take s.from s.buffer.items) = c.read_behind.ensures.put.front ∙ ap (λ xs. take w xs) (d.value ∙ c.rotate_left.ensures.items) in
    let inside : w + n ≤ length buffer = let m = c.in_ok-n.ensures.put.bound in omega arith in (
      take n (drop w buffer),
      c.in_ok-n.ensures.bytes.0,
      filled s.buffer.items buffer c.rotate_left.new.self.items s.from s.to n c.rotate_left.new.self.len (omega arith) (omega arith) len (omega arith) front
          ∙ ap (λ (h : InputState). h.bytes ++ take n (drop w buffer)) c.self.view_is,
      ap (λ (h : InputState). h.ended) c.self.view_is ∙ sym (still_open c.args.self.now.ended (take n (drop w buffer)) (not_end buffer w n inside c.if-n-eq0.false)),
      λ e. absurd (not_empty (take n (drop w buffer)) (not_end buffer w n inside c.if-n-eq0.false) e),
    )
