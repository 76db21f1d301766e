use Rattle.std.proofs.Common.{◌≡◌, ◌≤◌, ◌-◌, ℕ, List, length, take, drop, ap, ◌∙◌, arith, length-take}
use Rattle.wire.specs.InputState.{InputState}
use Rattle.wire.proofs.Known.{drop_window}
use Rattle.wire.proofs.input.Input.take.Goals as goal

pub returns : goal.returns
returns c =
    let s = c.self.inside in
    let long : length (take (s.to - s.from) (drop s.from s.buffer.items)) ≡ length c.args.self.now.bytes = ap (λ (h : InputState). length h.bytes) c.self.view_is in
    let fits : c.args.count ≤ s.to - s.from = omega (arith, c.requires, length-take (s.to - s.from) (drop s.from s.buffer.items)) in
    ap (λ (bs : List ℕ). let h : InputState = record { bytes = bs; ended = s.ended; reads_left = s.reads_left } in h) (drop_window s.buffer.items s.from s.to c.args.count fits)
    ∙ ap (λ (h : InputState). let k : InputState = record { bytes = drop c.args.count h.bytes; ended = h.ended; reads_left = h.reads_left } in k) c.self.view_is
