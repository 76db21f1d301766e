use Rattle.std.proofs.Common.{◌≡◌, ◌<◌, ℕ, get_or, false}
use Rattle.bpf_text.specs.inner.Cuts.{separates}
use Rattle.bpf_text.proofs.line.cut.Given as goal

abbrev pub invariant-loop-i : goal.invariant-loop-i
invariant-loop-i l = (k : ℕ) → k < l.i → separates l.at (get_or l.text k 0) ≡ false
