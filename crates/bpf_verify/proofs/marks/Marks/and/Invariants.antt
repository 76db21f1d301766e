use Rattle.std.proofs.Common.{◌≡◌, ◌<◌, ◌≤◌, ℕ, get_or, length, bit_and}
use Rattle.bpf_verify.proofs.marks.Marks.and.Given as goal

abbrev pub invariant-loop-i : goal.invariant-loop-i
invariant-loop-i l = ((k : ℕ) → k < l.i → get_or l.words k 0 ≡ bit_and (get_or l.fn.self.words k 0) (get_or l.fn.other.words k 0)) × ((k : ℕ) → 8 ≤ k → get_or l.words k 0 ≡ 0) × (length l.words ≡ 8)
