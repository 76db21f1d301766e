use Rattle.std.proofs.Common.{◌≡◌, ◌+◌, true, map, take}
use Rattle.csr_store.proofs.ends.are_ahead.Given as goal

abbrev pub invariant-loop-end : goal.invariant-loop-end
invariant-loop-end l = (l.next ≡ l.end-index) × (l.same ≡ true → take l.next l.starts ≡ map (λ e. l.base + e) (take l.next l.ends))
