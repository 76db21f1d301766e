use Rattle.std.proofs.Common.{◌≡◌, ℕ, ◌<◌, get_or, length}
use Rattle.bpf_verify.specs.declared.tag.Tag.TheVariants.{Unset}
use Rattle.bpf_verify.specs.inner.Pass.{joined}
use Rattle.bpf_verify.proofs.facts.joined.Given as goal

abbrev pub invariant-loop-i : goal.invariant-loop-i
invariant-loop-i l = ((k : ℕ) → k < l.i → get_or l.tags k Unset ≡ joined (get_or l.left k Unset) (get_or l.right k Unset)) × (length l.tags ≡ 11)
