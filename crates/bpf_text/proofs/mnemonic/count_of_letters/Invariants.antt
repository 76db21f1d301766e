use Rattle.std.proofs.Common.{◌≡◌, ◌<◌, ℕ, get_or, false}
use Rattle.std.specs.Char.{is_ascii_digit}
use Rattle.bpf_text.proofs.mnemonic.count_of_letters.Given as goal

abbrev pub invariant-loop-i : goal.invariant-loop-i
invariant-loop-i l = (k : ℕ) → k < l.i → is_ascii_digit (get_or l.word k 0) ≡ false
