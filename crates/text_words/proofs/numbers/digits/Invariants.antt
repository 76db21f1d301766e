use Rattle.std.proofs.Common.{◌≡◌, ◌<◌, ◌^◌, drop}
use Rattle.text_words.specs.Numbers.{digits_after}
use Rattle.text_words.proofs.numbers.digits.Given as goal

abbrev pub invariant-loop-i : goal.invariant-loop-i
invariant-loop-i l = record {
  read : digits_after 0 l.word ≡ digits_after l.number (drop l.i l.word);
  small : l.number < 2 ^ 64;
}
