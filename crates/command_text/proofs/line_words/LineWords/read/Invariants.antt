use Rattle.std.proofs.Common.{◌≡◌, ◌++◌, map, take, length}
use Rattle.text_words.specs.Words.{words}
use Rattle.command_text.specs.inner.Lent.{lent}
use Rattle.command_text.proofs.line_words.LineWords.read.Given as goal

-- the words of the text are those that were read, and then those of the rest
abbrev pub invariant-loop-count : goal.invariant-loop-count
invariant-loop-count l = record {
  capacity : length l.words ≡ 7;
  words : words l.text ≡ map lent (take l.count l.words) ++ words l.rest;
}
