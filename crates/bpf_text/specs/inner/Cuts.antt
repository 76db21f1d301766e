-- What the functions that cut lines find.
use Rattle.std.specs.Prelude.{ℕ, Bool}
use Rattle.text_words.specs.Words.{is_blank}
use Rattle.bpf_text.specs.Lines.{is_comment_mark, is_comma}
use Rattle.bpf_text.specs.declared.line.Separator.{Separator}
use Rattle.bpf_text.specs.declared.line.Separator.TheVariants.{CommentMark, Blank, Comma}

-- the bytes at which a text is cut
abbrev pub separates : Separator → ℕ → Bool
separates CommentMark = is_comment_mark
separates Blank = is_blank
separates Comma = is_comma
