-- The words of a command: names, lengths and kinds, after this project's session protocol.
use Rattle.std.specs.Prelude.{ℕ, ◌^◌, ◌==◌, ◌||◌, ◌&&◌, nat_le, Bool, if◌then◌else◌, List, length, Option}
use Rattle.std.specs.Prelude.{Some, None, codes}
use Rattle.std.specs.Char.{is_ascii_alphanumeric}
use Rattle.std.specs.List.{list_all}
use Rattle.std.specs.Str.{bytes_eq}
use Rattle.bpf_insn.specs.declared.operands.Kind.{Kind}
use Rattle.bpf_insn.specs.declared.operands.Kind.TheVariants.{Unary, Binary, Index}
use Rattle.text_words.specs.Numbers.{below, decimal_in}

-- a letter or digit of ASCII, or an underscore
abbrev pub is_name_byte : ℕ → Bool
is_name_byte b = is_ascii_alphanumeric b || (b == 95)

-- 1 to 32 letters, digits and underscores
abbrev pub is_name : List ℕ → Bool
is_name word = nat_le 1 (length word) && (nat_le (length word) 32 && list_all is_name_byte word)

-- LEN: one or more decimal digits and nothing else, for a number below 2^64
abbrev pub length_of : List ℕ → Option ℕ
length_of word = below (2 ^ 64) (decimal_in word)

-- KIND: the kind of an operator
abbrev pub kind_of_word : List ℕ → Option Kind
kind_of_word word =
    if bytes_eq word (codes "unary") then Some Unary else
    (if bytes_eq word (codes "binary") then Some Binary else
    (if bytes_eq word (codes "index") then Some Index else None))
