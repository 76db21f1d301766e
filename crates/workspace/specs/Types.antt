-- The lines of `types`: what the verifier knows of the registers at each instruction of an operator (this project's own).
use Rattle.std.specs.Prelude.{ℕ, ℤ, pos, negsuc, zero, suc, ◌+◌, if◌then◌else◌, List, [], ◌++◌}
use Rattle.std.specs.Prelude.{Option, None, Some, codes, decimal}
use Rattle.std.specs.List.{flat_map}
use Rattle.bpf_insn.specs.Program.{slot_count}
use Rattle.bpf_insn.specs.Machine.{begins}
use Rattle.bpf_verify.specs.declared.tag.Tag.{Tag}
use Rattle.bpf_verify.specs.declared.tag.Tag.TheVariants.{Unset, Number, Place, Mixed}
use Rattle.bpf_verify.specs.Tags.{Types}
use Rattle.bpf_verify.specs.Accepted.{Accepted, typing}

-- a number with a `-` where it is below 0
abbrev pub signed : ℤ → List ℕ
signed (pos n) = decimal n
signed (negsuc n) = codes "-" ++ decimal (n + 1)

-- `u`, `n`, `m`, or `p` and the distance from the stack's top, behind a space
abbrev pub tag_text : Tag → List ℕ
tag_text Unset = codes " u"
tag_text Number = codes " n"
tag_text Mixed = codes " m"
tag_text (Place distance) = codes " p" ++ signed distance

-- the tags of R0 to R10, or `-` where no path leads
abbrev pub known_text : Option Types → List ℕ
known_text None = codes " -"
known_text (Some k) = flat_map tag_text k.tags

-- the line of the instruction at a slot, if one begins there
abbrev pub slot_text : Accepted → ℕ → List ℕ
slot_text operator slot =
    if begins operator.insns slot then decimal slot ++ (known_text (typing operator slot) ++ codes "\n") else []

-- the lines of the instructions below a slot
abbrev pub lines_below : Accepted → ℕ → List ℕ
lines_below operator zero = []
lines_below operator (suc slot) = lines_below operator slot ++ slot_text operator slot

abbrev pub types_text : Accepted → List ℕ
types_text operator = lines_below operator (slot_count operator.insns)
