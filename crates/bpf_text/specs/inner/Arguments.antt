-- The operands of a line as a list.
use Rattle.std.specs.Prelude.{List, [], ◌∷◌}
use Rattle.bpf_text.specs.declared.argument.Argument.{Argument}
use Rattle.bpf_text.specs.declared.argument.Arguments.{Arguments}
use Rattle.bpf_text.specs.declared.argument.Arguments.TheVariants.{Empty, One, Two, Three}

abbrev pub list_of : Arguments → List Argument
list_of Empty = []
list_of (One a) = a ∷ []
list_of (Two a b) = a ∷ b ∷ []
list_of (Three a b c) = a ∷ b ∷ c ∷ []
