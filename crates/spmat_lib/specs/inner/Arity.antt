-- How many words a call of an operator takes.
use Rattle.std.specs.Prelude.{ℕ}
use Rattle.bpf_insn.specs.declared.operands.Kind.{Kind}
use Rattle.bpf_insn.specs.declared.operands.Kind.TheVariants.{Unary, Binary, Index}

abbrev pub arity : Kind → ℕ
arity Unary = 1
arity Binary = 2
arity Index = 4
