-- GrB_apply, GrB_select, GrB_eWiseAdd (union), GrB_eWiseMult (both) and GrB_reduce of a matrix by rows, of the GraphBLAS C API
-- Specification 2.0 ("Operations"), with operators of the user's own: the entry at each position of the result, and the calls
-- that are made for it.
use Rattle.std.specs.Prelude.{ℕ, if◌then◌else◌, nat_eq, List, [], ◌∷◌, map, Option, None, Some}
use Rattle.std.specs.FinMap as fin
use Rattle.bpf_insn.specs.declared.operands.Operands.{Operands}
use Rattle.bpf_insn.specs.declared.operands.Operands.TheVariants.{Unary, Binary, Index}
use Rattle.bpf_insn.specs.declared.operands.Kind.{Kind}
use Rattle.bpf_insn.specs.declared.operands.Kind.TheVariants as kinds
use Rattle.bpf_verify.specs.Accepted.{Accepted}
use Rattle.csr_store.specs.Grid.{Grid, Position, Cell, row_of}
use Rattle.bpf_run.specs.Meaning.{value_of}
use Rattle.bpf_run.specs.Calls.{Call, call_of}
use Rattle.bpf_run.specs.Fold.{fold, fold_calls}

-- ---- apply: what the operator makes of each word

-- a unary operator is called on the word, an index operator also on its position and the thunk
abbrev pub operands_at : Option ℕ → Position → ℕ → Operands
operands_at None at x = Unary x
operands_at (Some thunk) at x = Index x at.0 at.1 thunk

-- how such an operator is called
abbrev pub apply_kind : Option ℕ → Kind
apply_kind None = kinds.Unary
apply_kind (Some thunk) = kinds.Index

abbrev pub applied : Accepted → Option ℕ → Position → Option ℕ → Option ℕ
applied f thunk at None = None
applied f thunk at (Some x) = Some (value_of f (operands_at thunk at x))

abbrev pub apply_calls : Accepted → Option ℕ → Position → Option ℕ → List Call
apply_calls f thunk at None = []
apply_calls f thunk at (Some x) = call_of f (operands_at thunk at x) ∷ []

abbrev pub apply_at : Accepted → Option ℕ → Grid → Position → Option ℕ
apply_at f thunk a at = applied f thunk at (fin.get a.cells at)

abbrev pub apply_calls_at : Accepted → Option ℕ → Grid → Position → List Call
apply_calls_at f thunk a at = apply_calls f thunk at (fin.get a.cells at)

-- ---- select: the words for which the operator's answer is not 0

abbrev pub selected : Accepted → ℕ → Position → Option ℕ → Option ℕ
selected f thunk at None = None
selected f thunk at (Some x) = if nat_eq (value_of f (Index x at.0 at.1 thunk)) 0 then None else Some x

abbrev pub select_at : Accepted → ℕ → Grid → Position → Option ℕ
select_at f thunk a at = selected f thunk at (fin.get a.cells at)

abbrev pub select_calls_at : Accepted → ℕ → Grid → Position → List Call
select_calls_at f thunk a at = apply_calls f (Some thunk) at (fin.get a.cells at)

-- ---- union and both: the operator where both have a word; where one has, union copies it

abbrev pub united : Accepted → Option ℕ → Option ℕ → Option ℕ
united f (Some x) (Some y) = Some (value_of f (Binary x y))
united f (Some x) None = Some x
united f None y = y

abbrev pub joint : Accepted → Option ℕ → Option ℕ → Option ℕ
joint f (Some x) (Some y) = Some (value_of f (Binary x y))
joint f (Some x) None = None
joint f None y = None

abbrev pub joint_calls : Accepted → Option ℕ → Option ℕ → List Call
joint_calls f (Some x) (Some y) = call_of f (Binary x y) ∷ []
joint_calls f (Some x) None = []
joint_calls f None y = []

abbrev pub union_at : Accepted → Grid → Grid → Position → Option ℕ
union_at f a b at = united f (fin.get a.cells at) (fin.get b.cells at)

abbrev pub both_at : Accepted → Grid → Grid → Position → Option ℕ
both_at f a b at = joint f (fin.get a.cells at) (fin.get b.cells at)

abbrev pub joint_calls_at : Accepted → Grid → Grid → Position → List Call
joint_calls_at f a b at = joint_calls f (fin.get a.cells at) (fin.get b.cells at)

-- ---- reduce: each row folded by ascending column, into the one column of the result

abbrev pub row_words : Grid → ℕ → List ℕ
row_words a i = map (λ (c : Cell). c.1) (row_of a i)

abbrev pub reduce_at : Accepted → Grid → Position → Option ℕ
reduce_at f a at = fold f (row_words a at.0)

abbrev pub reduce_calls_at : Accepted → Grid → Position → List Call
reduce_calls_at f a at = fold_calls f (row_words a at.0)
