-- A fold of words by a binary operator, as GrB_reduce of the GraphBLAS C API Specification 2.0 makes, in a fixed order: it starts
-- with the first term, and goes on in the order of the list. That no identity and no associativity is asked is this project's own.
use Rattle.std.specs.Prelude.{ℕ, List, [], ◌∷◌, map, Option, None, Some}
use Rattle.bpf_insn.specs.declared.operands.Operands.TheVariants.{Binary}
use Rattle.bpf_verify.specs.Accepted.{Accepted}
use Rattle.bpf_run.specs.Meaning.{value_of}
use Rattle.bpf_run.specs.Calls.{Call, call_of}

-- what is so far, and further terms
abbrev pub fold_from : Accepted → ℕ → List ℕ → ℕ
fold_from f so_far [] = so_far
fold_from f so_far (t ∷ ts) = fold_from f (value_of f (Binary so_far t)) ts

abbrev pub fold : Accepted → List ℕ → Option ℕ
fold f [] = None
fold f (t ∷ ts) = Some (fold_from f t ts)

-- the calls that the fold makes, in order
abbrev pub fold_calls_from : Accepted → ℕ → List ℕ → List Call
fold_calls_from f so_far [] = []
fold_calls_from f so_far (t ∷ ts) = call_of f (Binary so_far t) ∷ fold_calls_from f (value_of f (Binary so_far t)) ts

abbrev pub fold_calls : Accepted → List ℕ → List Call
fold_calls f [] = []
fold_calls f (t ∷ ts) = fold_calls_from f t ts

-- the words of cells, each a column with a word
abbrev pub terms_of : List (ℕ × ℕ) → List ℕ
terms_of cells = map (λ (c : ℕ × ℕ). c.1) cells
