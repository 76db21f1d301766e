-- The code of the slots so far.
use Rattle.std.proofs.Common.{◌≡◌, ◌<◌, ◌≤◌, ◌+◌, ℕ, List, [], ◌∷◌, ◌++◌, length, take, get_or}
use Rattle.std.proofs.Common.{◌∙◌, ap}
use Rattle.std.proofs.lemmas.List.{take_all, take_more}
use Rattle.std.specs.Prelude.{Option, None}
use Rattle.bpf_insn.specs.declared.insn.Insn.{Insn}
use Rattle.bpf_insn.specs.Program.{insns_of}
use Rattle.bpf_insn.specs.inner.Program.{layout}
use Rattle.bpf_insn.specs.Code.{code_of}
use Rattle.bpf_insn.proofs.Layouts.{insns_of-append, code_of-append, insns_of-layout}

-- the code of the first so many slots
abbrev pub code_before : List (Option Insn) → ℕ → List ℕ
code_before cells n = code_of (insns_of (take n cells))

pub code_before-more : (cells : List (Option Insn)) (n : ℕ) → n < length cells
    → code_before cells (n + 1) ≡ code_before cells n ++ code_of (insns_of (get_or cells n None ∷ []))
code_before-more cells n h =
    ap (λ cs. code_of (insns_of cs)) (take_more cells n None h)
    ∙ ap code_of (insns_of-append (take n cells) (get_or cells n None ∷ []))
    ∙ code_of-append (insns_of (take n cells)) (insns_of (get_or cells n None ∷ []))

pub code_before-end : (is : List Insn) (n : ℕ) → length (layout is) ≤ n → code_before (layout is) n ≡ code_of is
code_before-end is n h = ap (λ cs. code_of (insns_of cs)) (take_all n (layout is) h) ∙ ap code_of (insns_of-layout is)
