-- Bytes are cut into instructions, one after the other.
use Rattle.std.proofs.Common.{subst, vec_len, vec_capacity, ◌≡◌, ◌≤◌, ◌+◌, ◌*◌, false, ℕ, arith, List, []}
use Rattle.std.proofs.Common.{◌∷◌, ◌++◌, drop, length, sym, ◌∙◌, ap, refl, append_assoc}
use Rattle.std.proofs.lemmas.List.{append-nil}
use Rattle.std.specs.Prelude.{Option, Some, None, is_some, IfSome}
use Rattle.std.specs.Global.{Vec}
use Rattle.std.specs.List.{AllByRecursion}
use Rattle.bpf_insn.specs.declared.insn.Insn.{Insn}
use Rattle.bpf_insn.specs.declared.rule.CodeRule.{CodeRule}
use Rattle.bpf_insn.specs.Spelling.{spelling, Fits}
use Rattle.bpf_insn.specs.Broken.{IsBrokenAtFront}
use Rattle.bpf_insn.specs.inner.Code.{BeginsWith}
use Rattle.bpf_insn.specs.Program.{slots_of, slot_count, insns_of, IsProgram}
use Rattle.bpf_insn.specs.inner.Program.{cells_of, layout, IsLaid}
use Rattle.bpf_insn.specs.Code.{code_of, IsBroken, Spells, has_bad_length}
use Rattle.bpf_insn.proofs.Laying.{layout-laid}
use Rattle.bpf_insn.proofs.Layouts.{code_of-one, layout-one, insns_of-layout, all-append, length-code_of, length-layout}

-- the bytes are the code of these instructions and then the rest
pub record IsCut (bytes : List ℕ) (before : List Insn) (rest : List ℕ) : Type 0 where
  pub fits : AllByRecursion Fits before
  pub same : bytes ≡ code_of before ++ rest

pub IsCut-begin : (bytes : List ℕ) → IsCut bytes [] bytes
IsCut-begin bytes = record { fits = tt; same = refl }

pub IsCut-more : (bytes : List ℕ) (before : List Insn) (rest : List ℕ) (i : Insn) → IsCut bytes before rest
    → BeginsWith rest i → IsCut bytes (before ++ i ∷ []) (drop (8 * slots_of i) rest)
IsCut-more bytes before rest i c b =
    let after = drop (8 * slots_of i) rest in
    record {
      fits = all-append before (i ∷ []) c.fits (b.fits, tt);
      same = rw (code_of-one before i) (c.same ∙ ap (λ x. code_of before ++ x) b.spelled ∙ sym (append_assoc (code_of before) (spelling i) after));
    }

pub IsCut-broken : (bytes : List ℕ) (before : List Insn) (rest : List ℕ) (slot : ℕ) (rule : CodeRule)
    → IsCut bytes before rest → slot_count before ≡ slot → IsBrokenAtFront rest rule → IsBroken bytes slot rule
IsCut-broken bytes before rest slot rule c e f =
    record { before = before; rest = rest; fits = c.fits; cut = c.same; at = e; fault = f }

pub few_bytes : (n : ℕ) → has_bad_length n ≡ false → n ≤ 32768
few_bytes n h = grind arith

right_length : (n : ℕ) → has_bad_length (8 * n) ≡ false → (1 ≤ n) × (n ≤ 4096)
right_length n h = grind arith

-- nothing is left
pub IsCut-end : (bytes : List ℕ) (is : List Insn) (rest : List ℕ) → IsCut bytes is rest → length rest ≡ 0
    → has_bad_length (length bytes) ≡ false → Spells bytes is
IsCut-end bytes is [] c e h =
    let same : bytes ≡ code_of is = c.same ∙ append-nil (code_of is) in
    let n : length bytes ≡ 8 * slot_count is = ap length same ∙ length-code_of is in
    let k = right_length (slot_count is) (rw (← n) h) in
    record { program = record { fits = c.fits; some = k.0; few = k.1 }; same = same }
IsCut-end bytes is (x ∷ rest) c e h = absurd (omega arith)

-- ---- the cells, where there is room for them

-- the cells are those of the instructions so far, in room for all of the code
abbrev pub AreKept : Option (Vec (Option Insn)) → List Insn → ℕ → Type 0
AreKept cells before bytes = IfSome cells (λ c. (c.items ≡ layout before) × (bytes ≤ 8 * vec_capacity c))

pub kept-begin : (cells : Option (Vec (Option Insn))) (bytes : ℕ)
    → IfSome cells (λ c. (c.items ≡ []) × (bytes ≤ 8 * vec_capacity c)) → AreKept cells [] bytes
kept-begin None bytes h = h
kept-begin (Some c) bytes h = h

-- there is room for one instruction more
pub kept-room : (cells : Option (Vec (Option Insn))) (before : List Insn) (i : Insn) (bytes : ℕ) → AreKept cells before bytes
    → 8 * (slot_count before + slots_of i) ≤ bytes → IfSome cells (λ c. vec_len c + slots_of i ≤ vec_capacity c)
kept-room None before i bytes k h = k
kept-room (Some c) before i bytes k h =
    let n : length c.items ≡ slot_count before = ap length k.0 ∙ length-layout before in omega (arith, n, k.1)

pub kept-more : (cells more : Option (Vec (Option Insn))) (before : List Insn) (i : Insn) (bytes : ℕ) → is_some more ≡ is_some cells → IfSome more (λ now. IfSome cells (λ was. (now.items ≡ was.items ++ cells_of i) × (vec_capacity was ≤ vec_capacity now))) → AreKept cells before bytes → AreKept more (before ++ i ∷ []) bytes
kept-more None None before i bytes s m k = k
kept-more None (Some now) before i bytes s m k = absurd (cc)
kept-more (Some was) None before i bytes s m k = absurd (cc)
kept-more (Some was) (Some now) before i bytes s m k =
    (m.0 ∙ ap (λ x. x ++ cells_of i) k.0 ∙ sym (layout-one before i), omega (arith, m.1, k.1))

-- in the end they are laid out as the program
kept-same : (reserved : Option (Vec (Option Insn))) (cells : Vec (Option Insn)) (is : List Insn) (bytes : ℕ) → AreKept reserved is bytes
    → reserved ≡ Some cells → cells.items ≡ layout is
kept-same reserved cells is bytes k e = (subst (λ r. AreKept r is bytes) e k).0

pub kept-back : (reserved : Option (Vec (Option Insn))) (cells : Vec (Option Insn)) (is : List Insn) (bytes : ℕ)
    → AreKept reserved is bytes → reserved ≡ Some cells → insns_of cells.items ≡ is
kept-back reserved cells is bytes k e = ap insns_of (kept-same reserved cells is bytes k e) ∙ insns_of-layout is

pub kept-laid : (reserved : Option (Vec (Option Insn))) (cells : Vec (Option Insn)) (is : List Insn) (bytes : ℕ)
    → AreKept reserved is bytes → reserved ≡ Some cells → IsProgram is → IsLaid cells.items
kept-laid reserved cells is bytes k e p = subst IsLaid (sym (kept-same reserved cells is bytes k e)) (layout-laid is p)
