-- A listing, as lines are read.
use Rattle.std.proofs.Common.{◌≡◌, ◌≤◌, ◌+◌, List, [], ◌∷◌, ◌++◌, refl, arith}
use Rattle.bpf_insn.specs.declared.insn.Insn.{Insn}
use Rattle.bpf_insn.specs.declared.insn.Insn.TheVariants as insns
use Rattle.bpf_insn.specs.Program.{slots_of, slot_count}

pub slot_count-append : (xs ys : List Insn) → slot_count (xs ++ ys) ≡ slot_count xs + slot_count ys
slot_count-append [] ys = omega arith
slot_count-append (x ∷ xs) ys = let rest = slot_count-append xs ys in omega arith

pub slot_count-push : (xs : List Insn) (i : Insn) → slot_count (xs ++ i ∷ []) ≡ slot_count xs + slots_of i
slot_count-push xs i = let all = slot_count-append xs (i ∷ []) in omega arith

-- an instruction has a slot
pub some_slot : (i : Insn) → 1 ≤ slots_of i
some_slot (insns.Wide d v) = omega arith
some_slot _ = omega arith

pub no_slots : (is : List Insn) → slot_count is ≡ 0 → is ≡ []
no_slots [] e = refl
no_slots (i ∷ is) e = absurd (let some = some_slot i in omega arith)
