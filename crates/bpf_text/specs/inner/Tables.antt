-- Tables of names, read backwards: what the parser of mnemonics needs of them. Its contract is that it reads `mnemonic_text`
-- backwards.
use Rattle.std.specs.Prelude.{ℕ, ◌==◌, if◌then◌else◌, List, [], ◌∷◌, length, codes, Option, Some, None}
use Rattle.std.specs.Prelude.{option_map}
use Rattle.std.specs.Char.{is_ascii_digit}
use Rattle.std.specs.List.{position_or_len}
use Rattle.std.specs.Str.{bytes_eq}
use Rattle.bpf_insn.specs.declared.insn.Width.{Width}
use Rattle.bpf_insn.specs.declared.insn.Width.TheVariants as widths
use Rattle.bpf_insn.specs.declared.insn.AluOp.{AluOp}
use Rattle.bpf_insn.specs.declared.insn.AluOp.TheVariants as ops
use Rattle.bpf_insn.specs.declared.insn.Cond.{Cond}
use Rattle.bpf_insn.specs.declared.insn.Cond.TheVariants as conds
use Rattle.bpf_insn.specs.declared.insn.Extension.{Extension}
use Rattle.bpf_insn.specs.declared.insn.Extension.TheVariants as extensions
use Rattle.bpf_insn.specs.declared.insn.ByteOrder.{ByteOrder}
use Rattle.bpf_insn.specs.declared.insn.ByteOrder.TheVariants as orders
use Rattle.bpf_insn.specs.declared.insn.EndSize.{EndSize}
use Rattle.bpf_insn.specs.declared.insn.EndSize.TheVariants as end_sizes
use Rattle.bpf_insn.specs.declared.insn.Size.{Size}
use Rattle.bpf_insn.specs.declared.insn.Size.TheVariants as sizes
use Rattle.bpf_insn.specs.declared.insn.SignedSize.{SignedSize}
use Rattle.bpf_insn.specs.declared.insn.SignedSize.TheVariants as signed_sizes
use Rattle.bpf_text.specs.declared.names.Stem.{Stem}
use Rattle.bpf_text.specs.declared.names.Stem.TheVariants as stems
use Rattle.bpf_text.specs.declared.mnemonic.Mnemonic.{Mnemonic}
use Rattle.bpf_text.specs.declared.mnemonic.Mnemonic.TheVariants.{Alu, Neg, Movsx, End, Ja, Ja32, Jump, Exit, Ldx, Ldsx, Stx, St}
use Rattle.bpf_text.specs.declared.mnemonic.Mnemonic.TheVariants.{Wide}
use Rattle.bpf_text.specs.Names.{
  width_name,
  operation_name,
  condition_name,
  extension_name,
  order_name,
  end_size_name,
  size_name,
  signed_size_name,
}
use Rattle.bpf_text.specs.inner.Names.{stem_name}
use Rattle.bpf_text.specs.Tables.{named}

abbrev pub all_widths : List Width
all_widths = widths.W32 ∷ widths.W64 ∷ []

abbrev pub all_operations : List AluOp
all_operations =
    ops.Add ∷ ops.Sub ∷ ops.Mul ∷ ops.Div ∷ ops.Sdiv ∷ ops.Or ∷ ops.And
    ∷ ops.Lsh ∷ ops.Rsh ∷ ops.Mod ∷ ops.Smod ∷ ops.Xor ∷ ops.Mov ∷ ops.Arsh ∷ []

abbrev pub all_conditions : List Cond
all_conditions =
    conds.Eq ∷ conds.Gt ∷ conds.Ge ∷ conds.Set ∷ conds.Ne ∷ conds.Sgt ∷ conds.Sge
    ∷ conds.Lt ∷ conds.Le ∷ conds.Slt ∷ conds.Sle ∷ []

abbrev pub all_extensions : List Extension
all_extensions =
    extensions.From8To32 ∷ extensions.From16To32 ∷ extensions.From8To64 ∷ extensions.From16To64
    ∷ extensions.From32To64 ∷ []

abbrev pub all_orders : List ByteOrder
all_orders = orders.Little ∷ orders.Big ∷ orders.Swap ∷ []

abbrev pub all_end_sizes : List EndSize
all_end_sizes = end_sizes.B16 ∷ end_sizes.B32 ∷ end_sizes.B64 ∷ []

abbrev pub all_sizes : List Size
all_sizes = sizes.B8 ∷ sizes.B16 ∷ sizes.B32 ∷ sizes.B64 ∷ []

abbrev pub all_signed_sizes : List SignedSize
all_signed_sizes = signed_sizes.B8 ∷ signed_sizes.B16 ∷ signed_sizes.B32 ∷ []

abbrev pub all_stems : List Stem
all_stems =
    stems.Neg ∷ stems.Movs ∷ stems.Ja ∷ stems.Exit ∷ stems.Ldx
    ∷ stems.Ldsx ∷ stems.Stx ∷ stems.St ∷ stems.Wide ∷ []

-- how many bytes there are before the first digit
abbrev pub count_of_letters : List ℕ → ℕ
count_of_letters word = position_or_len is_ascii_digit word

abbrev pub mnemonic_of_stem : Stem → List ℕ → Option Mnemonic
mnemonic_of_stem stems.Neg bits = option_map Neg (named width_name all_widths bits)
mnemonic_of_stem stems.Movs bits = option_map Movsx (named extension_name all_extensions bits)
mnemonic_of_stem stems.Ldx bits = option_map Ldx (named size_name all_sizes bits)
mnemonic_of_stem stems.Ldsx bits = option_map Ldsx (named signed_size_name all_signed_sizes bits)
mnemonic_of_stem stems.Stx bits = option_map Stx (named size_name all_sizes bits)
mnemonic_of_stem stems.St bits = option_map St (named size_name all_sizes bits)
mnemonic_of_stem stems.Ja bits = if bytes_eq bits (codes "32") then Some Ja32 else (if length bits == 0 then Some Ja else None)
mnemonic_of_stem stems.Exit bits = if length bits == 0 then Some Exit else None
mnemonic_of_stem stems.Wide bits = if length bits == 0 then Some Wide else None

abbrev pub mnemonic_of_stem_found : Option Stem → List ℕ → Option Mnemonic
mnemonic_of_stem_found None bits = None
mnemonic_of_stem_found (Some s) bits = mnemonic_of_stem s bits

abbrev pub mnemonic_of_order_found : Option ByteOrder → List ℕ → List ℕ → Option Mnemonic
mnemonic_of_order_found None letters bits = mnemonic_of_stem_found (named stem_name all_stems letters) bits
mnemonic_of_order_found (Some o) letters bits = option_map (λ z. End o z) (named end_size_name all_end_sizes bits)

abbrev pub mnemonic_of_condition_found : Option Cond → List ℕ → List ℕ → Option Mnemonic
mnemonic_of_condition_found None letters bits = mnemonic_of_order_found (named order_name all_orders letters) letters bits
mnemonic_of_condition_found (Some c) letters bits = option_map (λ w. Jump w c) (named width_name all_widths bits)

abbrev pub mnemonic_of_operation_found : Option AluOp → List ℕ → List ℕ → Option Mnemonic
mnemonic_of_operation_found None letters bits =
    mnemonic_of_condition_found (named condition_name all_conditions letters) letters bits
mnemonic_of_operation_found (Some o) letters bits = option_map (λ w. Alu w o) (named width_name all_widths bits)

-- the form whose mnemonic has these letters and these bit widths
abbrev pub mnemonic_of_parts : List ℕ → List ℕ → Option Mnemonic
mnemonic_of_parts letters bits = mnemonic_of_operation_found (named operation_name all_operations letters) letters bits
