-- Mnemonics are read in one way.
use Rattle.std.proofs.Common.{◌≡◌, ◌≢◌, List, [], ◌∷◌, ◌++◌, ℕ, Option, Some, None, true, false, cond, eqb, length, take, drop, refl, sym, ap, ◌∙◌}
use Rattle.std.specs.Option.{option_map, MatchOption}
use Rattle.std.specs.Prelude.{codes}
use Rattle.std.specs.Str.{bytes_eq}
use Rattle.std.proofs.lemmas.List.{append-nil, take-append-drop}
use Rattle.std.proofs.Math.Dec.{eqb-suc-zero}
use Rattle.std.proofs.lemmas.Option.{none-some, same_Some}
use Rattle.std.proofs.lemmas.Slice.Eq.{bytes_eq-Decides}
use Rattle.bpf_insn.specs.declared.insn.Width.TheVariants as widths
use Rattle.bpf_insn.specs.declared.insn.AluOp.{AluOp}
use Rattle.bpf_insn.specs.declared.insn.AluOp.TheVariants as ops
use Rattle.bpf_insn.specs.declared.insn.Cond.{Cond}
use Rattle.bpf_insn.specs.declared.insn.Cond.TheVariants as conds
use Rattle.bpf_insn.specs.declared.insn.Extension.TheVariants as extensions
use Rattle.bpf_insn.specs.declared.insn.ByteOrder.{ByteOrder}
use Rattle.bpf_insn.specs.declared.insn.ByteOrder.TheVariants as orders
use Rattle.bpf_insn.specs.declared.insn.EndSize.TheVariants as end_sizes
use Rattle.bpf_insn.specs.declared.insn.Size.TheVariants as sizes
use Rattle.bpf_insn.specs.declared.insn.SignedSize.TheVariants as signed_sizes
use Rattle.bpf_text.specs.declared.names.Stem.{Stem}
use Rattle.bpf_text.specs.declared.names.Stem.TheVariants as stems
use Rattle.bpf_text.specs.declared.mnemonic.Mnemonic.{Mnemonic}
use Rattle.bpf_text.specs.declared.mnemonic.Mnemonic.TheVariants.{Alu, Neg, Movsx, End, Ja, Ja32, Jump, Exit, Ldx, Ldsx, Stx, St, Wide}
use Rattle.bpf_text.specs.Names.{
  width_name,
  operation_name,
  condition_name,
  extension_name,
  order_name,
  end_size_name,
  size_name,
  signed_size_name,
}
use Rattle.bpf_text.specs.inner.Names.{stem_name}
use Rattle.bpf_text.specs.Mnemonics.{mnemonic_text}
use Rattle.bpf_text.specs.Tables.{named}
use Rattle.bpf_text.specs.inner.Tables.{
  all_widths,
  all_operations,
  all_conditions,
  all_extensions,
  all_orders,
  all_end_sizes,
  all_sizes,
  all_signed_sizes,
  all_stems,
  count_of_letters,
  mnemonic_of_stem,
  mnemonic_of_stem_found,
  mnemonic_of_order_found,
  mnemonic_of_condition_found,
  mnemonic_of_operation_found,
  mnemonic_of_parts,
}
use Rattle.bpf_text.proofs.Tables.{option_map-some, named_has_name}

-- What is found has the mnemonic.

with_bits : {X : Type 0} (name : X → List ℕ) (all : List X) (g : X → Mnemonic) (letters bits : List ℕ) (f : Mnemonic)
    → ((x : X) → mnemonic_text (g x) ≡ letters ++ name x) → option_map g (named name all bits) ≡ Some f → mnemonic_text f ≡ letters ++ bits
with_bits name all g letters bits f m e =
    let r = option_map-some g (named name all bits) f e in
    ap mnemonic_text (sym r.2) ∙ (m r.0 ∙ ap (λ t. letters ++ t) (named_has_name name all bits r.0 r.1))

-- with no numbers of bits
with_none : (g f : Mnemonic) (letters bits : List ℕ) → mnemonic_text g ≡ letters → cond (eqb (length bits) 0) (Some g) None ≡ Some f → mnemonic_text f ≡ letters ++ bits
with_none g f letters [] m e = ap mnemonic_text (sym (same_Some g f e)) ∙ (m ∙ sym (append-nil letters))
with_none g f letters (b ∷ bs) m e = absurd (none-some f (rw (eqb-suc-zero (length bs)) at e))

of_stem : (s : Stem) (bits : List ℕ) (f : Mnemonic) → mnemonic_of_stem s bits ≡ Some f → mnemonic_text f ≡ stem_name s ++ bits
of_stem stems.Neg bits f e = with_bits width_name all_widths Neg (codes "neg") bits f (λ x. refl) e
of_stem stems.Movs bits f e = with_bits extension_name all_extensions Movsx (codes "movs") bits f (λ x. refl) e
of_stem stems.Ldx bits f e = with_bits size_name all_sizes Ldx (codes "ldx") bits f (λ x. refl) e
of_stem stems.Ldsx bits f e = with_bits signed_size_name all_signed_sizes Ldsx (codes "ldsx") bits f (λ x. refl) e
of_stem stems.Stx bits f e = with_bits size_name all_sizes Stx (codes "stx") bits f (λ x. refl) e
of_stem stems.St bits f e = with_bits size_name all_sizes St (codes "st") bits f (λ x. refl) e
of_stem stems.Ja bits f e =
    elim (bytes_eq bits (codes "32")) as (λ t. bytes_eq bits (codes "32") ≡ t → cond t (Some Ja32) (cond (eqb (length bits) 0) (Some Ja) None) ≡ Some f → mnemonic_text f ≡ codes "ja" ++ bits) [
      | true ↦ λ t g. ap mnemonic_text (sym (same_Some Ja32 f g)) ∙ ap (λ x. codes "ja" ++ x) (sym ((bytes_eq-Decides bits (codes "32")).0 t))
      | false ↦ λ t g. with_none Ja f (codes "ja") bits refl g
    ] refl e
of_stem stems.Exit bits f e = with_none Exit f (codes "exit") bits refl e
of_stem stems.Wide bits f e = with_none Wide f (codes "wide") bits refl e

of_stem_found : (o : Option Stem) (letters bits : List ℕ) (f : Mnemonic) → ((s : Stem) → o ≡ Some s → stem_name s ≡ letters) → mnemonic_of_stem_found o bits ≡ Some f → mnemonic_text f ≡ letters ++ bits
of_stem_found None letters bits f h e = absurd (none-some f e)
of_stem_found (Some s) letters bits f h e = of_stem s bits f e ∙ ap (λ t. t ++ bits) (h s refl)

of_order_found : (o : Option ByteOrder) (letters bits : List ℕ) (f : Mnemonic) → ((s : ByteOrder) → o ≡ Some s → order_name s ≡ letters) → mnemonic_of_order_found o letters bits ≡ Some f → mnemonic_text f ≡ letters ++ bits
of_order_found None letters bits f h e = of_stem_found (named stem_name all_stems letters) letters bits f (named_has_name stem_name all_stems letters) e
of_order_found (Some s) letters bits f h e = with_bits end_size_name all_end_sizes (λ z. End s z) letters bits f (λ z. ap (λ t. t ++ end_size_name z) (h s refl)) e

of_condition_found : (o : Option Cond) (letters bits : List ℕ) (f : Mnemonic) → ((s : Cond) → o ≡ Some s → condition_name s ≡ letters) → mnemonic_of_condition_found o letters bits ≡ Some f → mnemonic_text f ≡ letters ++ bits
of_condition_found None letters bits f h e = of_order_found (named order_name all_orders letters) letters bits f (named_has_name order_name all_orders letters) e
of_condition_found (Some s) letters bits f h e = with_bits width_name all_widths (λ w. Jump w s) letters bits f (λ w. ap (λ t. t ++ width_name w) (h s refl)) e

of_operation_found : (o : Option AluOp) (letters bits : List ℕ) (f : Mnemonic) → ((s : AluOp) → o ≡ Some s → operation_name s ≡ letters) → mnemonic_of_operation_found o letters bits ≡ Some f → mnemonic_text f ≡ letters ++ bits
of_operation_found None letters bits f h e = of_condition_found (named condition_name all_conditions letters) letters bits f (named_has_name condition_name all_conditions letters) e
of_operation_found (Some s) letters bits f h e = with_bits width_name all_widths (λ w. Alu w s) letters bits f (λ w. ap (λ t. t ++ width_name w) (h s refl)) e

of_parts : (letters bits : List ℕ) (f : Mnemonic) → mnemonic_of_parts letters bits ≡ Some f → mnemonic_text f ≡ letters ++ bits
of_parts letters bits f e = of_operation_found (named operation_name all_operations letters) letters bits f (named_has_name operation_name all_operations letters) e

-- Each mnemonic is found: the whole table is computed.

abbrev mnemonic_read_in : List ℕ → Option Mnemonic
mnemonic_read_in word = mnemonic_of_parts (take (count_of_letters word) word) (drop (count_of_letters word) word)

pub found : (f : Mnemonic) → mnemonic_read_in (mnemonic_text f) ≡ Some f
found (Alu widths.W32 ops.Add) = refl
found (Alu widths.W32 _) = refl
found (Alu _ ops.Add) = refl
found (Alu _ _) = refl
found (Neg widths.W32) = refl
found (Neg _) = refl
found (Movsx extensions.From8To32) = refl
found (Movsx _) = refl
found (End orders.Little end_sizes.B16) = refl
found (End orders.Little _) = refl
found (End orders.Big end_sizes.B16) = refl
found (End orders.Big _) = refl
found (End _ end_sizes.B16) = refl
found (End _ _) = refl
found (Jump widths.W32 conds.Eq) = refl
found (Jump widths.W32 _) = refl
found (Jump _ conds.Eq) = refl
found (Jump _ _) = refl
found (Ldx sizes.B8) = refl
found (Ldx _) = refl
found (Ldsx signed_sizes.B8) = refl
found (Ldsx _) = refl
found (Stx sizes.B8) = refl
found (Stx _) = refl
found (St sizes.B8) = refl
found (St _) = refl
found Ja = refl
found Ja32 = refl
found Exit = refl
found Wide = refl

pub mnemonic_text-injective : (f g : Mnemonic) → mnemonic_text f ≡ mnemonic_text g → f ≡ g
mnemonic_text-injective f g e = same_Some f g (sym (found f) ∙ (ap mnemonic_read_in e ∙ found g))

pub parsed : (word : List ℕ) (o : Option Mnemonic) → o ≡ mnemonic_read_in word → MatchOption o ((f : Mnemonic) → mnemonic_text f ≢ word) (λ f. mnemonic_text f ≡ word)
parsed word None e = λ f m. none-some f (e ∙ (ap mnemonic_read_in (sym m) ∙ found f))
parsed word (Some f) e = of_parts (take (count_of_letters word) word) (drop (count_of_letters word) word) f (sym e) ∙ take-append-drop (count_of_letters word) word
