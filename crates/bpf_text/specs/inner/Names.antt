-- Definitions beside specs/Names.antt for this crate's own modules and proofs.
use Rattle.std.specs.Prelude.{ℕ, List, codes}
use Rattle.bpf_text.specs.declared.names.Stem.{Stem}
use Rattle.bpf_text.specs.declared.names.Stem.TheVariants as stems

-- the other letters of mnemonics
abbrev pub stem_name : Stem → List ℕ
stem_name stems.Neg = codes "neg"
stem_name stems.Movs = codes "movs"
stem_name stems.Ja = codes "ja"
stem_name stems.Exit = codes "exit"
stem_name stems.Ldx = codes "ldx"
stem_name stems.Ldsx = codes "ldsx"
stem_name stems.Stx = codes "stx"
stem_name stems.St = codes "st"
stem_name stems.Wide = codes "wide"
