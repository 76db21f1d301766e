use Rattle.std.proofs.Common.{None, Some, ◌<◌, ◌%◌, ◌/◌, ◌^◌, nat_eq, length, get_or, if◌then◌else◌, sym, ap, ◌∙◌, arith}
use Rattle.std.proofs.lemmas.Grind.{get_or_default_zero}
use Rattle.std.specs.Int.RustNames.{bit_and}
use Rattle.csr_store.proofs.ByBits.{length_slots, slot_is, slot_full, bit_read}
use Rattle.csr_store.proofs.column.Column.word.Goals as goal

pub index-word-requires : goal.index-word-requires
index-word-requires c =
    let s = c.self.inside in
    let v = ap length c.self.view_is in
    let l = length_slots s.words.items s.bits.items in
    let o = s.words.ok.0 in
    let r = c.requires in
    omega (arith, v, l, o, r)

pub returns-then-self : goal.returns-then-self
returns-then-self c =
    let s = c.self.inside in
    let k = c.args.k in
    let v = ap length c.self.view_is in
    let n = length_slots s.words.items s.bits.items in
    let r = c.requires in
    let l : k < length s.words.items = omega (arith, v, n, r) in
    ap (λ us. get_or us k None) (sym c.self.view_is)
    ∙ (slot_is s.words.items s.bits.items k l
    ∙ (slot_full s.words.items s.bits.items k (c.self.invariant.1 c.if-self.true k l)
    ∙ ap (λ w. Some w) (sym (c.index-word.ensures ∙ get_or_default_zero s.words.items k c.index-word.result.now l))))

pub index-bits-requires : goal.index-bits-requires
index-bits-requires c =
    let s = c.self.inside in
    let v = ap length c.self.view_is in
    let l = length_slots s.words.items s.bits.items in
    let o = s.bits.ok.0 in
    let r = c.requires in
    let w = c.self.invariant.0 in
    omega (arith, v, l, o, r, w)

pub returns : goal.returns
returns c =
    let s = c.self.inside in
    let k = c.args.k in
    let v = ap length c.self.view_is in
    let n = length_slots s.words.items s.bits.items in
    let r = c.requires in
    let w = c.self.invariant.0 in
    let l : k < length s.words.items = omega (arith, v, n, r) in
    ap (λ us. get_or us k None) (sym c.self.view_is)
    ∙ (slot_is s.words.items s.bits.items k l
    ∙ (ap (λ b. if nat_eq b 1 then Some (get_or s.words.items k 0) else None) (sym (bit_read s.bits.items k))
    ∙ (ap (λ u. if nat_eq (bit_and (u / 2 ^ (k % 64)) 1) 1 then Some (get_or s.words.items k 0) else None)
    (sym (c.index-bits.ensures ∙ get_or_default_zero s.bits.items (k / 64) c.index-bits.result.now (omega (arith, w, l))))
    ∙ ap (λ w. if nat_eq (bit_and (c.index-bits.result.now / 2 ^ (k % 64)) 1) 1 then Some w else None)
    (sym (c.index-word.ensures ∙ get_or_default_zero s.words.items k c.index-word.result.now l)))))
