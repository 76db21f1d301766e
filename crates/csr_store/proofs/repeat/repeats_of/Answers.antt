use Rattle.std.proofs.Common.{◌≡◌, ◌<◌, ◌∙◌, ◌+◌, ◌/◌, ℕ, List, map, sym, length, take, ap, arith}
use Rattle.std.proofs.lemmas.List.{length-take, length-take-le, take-take}
use Rattle.std.specs.FinMap.{from_entries, get}
use Rattle.csr_store.specs.Grid.{Cell, pos_cmp}
use Rattle.csr_store.specs.Packed.{unpacked}
use Rattle.csr_store.proofs.Indexed.{in_front}
use Rattle.csr_store.proofs.Marking.{marks_are, once_kept, twice_kept}
use Rattle.csr_store.proofs.repeat.repeats_of.Goals as goal

pub returns-then-count-eq0-clause-once : goal.returns-then-count-eq0-clause-once
returns-then-count-eq0-clause-once c =
    once_kept c.args.cells.items (take c.keep_repeats-count.result c.keep_repeats-count.new.cells.items) c.keep_repeats-count.ensures.marked
    (ap (λ n. length (take n c.keep_repeats-count.new.cells.items)) c.if-count-eq0.true)

some_long : (m n : ℕ) → (m ≡ 0 → ⊥) → n ≡ m → 0 < n
some_long m n f e = grind arith

pub returns-clause-twice : goal.returns-clause-twice
returns-clause-twice c =
    twice_kept c.args.cells.items (take c.keep_repeats-count.result c.keep_repeats-count.new.cells.items) c.keep_repeats-count.ensures.marked
    (let f = c.if-count-eq0.false in let k = length-take-le c.keep_repeats-count.result c.keep_repeats-count.new.cells.items c.keep_repeats-count.ensures.within in some_long _ _ f k)

-- what stands in front in the end is what was kept
pub returns-clause-repeats : goal.returns-clause-repeats
returns-clause-repeats c = λ p.
    let n = c.keep_repeats-count.result in
    let m = n + (n / 32 + 1) in
    let o = c.truncate.new.self.ok.0 in
    let t = c.truncate.ensures.items in
    let len : length (take m c.keep_repeats-count.new.cells.items) ≡ c.truncate.new.self.len = ap length (sym t) ∙ sym o in
    let most = c.keep_repeats-count.ensures.within in
    let cut = length-take m c.keep_repeats-count.new.cells.items in
    ap (λ (xs : List Cell). get (from_entries {R = pos_cmp} (map unpacked xs)) p)
    (in_front n c.truncate.new.self.len c.split_at_mut-positions.result.0.now c.write_starts.new.starts _ c.split_at_mut-positions.ensures.front_len (omega (arith, len, most, cut))
    ∙ c.split_at_mut-positions.ensures.front ∙ ap (take n) (c.deref_mut.ensures.value ∙ t) ∙ take-take n m c.keep_repeats-count.new.cells.items (omega arith))
    ∙ marks_are (take n c.keep_repeats-count.new.cells.items) p ∙ c.keep_repeats-count.ensures.marked p
