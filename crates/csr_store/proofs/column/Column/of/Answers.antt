use Rattle.std.proofs.Common.{◌+◌, ◌&&◌, List, ℕ, sym, arith, subst}
use Rattle.csr_store.proofs.ByBits.{Copying, copying_step, copying_ends, copied_is}
use Rattle.csr_store.proofs.column.Column.of.Goals as goal

pub push_reserved-requires : goal.push_reserved-requires
push_reserved-requires c =
    let i = c.loop-k.invariant in
    let n = i.copying.rows in
    let r = i.capacity in
    let t = c.loop-k-test.true in
    let e = c.rows-k-end.ensures.rows in
    let o = c.loop-k.words.ok.0 in
    omega (arith, n, r, t, e, o)

pub set_bit-requires : goal.set_bit-requires
set_bit-requires c =
    let w = c.loop-k.invariant.wide in
    let t = c.loop-k-test.true in
    let e = c.rows-k-end.ensures.rows in
    omega (arith, w, t, e)

pub loop-k-preserved : goal.loop-k-preserved
loop-k-preserved c =
    let i = c.loop-k.invariant in
    let r = i.capacity in
    let p = c.push_reserved.ensures.capacity in
    record {
      copying = subst (λ (us : List ℕ). Copying c.args.column.now (c.loop-k.k + 1) us c.set_bit.new.bits.items
          (c.loop-k.full && c.word_in_column-word.result.1)) (sym c.push_reserved.ensures.items)
          (copying_step c.args.column.now c.loop-k.k c.loop-k.words.items c.loop-k.bits.items c.set_bit.new.bits.items
          c.word_in_column-word.result.0 c.word_in_column-word.result.1 c.loop-k.full i.copying c.word_in_column-word.ensures
          c.set_bit.ensures.set c.set_bit.ensures.others);
      capacity = omega (arith, r, p);
      wide = let w = i.wide in let b = c.set_bit.ensures.wide in omega (arith, w, b);
    }

pub returns : goal.returns
returns c =
    let k = c.loop-k.auto.k-end in
    let t = c.loop-k-test.false in
    let e = c.rows-k-end.ensures.rows in
    copied_is c.args.column.now c.loop-k.words.items c.loop-k.bits.items c.loop-k.full
    (copying_ends c.args.column.now c.loop-k.k c.loop-k.words.items c.loop-k.bits.items c.loop-k.full c.loop-k.invariant.copying (omega (arith, k, t, e)))
