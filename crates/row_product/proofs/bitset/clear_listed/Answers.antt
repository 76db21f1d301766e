use Rattle.std.proofs.Common.{◌+◌, ◌/◌, drop, get_or, set, refl, sym, subst, arith}
use Rattle.std.proofs.Math.ListN.{length-set}
use Rattle.std.proofs.lemmas.List.{drop_more, drop_all}
use Rattle.row_product.proofs.Bits.{AreForgotten, bit_cleared, bit_stays_clear, bit_past, forgotten_start, forgotten_step, forgotten_end}
use Rattle.row_product.proofs.bitset.clear_listed.Goals as goal
use Rattle.row_product.proofs.bitset.clear_listed.Goals.{then-nth-len, else-nth-len}

pub loop-column-init : goal.loop-column-init
loop-column-init c = forgotten_start c.args.bits.now.items c.args.listed.now

pub loop-column-preserved : goal.loop-column-preserved
loop-column-preserved c =
    let first = c.args.bits.now.items in
    let listed = c.args.listed.now in
    let k = c.loop-column.column-index in
    let column = get_or listed k 0 in
    let bits = c.loop-column.bits.items in
    let more = drop_more listed k 0 c.loop-column-test.true in
    elim c.if-nth-len.branch [
      | then-nth-len w ↦
          subst (λ b. AreForgotten first listed (drop (k + 1) listed) b.items) (sym w.bits-is)
          (forgotten_step first listed (drop k listed) bits column (drop (k + 1) listed) (set bits (column / 64) 0)
          c.loop-column.invariant more (length-set bits (column / 64) 0) (bit_cleared bits (column / 64) column refl)
          (λ j h. bit_stays_clear bits (column / 64) j h))
      | else-nth-len w ↦
          subst (λ b. AreForgotten first listed (drop (k + 1) listed) b.items) (sym w.bits-is)
          (forgotten_step first listed (drop k listed) bits column (drop (k + 1) listed) bits c.loop-column.invariant more refl
          (bit_past bits column (let n = c.len.ensures in let f = w.if-nth-len.false in omega (arith, n, f))) (λ j h. h))
    ]

pub returns-clause-clear : goal.returns-clause-clear
returns-clause-clear c = λ j l.
    forgotten_end c.args.bits.now.items c.args.listed.now (drop c.loop-column.column-index c.args.listed.now) c.loop-column.bits.items
    j c.loop-column.invariant (drop_all c.loop-column.column-index c.args.listed.now c.loop-column-test.false) l
