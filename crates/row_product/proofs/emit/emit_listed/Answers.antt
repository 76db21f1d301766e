use Rattle.std.proofs.Common.{◌+◌, drop, get_or, refl, sym, ap, ◌∙◌, subst, arith}
use Rattle.std.proofs.lemmas.List.{drop_more, drop_all}
use Rattle.csr_store.specs.Run.{Run}
use Rattle.row_product.specs.inner.Sums.{slot}
use Rattle.row_product.proofs.Putting.{Listing, listing_start, listing_skip, listing_reach, listing_step, listing_end}
use Rattle.row_product.proofs.emit.emit_listed.Goals as goal
use Rattle.row_product.proofs.emit.emit_listed.Goals.{then-is_due+in_ok-put_sum, else-is_due}

pub loop-column-init : goal.loop-column-init
loop-column-init c =
    listing_start c.args.rows.now.columns (slot c.args.dense.now) c.args.rows.now c.args.listed.now c.requires.capacity.none_open
    c.requires.listed.order c.requires.listed.covers

pub put_sum-requires-clause-dense : goal.put_sum-requires-clause-dense
put_sum-requires-clause-dense c =
    let d = (c.is_due.ensures.due c.if-is_due.true).1 in
    let m = c.requires.capacity.columns in
    let w = c.requires.capacity.wide in
    omega (arith, d, m, w)

pub put_sum-requires-clause-within : goal.put_sum-requires-clause-within
put_sum-requires-clause-within c =
    let d = (c.is_due.ensures.due c.if-is_due.true).1 in
    let m = c.requires.capacity.columns in
    let r = ap (λ (u : Run). u.columns) c.loop-column.invariant.putting.run in
    omega (arith, d, m, r)

pub put_sum-requires-clause-above : goal.put_sum-requires-clause-above
put_sum-requires-clause-above c =
    let listed = c.args.listed.now in
    let k = c.loop-column.column-index in
    let d = c.is_due.ensures.due c.if-is_due.true in
    let b = d.1 in
    let m = c.requires.capacity.columns in
    (listing_reach c.args.rows.now.columns (slot c.args.dense.now) c.args.rows.now c.loop-column.next (drop k listed)
    c.loop-column.rows (get_or listed k 0) (drop (k + 1) listed) c.loop-column.invariant
    (drop_more listed k 0 c.loop-column-test.true) d.0 (omega (arith, b, m))).below

pub loop-column-preserved : goal.loop-column-preserved
loop-column-preserved c =
    let n = c.args.rows.now.columns in
    let whole = slot c.args.dense.now in
    let from = c.args.rows.now in
    let listed = c.args.listed.now in
    let k = c.loop-column.column-index in
    let column = get_or listed k 0 in
    let rest = drop_more listed k 0 c.loop-column-test.true in
    let m = c.requires.capacity.columns in
    elim c.if-is_due.branch [
      | then-is_due+in_ok-put_sum w ↦
          let d = c.is_due.ensures.due w.if-is_due.true in
          let b = d.1 in
          subst (λ p. Listing n whole from p (drop (k + 1) listed) c.if-is_due.rows) (sym w.next-is)
          (listing_step n whole from c.loop-column.next (drop k listed) c.loop-column.rows column (drop (k + 1) listed)
          (slot c.args.dense.now column) c.if-is_due.rows c.loop-column.invariant rest d.0 (omega (arith, b, m)) refl
          (w.rows-is ∙ w.in_ok-put_sum.ensures))
      | else-is_due w ↦
          subst (λ p. Listing n whole from p (drop (k + 1) listed) c.if-is_due.rows) (sym w.next-is)
          (subst (Listing n whole from c.loop-column.next (drop (k + 1) listed)) (sym w.rows-is)
          (listing_skip n whole from c.loop-column.next (drop k listed) c.loop-column.rows column (drop (k + 1) listed)
          c.loop-column.invariant rest (λ l. let o = c.is_due.ensures.other w.if-is_due.false l in omega (arith, o, m))))
    ]

pub returns : goal.returns
returns c =
    listing_end c.args.rows.now.columns (slot c.args.dense.now) c.args.rows.now c.loop-column.next
    (drop c.loop-column.column-index c.args.listed.now) c.loop-column.rows c.loop-column.invariant
    (drop_all c.loop-column.column-index c.args.listed.now c.loop-column-test.false)
