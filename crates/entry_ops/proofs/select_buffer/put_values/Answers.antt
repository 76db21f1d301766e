use Rattle.std.proofs.Common.{take, arith}
use Rattle.entry_ops.proofs.Keeping.{keeping-start, keeping-as, end-kept, one-kept}
use Rattle.entry_ops.proofs.select_buffer.put_values.Goals as goal
use Rattle.entry_ops.proofs.select_buffer.put_values.Goals.{
  in-End+in_ok-end_kept-in-End,
  in-Selected+in_ok-many-in-Selected,
}

pub loop-mark-init : goal.loop-mark-init
loop-mark-init c = record { few = omega arith; keeping = keeping-start c.args.marks.now c.args.values.now c.args.rows.now c.requires.fits }

pub loop-mark-preserved : goal.loop-mark-preserved
loop-mark-preserved c = elim c.match-mark.branch [
  | in-End+in_ok-end_kept-in-End w ↦ record {
    few = let m = w.many-is in omega arith;
    keeping = keeping-as c.args.marks.now c.args.values.now c.args.rows.now _ _ _ _ _ _ _ w.next-is
        (λ t. take (w.many-is t) c.match-mark.selected) w.rows-is
        (end-kept c.args.marks.now c.args.values.now c.args.rows.now c.loop-mark.mark-index c.loop-mark.next
        (take c.loop-mark.many c.loop-mark.selected) c.loop-mark.rows _ c.loop-mark.invariant.keeping c.loop-mark-test.true w.in-End.is _
        w.in_ok-end_kept-in-End.ensures);
  }
  | in-Selected+in_ok-many-in-Selected w ↦ record {
    few = let m = w.many-is in let f = w.keep_if-many.ensures.few in omega arith;
    keeping = keeping-as c.args.marks.now c.args.values.now c.args.rows.now _ _ _ _ _ _ _ w.next-is
        (λ t. take (w.many-is t) (w.selected-is t)) w.rows-is
        (one-kept c.args.marks.now c.args.values.now c.args.rows.now c.loop-mark.mark-index c.loop-mark.next
        (take c.loop-mark.many c.loop-mark.selected) c.loop-mark.rows _ c.loop-mark.invariant.keeping c.loop-mark-test.true _ _ w.in-Selected.is _ _ _
        w.in_ok-many-in-Selected.ensures.follow w.in_ok-many-in-Selected.ensures.same w.keep_if-many.ensures.selected);
  }
]
