use Rattle.std.proofs.Common.{length, drop, sym, ◌∙◌}
use Rattle.std.proofs.lemmas.List.{drop_all}
use Rattle.row_product.proofs.Meeting.{meets_start, meets_column, meets_first, meets_further, meeting_end, below_up}
use Rattle.row_product.proofs.dense_accumulator.meet.Goals as goal
use Rattle.row_product.proofs.dense_accumulator.meet.Goals.{in-Some, in-None}

pub loop-k-init : goal.loop-k-init
loop-k-init c = meets_start c.args.sums.now c.args.cells.now c.args.terms.now c.args.additions.now c.requires.none
    c.requires.terms.apart

pub get-requires : goal.get-requires
get-requires c = meets_column _ _ _ _ _ _ c.loop-k.invariant c.loop-k-test.true

pub loop-k-preserved : goal.loop-k-preserved
loop-k-preserved c =
    let l = c.loop-k in
    elim c.match-get.branch [
      | in-Some w ↦
          meets_further c.args.sums.now c.args.cells.now c.args.terms.now l.k l.sums l.additions c.match-get.sums
          c.match-get.additions w.in-Some.so_far l.invariant c.loop-k-test.true c.requires.terms.paired
          (sym w.in-Some.ensures) w.sums-is
          (w.additions-is ∙ w.gather.ensures)
      | in-None w ↦
          meets_first c.args.sums.now c.args.cells.now c.args.terms.now l.k l.sums l.additions c.match-get.sums
          c.match-get.additions l.invariant c.loop-k-test.true c.requires.terms.paired (sym w.in-None.ensures)
          (w.sums-is ∙ w.begin_sum.ensures) w.additions-is
    ]

pub returns-clause-met : goal.returns-clause-met
returns-clause-met c = λ add. meeting_end add c.args.sums.now c.args.cells.now c.args.terms.now c.loop-k.sums c.loop-k.additions
    (drop c.loop-k.k c.args.cells.now) (drop c.loop-k.k c.args.terms.now) (c.loop-k.invariant.met add)
    (drop_all c.loop-k.k c.args.cells.now c.loop-k-test.false)

pub returns-clause-below : goal.returns-clause-below
returns-clause-below c =
    let m = c.loop-k.invariant.apart in below_up m.low (length c.loop-k.sums) c.loop-k.additions.columns m.within m.below
