use Rattle.std.proofs.Common.{◌+◌, drop, get_or, ap}
use Rattle.std.proofs.lemmas.List.{drop_more, drop_all}
use Rattle.row_product.specs.inner.Single.{with_words}
use Rattle.row_product.proofs.Multiplying.{pushing_start, pushing_step, pushing_end, pushing_column, with_words_more}
use Rattle.row_product.proofs.single.push_words.Goals as goal

pub loop-k-init : goal.loop-k-init
loop-k-init c = pushing_start c.args.rows.now (with_words c.args.cells.now c.args.words.now) c.args.cells.now c.requires.behind

pub push-requires : goal.push-requires
push-requires c =
    let cells = c.args.cells.now in
    let k = c.loop-k.k in
    let p = pushing_column _ _ c.loop-k.rows _ _ (get_or cells k (0, 0)) (drop (k + 1) cells) c.loop-k.invariant
    (drop_more cells k (0, 0) c.loop-k-test.true) in
    record { within = p.1; above = p.0 }

pub loop-k-preserved : goal.loop-k-preserved
loop-k-preserved c =
    let cells = c.args.cells.now in
    let words = c.args.words.now in
    let k = c.loop-k.k in
    pushing_step c.args.rows.now (with_words cells words) c.loop-k.rows (drop k cells) (with_words (drop k cells) (drop k words))
    (get_or cells k (0, 0)) (get_or words k 0) (drop (k + 1) cells) (with_words (drop (k + 1) cells) (drop (k + 1) words))
    c.push.new.self c.loop-k.invariant (drop_more cells k (0, 0) c.loop-k-test.true)
    (with_words_more cells words k c.loop-k-test.true c.requires.words) c.in_ok-push.ensures.pushed

pub returns : goal.returns
returns c =
    let cells = c.args.cells.now in
    let words = c.args.words.now in
    let k = c.loop-k.k in
    pushing_end c.args.rows.now (with_words cells words) c.loop-k.rows (drop k cells) (with_words (drop k cells) (drop k words))
    c.loop-k.invariant (ap (λ us. with_words us (drop k words)) (drop_all k cells c.loop-k-test.false))
