use Rattle.std.proofs.Common.{◌≡◌, ◌<◌, ℕ, List, length, get_or, set, ap, ◌∙◌, subst, arith}
use Rattle.std.proofs.lemmas.List.{get_or_default}
use Rattle.csr_store.specs.Grid.{Cell}
use Rattle.csr_store.specs.inner.Repeated.{BeginsRepeat, GoesOn, number_at}
use Rattle.csr_store.proofs.Marking.{kept_none, kept_on, kept_push, kept_all}
use Rattle.csr_store.proofs.repeat.keep_repeats.Goals as goal
use Rattle.csr_store.proofs.repeat.keep_repeats.Goals.{then-begins_repeat, else-begins_repeat}

pub loop-nth-init : goal.loop-nth-init
loop-nth-init c = kept_none c.args.cells.now.items

-- the number of a cell that is read
number : (cells : List Cell) (k : ℕ) (x : Cell) → k < length cells → x ≡ get_or cells k x → x.0 ≡ number_at cells k
number cells k x l e = ap (λ (y : Cell). y.0) (e ∙ get_or_default cells k x (0, 0) l)

pub loop-nth-preserved : goal.loop-nth-preserved
loop-nth-preserved c =
    let t = c.loop-nth-test.true in
    let n = c.len-nth-end.ensures in
    let o = c.args.cells.now.ok.0 in
    let s = c.loop-nth.invariant.count in
    let l : c.loop-nth.nth < length c.args.cells.now.items = omega (arith, t, n, o) in
    let m : c.loop-nth.nth < length c.loop-nth.cells.items = omega (arith, l, s) in
    elim c.if-begins_repeat.branch [
      | then-begins_repeat w ↦ rw (w.repeats-is, w.cells-is)
          (kept_push c.args.cells.now.items c.loop-nth.cells.items c.loop-nth.repeats c.loop-nth.nth c.requires c.loop-nth.invariant l
          (subst (λ (cs : List Cell). BeginsRepeat cs c.loop-nth.repeats c.loop-nth.nth) c.deref.ensures.value (c.begins_repeat.ensures.yes w.if-begins_repeat.true)) _
          (ap (λ (i : ℕ). set c.loop-nth.cells.items c.loop-nth.repeats (i, 0)) (number c.loop-nth.cells.items c.loop-nth.nth w.index.result.now m w.index.ensures)))
      | else-begins_repeat w ↦ rw (w.repeats-is, w.cells-is)
          (kept_on c.args.cells.now.items c.loop-nth.cells.items c.loop-nth.repeats c.loop-nth.nth c.requires c.loop-nth.invariant l
          (subst (λ (cs : List Cell). GoesOn cs c.loop-nth.repeats c.loop-nth.nth) c.deref.ensures.value (c.begins_repeat.ensures.no w.if-begins_repeat.false)))
    ]

pub returns-clause-within : goal.returns-clause-within
returns-clause-within c = let m = c.loop-nth.invariant.most in let n = c.loop-nth.invariant.count in omega (arith, m, n)

pub returns-clause-sorted : goal.returns-clause-sorted
returns-clause-sorted c =
    let t = c.loop-nth-test.false in
    let n = c.len-nth-end.ensures in
    let o = c.args.cells.now.ok.0 in
    (kept_all c.args.cells.now.items c.loop-nth.cells.items c.loop-nth.repeats c.loop-nth.nth c.loop-nth.invariant (omega (arith, t, n, o))).0

pub returns-clause-marked : goal.returns-clause-marked
returns-clause-marked c =
    let t = c.loop-nth-test.false in
    let n = c.len-nth-end.ensures in
    let o = c.args.cells.now.ok.0 in
    (kept_all c.args.cells.now.items c.loop-nth.cells.items c.loop-nth.repeats c.loop-nth.nth c.loop-nth.invariant (omega (arith, t, n, o))).1
