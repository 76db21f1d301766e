use Rattle.std.proofs.Common.{get_or, sym, arith}
use Rattle.std.proofs.lemmas.List.{drop_all}
use Rattle.bpf_insn.specs.declared.operands.Operands.TheVariants.{Binary}
use Rattle.bpf_run.proofs.Charging.{cost-few}
use Rattle.row_product.proofs.Column.{sums_up_more, sums_up_ends}
use Rattle.row_product.proofs.fused.sum_cells.Goals as goal

pub add_if-steps-requires-clause-few : goal.add_if-steps-requires-clause-few
add_if-steps-requires-clause-few g c =
    let f = c.requires.row.factors in
    let x = (get_or c.args.row.now c.loop-k.k-index (0, 0)).1 in
    let few = cost-few c.args.factors.now.mul.now (Binary x c.word_at-word.result.0) f.mul_accepted (sym f.mul) in
    let e = c.call_by-term.ensures.steps in
    omega (arith, few, e)

pub overflow_add-steps : goal.overflow_add-steps
overflow_add-steps g c =
    let f = c.requires.row.factors in
    let found = c.word_at-word in
    let term = c.call_by-term in
    let added = c.add_if-steps in
    let next = sums_up_more c.args.factors.now.add.now c.args.factors.now.mul.now c.args.factors.now.b.now c.args.row.now
    c.loop-k.k-index (0, 0) c.loop-k.sum added.new.sum c.loop-k.steps found.result.0 term.result.value term.result.steps
    added.result found.result.1 c.loop-k-test.true c.loop-k.invariant f.add_accepted f.mul_accepted f.add f.mul found.ensures
    term.ensures.value term.ensures.steps added.ensures.sum added.ensures.steps in
    let few = next.few in
    let w = c.requires.row.few in
    omega (arith, few, w)

pub loop-k-preserved : goal.loop-k-preserved
loop-k-preserved g c =
    let f = c.requires.row.factors in
    let found = c.word_at-word in
    let term = c.call_by-term in
    let added = c.add_if-steps in
    sums_up_more c.args.factors.now.add.now c.args.factors.now.mul.now c.args.factors.now.b.now c.args.row.now c.loop-k.k-index (0, 0)
    c.loop-k.sum added.new.sum c.loop-k.steps found.result.0 term.result.value term.result.steps added.result found.result.1
    c.loop-k-test.true c.loop-k.invariant f.add_accepted f.mul_accepted f.add f.mul found.ensures term.ensures.value
    term.ensures.steps added.ensures.sum added.ensures.steps

pub returns : goal.returns
returns g c =
    let f = c.args.factors.now in
    let now = c.loop-k.invariant in
    let none = drop_all c.loop-k.k-index c.args.row.now (omega (arith, c.loop-k-test.false)) in
    let all = sums_up_ends f.add.now f.mul.now f.b.now c.args.row.now _ c.loop-k.sum c.loop-k.steps now none in
    let few = now.few in
    record { value = all.0; steps_are = all.1; little = omega (arith, few) }
