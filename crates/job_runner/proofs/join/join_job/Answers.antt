use Rattle.std.proofs.Common.{◌≡◌, ◌∷◌, ◌++◌, [], ◌<◌, ◌-◌, ℕ, drop, length, ap, sym, ◌∙◌, subst, arith}
use Rattle.std.specs.Int.{div_ceil}
use Rattle.std.specs.Arc.{arc_value}
use Rattle.std.specs.Vec.Iter.{into_iter_items}
use Rattle.std.proofs.lemmas.List.{length-map}
use Rattle.csr_store.specs.Grid.{IsGrid}
use Rattle.csr_store.specs.Run.{Run}
use Rattle.csr_store.specs.Along.{along, summed}
use Rattle.job_plan.specs.Job.{Job}
use Rattle.job_plan.specs.Meaning.{IsMatrixOf, row_count, steps_of_job}
use Rattle.job_plan.specs.Price.{IsWithinPrice}
use Rattle.job_plan.specs.Refusal.{IsPriced}
use Rattle.job_runner.specs.Chunk.{chunks_in, steps_in_job}
use Rattle.job_runner.specs.inner.Pieces.{given, given_at, job_gives}
use Rattle.job_runner.proofs.Listed.{none-listed, summed-step, summed-room}
use Rattle.job_runner.proofs.Placing.{next_given, none_given}
use Rattle.job_runner.proofs.Joined.{steps_all, steps_low, length_first, next_run, joined_matrix}
use Rattle.job_runner.proofs.join.join_job.Goals as goal

-- how many chunks a job has, by its rows
number : (rows count : ℕ) (job : Job) → count ≡ div_ceil rows 256 → rows ≡ row_count job → count ≡ chunks_in job
number rows count job e r = omega (arith, e, r)

-- a chunk before the last
before : (rows count next : ℕ) (job : Job) → count ≡ div_ceil rows 256 → rows ≡ row_count job → next < count → next < chunks_in job
before rows count next job e r l = let n = number rows count job e r in omega (arith, n, l)

-- no place, though some are left
pub unreachable-requires : goal.unreachable-requires
unreachable-requires c =
    let job = c.args.job.now in
    let items = into_iter_items c.loop-next.completed_pieces in
    let len = c.loop-next.completed_pieces.rest.ok.0 in
    let gone = c.in_default.ensures.cases.0 in
    let m : length (given_at items) ≡ length items = length-map items given in
    none-listed (job_gives job) c.loop-next._next (chunks_in job) (given_at items)
    (drop (chunks_in job) (given_at (into_iter_items c.args.completed_pieces.now)))
    (before c.sizes-rows.result.0 c.div_ceil-next-end.result c.loop-next._next job c.div_ceil-next-end.ensures (c.sizes-rows.ensures.rows ∙ ap row_count c.job-job.ensures.job)
    c.loop-next-test.true)
    c.loop-next.invariant.left (omega (arith, len, gone, m))

-- no piece at a place
pub unreachable-requires-in_default-nth : goal.unreachable-requires-in_default-nth
unreachable-requires-in_default-nth c =
    let job = c.args.job.now in
    let rest = into_iter_items c.next.new.self in
    none_given job c.loop-next._next (chunks_in job) rest
    (drop (chunks_in job) (given_at (into_iter_items c.args.completed_pieces.now)))
    (before c.sizes-rows.result.0 c.div_ceil-next-end.result c.loop-next._next job c.div_ceil-next-end.ensures (c.sizes-rows.ensures.rows ∙ ap row_count c.job-job.ensures.job)
    c.loop-next-test.true)
    (ap (λ o. given_at (o ∷ rest)) (sym c.in_default-nth.is) ∙ sym (ap given_at c.in-Some.ensures.items)
    ∙ c.loop-next.invariant.left)

pub overflow_add-steps : goal.overflow_add-steps
overflow_add-steps c =
    let job = c.args.job.now in
    let rest = into_iter_items c.next.new.self in
    let more = before c.sizes-rows.result.0 c.div_ceil-next-end.result c.loop-next._next job c.div_ceil-next-end.ensures (c.sizes-rows.ensures.rows ∙ ap row_count c.job-job.ensures.job)
    c.loop-next-test.true in
    let next = next_given job c.loop-next._next (chunks_in job) c.in-Some-nth.piece rest
    (drop (chunks_in job) (given_at (into_iter_items c.args.completed_pieces.now))) more
    (ap (λ o. given_at (o ∷ rest)) (sym c.in-Some-nth.is) ∙ sym (ap given_at c.in-Some.ensures.items)
    ∙ c.loop-next.invariant.left) in
    let e = next.1 in
    let capacity = summed-room (steps_in_job job) c.loop-next._next (chunks_in job) c.loop-next.steps c.in-Some-nth.piece.steps _
    more c.loop-next.invariant.sum (omega (arith, e)) in
    let low = steps_low job c.job-job.ensures.priced c.price-for_proof_price.ensures.within in
    let all = steps_all 0 job (c.recall.ensures.cover 0 job) in
    omega (arith, capacity, low, all)

pub add-requires : goal.add-requires
add-requires c =
    let job = c.args.job.now in
    let rest = into_iter_items c.next.new.self in
    let more = before c.sizes-rows.result.0 c.div_ceil-next-end.result c.loop-next._next job c.div_ceil-next-end.ensures (c.sizes-rows.ensures.rows ∙ ap row_count c.job-job.ensures.job)
    c.loop-next-test.true in
    let next = next_given job c.loop-next._next (chunks_in job) c.in-Some-nth.piece rest
    (drop (chunks_in job) (given_at (into_iter_items c.args.completed_pieces.now))) more
    (ap (λ o. given_at (o ∷ rest)) (sym c.in-Some-nth.is) ∙ sym (ap given_at c.in-Some.ensures.items)
    ∙ c.loop-next.invariant.left) in
    (next_run job c.loop-next._next c.loop-next.stack c.in-Some-nth.piece.rows c.job-job.ensures.priced more c.loop-next.invariant.stacked next.0).0

pub loop-next-preserved : goal.loop-next-preserved
loop-next-preserved c =
    let job = c.args.job.now in
    let rest = into_iter_items c.next.new.self in
    let more = before c.sizes-rows.result.0 c.div_ceil-next-end.result c.loop-next._next job c.div_ceil-next-end.ensures (c.sizes-rows.ensures.rows ∙ ap row_count c.job-job.ensures.job)
    c.loop-next-test.true in
    let next = next_given job c.loop-next._next (chunks_in job) c.in-Some-nth.piece rest
    (drop (chunks_in job) (given_at (into_iter_items c.args.completed_pieces.now))) more
    (ap (λ o. given_at (o ∷ rest)) (sym c.in-Some-nth.is) ∙ sym (ap given_at c.in-Some.ensures.items)
    ∙ c.loop-next.invariant.left) in
    record {
      stacked = c.in_ok-stack-2.ensures
          ∙ (next_run job c.loop-next._next c.loop-next.stack c.in-Some-nth.piece.rows c.job-job.ensures.priced more c.loop-next.invariant.stacked next.0).1;
      sum = summed-step (steps_in_job job) c.loop-next._next (chunks_in job) c.loop-next.steps c.in-Some-nth.piece.steps _
          more c.loop-next.invariant.sum next.1;
      left = next.2;
    }

pub finish-requires-clause-rows : goal.finish-requires-clause-rows
finish-requires-clause-rows c =
    let stacked = ap (λ (r : Run). length r.ended) c.loop-next.invariant.stacked in
    let count = length_first c.args.job.now c.loop-next._next in
    let rows = c.sizes-rows.ensures.rows ∙ ap row_count c.job-job.ensures.job in
    let few = c.sizes-rows.ensures.few in
    omega (arith, stacked, count, rows, few)

pub returns-clause-result : goal.returns-clause-result
returns-clause-result c =
    let job = c.args.job.now in
    let all = c.loop-next-test.false in
    let count = number c.sizes-rows.result.0 c.div_ceil-next-end.result job c.div_ceil-next-end.ensures
    (c.sizes-rows.ensures.rows ∙ ap row_count c.job-job.ensures.job) in
    let none : chunks_in job - c.loop-next._next ≡ 0 = omega (arith, all, count) in
    let sum = c.loop-next.invariant.sum in
    let left = ap (summed (steps_in_job job) c.loop-next._next) none in
    let steps = steps_all 0 job (c.recall.ensures.cover 0 job) in
    record {
      matrix = joined_matrix job c.loop-next._next c.loop-next.stack (arc_value c.in_ok-version.version) (omega (arith, all, count))
          c.loop-next.invariant.stacked (c.in_ok-version.ensures.ok ∙ c.in_ok-matrix.ensures)
          (subst IsGrid (sym c.in_ok-version.ensures.ok) c.recall-2.ensures);
      steps = omega (arith, sum, left, steps);
    }

pub returns-clause-left : goal.returns-clause-left
returns-clause-left c =
    let job = c.args.job.now in
    let all = c.loop-next-test.false in
    let count = number c.sizes-rows.result.0 c.div_ceil-next-end.result job c.div_ceil-next-end.ensures
    (c.sizes-rows.ensures.rows ∙ ap row_count c.job-job.ensures.job) in
    let none : chunks_in job - c.loop-next._next ≡ 0 = omega (arith, all, count) in
    c.loop-next.invariant.left
    ∙ ap (λ n. along (λ k. job_gives job k ∷ []) c.loop-next._next n
    ++ drop (chunks_in job) (given_at (into_iter_items c.args.completed_pieces.now))) none
