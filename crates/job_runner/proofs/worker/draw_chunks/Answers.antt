use Rattle.std.proofs.Common.{ℕ, ◌+◌, ◌++◌, ◌∷◌, [], List, ap, sym, subst, ◌∙◌, arith}
use Rattle.std.specs.List.{AllByRecursion}
use Rattle.race_board.specs.Race.{Worker}
use Rattle.job_runner.specs.Chunk.{chunk_steps}
use Rattle.job_runner.specs.Worked.{recorded, IsPieceOf}
use Rattle.job_runner.proofs.Costs.{chunk_listed, chunk_there, room_of}
use Rattle.job_runner.proofs.Joined.{charged-chunk}
use Rattle.job_runner.proofs.Working.{spent_room, above_next, turn_steps, fail_steps, turn_drawn, right_more}
use Rattle.job_runner.proofs.Working.{gained_more}
use Rattle.job_runner.proofs.worker.draw_chunks.Goals as goal

pub loop-chunk-preserved : goal.loop-chunk-preserved
loop-chunk-preserved g c =
    let jobs = c.args.task.plan.now in
    let chunk = c.in-Some.chunk in
    let steps = c.in-Completed.steps in
    let i = c.loop-chunk.invariant in
    let drew = c.in-Some.ensures.chunk.1 in
    let record_chunk = c.in-Completed.ensures in
    let done = record_chunk.recorded in
    let just = record_chunk.just in
    let old = c.loop-chunk.seat.worker in
    let below = above_next old c.loop-chunk.for_proof_next chunk i.drawn c.in-Some.ensures.above in
    let entry : List (ℕ × ℕ) = (chunk, steps) ∷ [] in
    record {
      own = record_chunk.own;
      number = ap (λ (w : Worker). w.number) done ∙ (ap (λ (w : Worker). w.number) drew ∙ i.number);
      gained = gained_more jobs chunk steps c.loop-chunk.pieces.items c.record_chunk.new.pieces.items c.args.seat.now.worker.done
          old.done c.record_chunk.new.seat.worker.done record_chunk.put i.gained
          (ap (λ (w : Worker). w.done) done ∙ ap (λ (w : Worker). w.done ++ entry) drew);
      right = right_more jobs chunk steps c.loop-chunk.pieces.items c.record_chunk.new.pieces.items i.right record_chunk.put;
      free = ap (λ (w : Worker). w.state) done;
      sum =
          let s = turn_steps old c.draw.new.seat.worker c.record_chunk.new.seat.worker chunk steps i.free drew done in
          let t = i.sum in omega (arith, s, t);
      drawn = λ _. turn_drawn c.draw.new.seat.worker c.record_chunk.new.seat.worker chunk steps done;
      most = (spent_room (chunk_steps jobs) c.loop-chunk.for_proof_next chunk (chunk + 1) c.loop-chunk.spent steps i.most below
          (omega arith) (omega (arith, just))).0;
    }

pub overflow_add-spent : goal.overflow_add-spent
overflow_add-spent g c =
    let jobs = c.args.task.plan.now in
    let chunk = c.in-Some.chunk in
    let i = c.loop-chunk.invariant in
    let plan = c.recall.ensures in
    let just = c.in-Completed.ensures.just in
    let listed = chunk_listed jobs chunk c.args.task.board.now.prices c.requires.prices c.in-Some.ensures.chunk.0 in
    let below = above_next c.loop-chunk.seat.worker c.loop-chunk.for_proof_next chunk i.drawn c.in-Some.ensures.above in
    let capacity = room_of jobs c.loop-chunk.for_proof_next chunk c.loop-chunk.spent c.in-Completed.steps plan.cover plan.priced
    plan.within plan.few (chunk_there jobs chunk listed) i.most below (omega (arith, just)) in
    omega (arith, capacity)

pub overflow_add-result : goal.overflow_add-result
overflow_add-result g c =
    let jobs = c.args.task.plan.now in
    let chunk = c.in-Some.chunk in
    let i = c.loop-chunk.invariant in
    let plan = c.recall.ensures in
    let most = charged-chunk jobs chunk c.in-Failed.steps c.in-Failed.ensures.charged in
    let listed = chunk_listed jobs chunk c.args.task.board.now.prices c.requires.prices c.in-Some.ensures.chunk.0 in
    let below = above_next c.loop-chunk.seat.worker c.loop-chunk.for_proof_next chunk i.drawn c.in-Some.ensures.above in
    let capacity = room_of jobs c.loop-chunk.for_proof_next chunk c.loop-chunk.spent c.in-Failed.steps plan.cover plan.priced
    plan.within plan.few (chunk_there jobs chunk listed) i.most below (omega (arith, most)) in
    omega (arith, capacity)

pub returns-in-Failed : goal.returns-in-Failed
returns-in-Failed g c =
    let jobs = c.args.task.plan.now in
    let chunk = c.in-Some.chunk in
    let steps = c.in-Failed.steps in
    let i = c.loop-chunk.invariant in
    let drew = c.in-Some.ensures.chunk.1 in
    let record_chunk = c.in-Failed.ensures in
    let fails = record_chunk.recorded in
    let listed = chunk_listed jobs chunk c.args.task.board.now.prices c.requires.prices c.in-Some.ensures.chunk.0 in
    record {
      own = record_chunk.own;
      number = ap (λ (w : Worker). w.number) fails ∙ (ap (λ (w : Worker). w.number) drew ∙ i.number);
      gained = ap (λ (w : Worker). w.done) fails ∙ ap (λ (w : Worker). w.done) drew ∙ i.gained
          ∙ ap (λ ps. c.args.seat.now.worker.done ++ recorded ps) (sym record_chunk.unchanged);
      pieces = subst (AllByRecursion (IsPieceOf jobs)) (sym record_chunk.unchanged) i.right;
      stands = (chunk, steps, ap (λ (w : Worker). w.state) fails, chunk_there jobs chunk listed, record_chunk.charged);
      spent =
          let s = fail_steps c.loop-chunk.seat.worker c.draw.new.seat.worker c.record_chunk.new.seat.worker chunk steps i.free drew fails in
          let t = i.sum in omega (arith, s, t);
    }
