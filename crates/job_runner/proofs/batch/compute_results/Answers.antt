use Rattle.std.proofs.Common.{◌≡◌, ◌<◌, ℕ, List, length, map, subst, arith}
use Rattle.std.proofs.lemmas.List.{length-map}
use Rattle.race_board.specs.Race.{AreNumbersBelow, IsLawful, SeatState, workers_of}
use Rattle.job_runner.specs.Whole.{IsRaced}
use Rattle.bpf_run.proofs.Charging.{charges-none}
use Rattle.job_runner.specs.Batch.{all_calls, result_of}
use Rattle.job_runner.proofs.Gathering.{gathered_spent, gathered_full}
use Rattle.job_runner.proofs.Placing.{all_given}
use Rattle.job_runner.proofs.Racing.{gathered_whole, one_race, whole_rows, whole_spent}
use Rattle.job_runner.proofs.batch.compute_results.Given as given
use Rattle.job_runner.proofs.batch.compute_results.Goals as goal

pub work_all-outputs-requires-clause-capacity : goal.work_all-outputs-requires-clause-capacity
work_all-outputs-requires-clause-capacity g c κs within =
    let capacity = c.in_ok-outputs.ensures.capacity.1 in
    let seats = c.in_ok-board.ensures.board.2 in
    record {
      none = c.in_ok-outputs.ensures.capacity.0;
      capacity = omega (arith, capacity, seats);
      outputs = c.in_ok-outputs.ensures.outputs c.in_ok-board.board;
    }

pub join_jobs-requires : goal.join_jobs-requires
join_jobs-requires g c =
    let board = c.in_ok-board.board in
    let outputs = c.work_all-outputs.result.0 in
    let all = c.work_all-outputs.ensures.all (cc) in
    let seats = c.in_ok-board.ensures.board.2 in
    let workers = c.in_ok-board.ensures.board.1 in
    let count = c.requires.0 in
    let len = outputs.seats.ok.0 in
    let some : 0 < length outputs.seats.items = omega (arith, all, seats, count, len) in
    let whole : length outputs.seats.items ≡ board.workers = omega (arith, all, seats, workers, len) in
    record {
      all = all_given c.args.plan.now outputs.completed_pieces.items c.work_all-outputs.ensures.outputs.completed_pieces
          (gathered_full board c.args.plan.now outputs c.work_all-outputs.ensures.outputs c.close.ensures.completed
          c.in_ok-board.ensures.board.0 some whole c.if-failed.false);
    }

pub returns-in_err-outputs-clause-spent : goal.returns-in_err-outputs-clause-spent
returns-in_err-outputs-clause-spent g c = charges-none (all_calls c.args.plan.now) 0

pub returns-in_err-board-clause-spent : goal.returns-in_err-board-clause-spent
returns-in_err-board-clause-spent g c = charges-none (all_calls c.args.plan.now) 0

pub returns-in-Some-clause-spent : goal.returns-in-Some-clause-spent
returns-in-Some-clause-spent g c =
    gathered_spent c.in_ok-board.board c.args.plan.now c.work_all-outputs.result.0 c.close.result.spent
    c.work_all-outputs.ensures.outputs c.close.ensures.once c.close.ensures.spent
    c.in_ok-board.ensures.board.0 c.recall.ensures.cover

pub returns-then-failed-clause-spent : goal.returns-then-failed-clause-spent
returns-then-failed-clause-spent g c =
    gathered_spent c.in_ok-board.board c.args.plan.now c.work_all-outputs.result.0 c.close.result.spent
    c.work_all-outputs.ensures.outputs c.close.ensures.once c.close.ensures.spent
    c.in_ok-board.ensures.board.0 c.recall.ensures.cover

pub returns-in_err-join_jobs-clause-spent : goal.returns-in_err-join_jobs-clause-spent
returns-in_err-join_jobs-clause-spent g c =
    gathered_spent c.in_ok-board.board c.args.plan.now c.work_all-outputs.result.0 c.close.result.spent
    c.work_all-outputs.ensures.outputs c.close.ensures.once c.close.ensures.spent
    c.in_ok-board.ensures.board.0 c.recall.ensures.cover

pub returns-clause-spent : goal.returns-clause-spent
returns-clause-spent g c =
    gathered_spent c.in_ok-board.board c.args.plan.now c.work_all-outputs.result.0 c.close.result.spent
    c.work_all-outputs.ensures.outputs c.close.ensures.once c.close.ensures.spent
    c.in_ok-board.ensures.board.0 c.recall.ensures.cover

raced : (g : given.Over) (c : goal.In_ok-join_jobs g)
    → IsRaced c.args.count c.args.plan.now (map result_of c.in_ok-join_jobs.field-0.items)
raced g c =
    let board = c.in_ok-board.board in
    let jobs = c.args.plan.now in
    let outputs = c.work_all-outputs.result.0 in
    let all = c.work_all-outputs.ensures.all (cc) in
    let seats = c.in_ok-board.ensures.board.2 in
    let workers = c.in_ok-board.ensures.board.1 in
    let count = c.requires.0 in
    let len = outputs.seats.ok.0 in
    let some : 0 < length outputs.seats.items = omega (arith, all, seats, count, len) in
    let here : length outputs.seats.items ≡ board.workers = omega (arith, all, seats, workers, len) in
    let each = length-map outputs.seats.items (λ (s : SeatState). s.worker) in
    let alone = one_race board (workers_of outputs.seats.items) c.close.result.count c.close.result.recorded c.close.ensures.race
    (omega (arith, each, here)) in
    let is_whole = gathered_whole board jobs outputs c.work_all-outputs.ensures.outputs c.close.ensures.completed
    c.in_ok-board.ensures.board.0 some here c.if-failed.false in
    record {
      workers = workers_of outputs.seats.items;
      draws = c.close.result.count;
      many = omega (arith, each, here, workers);
      numbers = subst (λ (n : ℕ). AreNumbersBelow n (workers_of outputs.seats.items)) workers alone.0;
      lawful = subst (λ (ps : List ℕ). IsLawful ps c.close.result.count (workers_of outputs.seats.items))
          c.in_ok-board.ensures.board.0 alone.1;
      is_whole = is_whole;
      rows = whole_rows c.recall.ensures.cover jobs (map result_of c.in_ok-join_jobs.field-0.items) c.in_ok-join_jobs.ensures;
      spent = whole_spent c.recall.ensures.cover jobs (workers_of outputs.seats.items) is_whole;
    }

pub returns-clause-results : goal.returns-clause-results
returns-clause-results g c = (c.in_ok-join_jobs.ensures, raced g c)
