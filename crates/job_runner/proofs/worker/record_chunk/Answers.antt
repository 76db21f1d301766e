use Rattle.std.proofs.Common.{◌∙◌, refl}
use Rattle.job_runner.specs.Chunk.{calls_of}
use Rattle.job_runner.proofs.Charged.{charged_chunk}
use Rattle.job_runner.proofs.Costs.{chunk_there, price_there}
use Rattle.job_runner.proofs.Joined.{steps-of-chunk, chunk_at_most}
use Rattle.job_runner.proofs.worker.record_chunk.Goals as goal

pub complete-requires-clause-price : goal.complete-requires-clause-price
complete-requires-clause-price c =
    let jobs = c.args.task.plan.now in
    let chunk = c.args.chunk in
    let steps = c.args.computed.steps in
    let made = c.requires.computed.1 in
    price_there jobs chunk steps c.args.task.board.now.prices c.requires.prices c.recall.ensures.within c.requires.computed.0
    (chunk_at_most jobs chunk steps c.args.computed.result made.steps made.spent)

pub fail-requires-clause-price : goal.fail-requires-clause-price
fail-requires-clause-price c =
    let jobs = c.args.task.plan.now in
    let chunk = c.args.chunk in
    let steps = c.args.computed.steps in
    let made = c.requires.computed.1 in
    price_there jobs chunk steps c.args.task.board.now.prices c.requires.prices c.recall.ensures.within c.requires.computed.0
    (chunk_at_most jobs chunk steps c.args.computed.result made.steps made.spent)

pub returns-in-Ok : goal.returns-in-Ok
returns-in-Ok c =
    let jobs = c.args.task.plan.now in
    let chunk = c.args.chunk in
    let made = c.requires.computed.1 in
    let put = c.in-Ok.ensures.put in
    let rows = rw put.1 at made.rows in
    let all = rw put.1 at made.steps in
    let just = all ∙ steps-of-chunk jobs chunk in
    record {
      own = c.complete.ensures.own;
      recorded = c.complete.ensures.completed;
      put = record {
        piece = record { chunk = chunk; rows = put.0; steps = c.args.computed.steps };
        right = record { there = chunk_there jobs chunk c.requires.computed.0; rows = rows; steps = just };
        chunk_is = refl;
        steps_is = refl;
        put = put.2;
      };
      just = just;
    }

pub returns-in-Err : goal.returns-in-Err
returns-in-Err c =
    let jobs = c.args.task.plan.now in
    let chunk = c.args.chunk in
    let made = c.requires.computed.1 in
    record {
      own = c.fail.ensures.own;
      recorded = c.fail.ensures.failed;
      unchanged = c.in-Err.ensures.unchanged;
      charged = charged_chunk (calls_of jobs chunk) c.args.computed.steps c.args.computed.result made.steps made.spent;
    }
