use Rattle.std.proofs.Common.{◌++◌, ap, sym, ◌∙◌, subst, append-nil}
use Rattle.std.specs.List.{AllByRecursion}
use Rattle.race_board.specs.Race.{Worker}
use Rattle.bpf_run.proofs.Charging.{charges-none}
use Rattle.job_runner.specs.Chunk.{calls_of}
use Rattle.job_runner.specs.Worked.{recorded, IsPieceOf}
use Rattle.job_runner.proofs.Costs.{chunk_listed, chunk_there}
use Rattle.job_runner.proofs.Working.{fail_steps}
use Rattle.job_runner.proofs.worker.fail_first.Goals as goal

pub returns : goal.returns
returns g c =
    let jobs = c.args.task.plan.now in
    let chunk = c.in-Some.chunk in
    let drew = c.in-Some.ensures.chunk.1 in
    let fails = c.fail.ensures.failed in
    let none = c.new-2.ensures in
    let listed = chunk_listed jobs chunk c.args.task.board.now.prices c.requires.prices c.in-Some.ensures.chunk.0 in
    record {
      own = c.fail.ensures.own;
      number = ap (λ (w : Worker). w.number) fails ∙ ap (λ (w : Worker). w.number) drew;
      gained = ap (λ (w : Worker). w.done) fails ∙ ap (λ (w : Worker). w.done) drew
          ∙ sym (append-nil c.args.seat.now.worker.done)
          ∙ ap (λ ps. c.args.seat.now.worker.done ++ recorded ps) (sym none.items);
      pieces = subst (AllByRecursion (IsPieceOf jobs)) (sym none.items) tt;
      stands = (chunk, 0, ap (λ (w : Worker). w.state) fails, chunk_there jobs chunk listed, charges-none (calls_of jobs chunk) 0);
      spent = fail_steps c.args.seat.now.worker c.draw.new.seat.worker c.fail.new.seat.worker chunk 0 c.requires.ready.1 drew fails;
    }
