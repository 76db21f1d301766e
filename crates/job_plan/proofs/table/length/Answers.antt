use Rattle.std.proofs.Common.{arith}
use Rattle.bpf_run.proofs.Calling.{few_steps}
use Rattle.job_plan.proofs.table.length.Goals as goal

pub returns-clause-few : goal.returns-clause-few
returns-clause-few c =
    let f = few_steps c.args.operator.now c.recall.ensures in
    omega (arith, f, c.len.ensures)
