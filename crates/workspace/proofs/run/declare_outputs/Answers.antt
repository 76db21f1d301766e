use Rattle.std.proofs.Common.{IsTrue, get_or, ◌∙◌, rules, arith}
use Rattle.workspace.specs.inner.Names.{is_declared}
use Rattle.job_plan.specs.Job.{Job}
use Rattle.workspace.proofs.Running.{each_more}
use Rattle.workspace.proofs.run.declare_outputs.Goals as goal

pub loop-job-preserved : goal.loop-job-preserved
loop-job-preserved c = record {
  declared = each_more (λ (job : Job). IsTrue (is_declared c.declare.new.self.declared job.output)) c.args.jobs.now c.loop-job.job-index c.job-item.result
      c.loop-job-test.true c.job-item.is
      (λ k q d. c.in_ok-declare.ensures.unchanged (get_or c.args.jobs.now k d).output (c.loop-job.invariant.declared k q d))
      (search rules);
  same = λ name. c.in_ok-declare.ensures.same name ∙ c.loop-job.invariant.same name;
}

pub returns-clause-declared : goal.returns-clause-declared
returns-clause-declared c = λ k d q. c.loop-job.invariant.declared k (let e = c.loop-job-test.false in omega arith) d
