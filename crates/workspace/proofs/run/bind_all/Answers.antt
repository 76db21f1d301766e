use Rattle.std.proofs.Common.{◌≡◌, IsTrue, map, length, sym, ap, ◌∙◌, subst, rules, arith}
use Rattle.std.specs.Iterator.Adapters.{zip_first, zip_second}
use Rattle.std.specs.Slice.Iter.{iter_rest}
use Rattle.std.specs.Vec.Iter.{into_iter_items, into_iter_len}
use Rattle.job_runner.specs.Batch.{result_of}
use Rattle.workspace.specs.inner.Names.{is_declared}
use Rattle.workspace.specs.inner.Outputs.{AreDeclared, grid_at}
use Rattle.job_plan.specs.Job.{Job}
use Rattle.workspace.specs.Turn.{all_bound}
use Rattle.workspace.proofs.Running.{declared_first, declared_behind, next_bound, none_bound, zip_next, zip_done}
use Rattle.workspace.proofs.run.bind_all.Goals as goal

pub bind-requires : goal.bind-requires
bind-requires c =
    let turn = zip_next c.loop-job.job-iterator c.next.new.self c.next.result c.in-Some.job c.in-Some.result c.in-Some.is c.next.ensures.steps in
    subst (λ name. IsTrue (is_declared c.loop-job.matrices.declared name)) (sym (c.output.ensures ∙ ap (λ (j : Job). j.output) c.job.ensures.job))
    (declared_first c.loop-job.matrices.declared c.in-Some.job.now (iter_rest (zip_first c.loop-job.job-iterator)) (iter_rest (zip_first c.next.new.self)) turn.0 c.loop-job.invariant.declared)

pub loop-job-init : goal.loop-job-init
loop-job-init c =
    let it = c.into_iter-job-iterator.result in
    let whole = c.into_iter-job-iterator.ensures.into_iter_gives in
    let first : iter_rest (zip_first it) ≡ c.args.jobs.now = ap (λ z. iter_rest (zip_first z)) whole ∙ (ap iter_rest c.zip-job-items.ensures.first ∙ c.iter.ensures.rest) in
    let second : into_iter_items (zip_second it) ≡ c.args.results.items = ap (λ z. into_iter_items (zip_second z)) whole ∙ c.zip-job-items.ensures.second.0 in
    let names = grid_at c.args.matrices.now.declared in
    record {
      can_next = search rules;
      is_finite = search rules;
      same = ap length first ∙ (c.requires.same ∙ sym (ap (λ z. into_iter_len (zip_second z)) whole ∙ c.zip-job-items.ensures.second.1));
      declared = subst (AreDeclared c.args.matrices.now.declared) (sym first) c.requires.declared;
      bound = ap (λ jobs. all_bound names jobs (map result_of (into_iter_items (zip_second it)))) first
          ∙ ap (λ results. all_bound names c.args.jobs.now (map result_of results)) second;
    }

pub loop-job-preserved : goal.loop-job-preserved
loop-job-preserved c =
    let s = c.loop-job.job-iterator in
    let t = c.next.new.self in
    let turn = zip_next s t c.next.result c.in-Some.job c.in-Some.result c.in-Some.is c.next.ensures.steps in
    let m = c.loop-job.matrices.declared in
    let n = c.bind.new.self.declared in
    record {
      can_next = search rules;
      is_finite = search rules;
      same = let l = ap length turn.0 in let k = turn.2 in let i = c.loop-job.invariant.same in omega arith;
      declared = declared_behind m n c.bind.ensures.unchanged c.in-Some.job.now (iter_rest (zip_first s)) (iter_rest (zip_first t)) turn.0 c.loop-job.invariant.declared;
      bound =
          next_bound m n c.in-Some.job.now (iter_rest (zip_first s)) (iter_rest (zip_first t)) c.in-Some.result (into_iter_items (zip_second s)) (into_iter_items (zip_second t)) turn.0 turn.1
          (λ other. rw (c.output.ensures ∙ ap (λ (j : Job). j.output) c.job.ensures.job) at (c.bind.ensures.bound other))
          ∙ c.loop-job.invariant.bound;
    }

pub returns : goal.returns
returns c =
    let s = c.loop-job.job-iterator in
    let none = zip_done s c.next.new.self c.next.result c.in-None.is c.next.ensures.steps c.loop-job.invariant.same in
    let same = sym (none_bound (grid_at c.loop-job.matrices.declared) (iter_rest (zip_first s)) (into_iter_items (zip_second s)) none) ∙ c.loop-job.invariant.bound in
    λ name. ap (λ names. names name) same
