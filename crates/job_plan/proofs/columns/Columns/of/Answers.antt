use Rattle.std.proofs.Common.{◌∙◌, None, List, Option, ℕ, length, refl, sym, subst, replicate, arith}
use Rattle.std.proofs.lemmas.List.{length-set, length-replicate}
use Rattle.std.proofs.lemmas.Option.{slice_get_read}
use Rattle.csr_store.specs.Grid.{Grid}
use Rattle.job_plan.specs.inner.Copies.{AreFor}
use Rattle.job_plan.proofs.Copies.{for_none, for_more}
use Rattle.job_plan.proofs.columns.Columns.of.Goals as goal

pub loop-job-init : goal.loop-job-init
loop-job-init c = record {
  placed = subst (λ (gs : List Grid). AreFor c.args.jobs.now gs (replicate {A = Option ℕ} 64 None)) (sym c.new-copies.ensures.items)
      (for_none c.args.jobs.now);
  wide = length-replicate {A = Option ℕ} 64 None;
}

pub loop-job-preserved : goal.loop-job-preserved
loop-job-preserved c =
    let k = c.loop-job.job in
    let job = c.index-jobs-job.result in
    let jobs = c.args.jobs.now in
    let places = c.loop-job.places in
    let now = c.loop-job.invariant in
    let test = c.loop-job-test.true in
    let few = c.requires in
    let wide = now.wide in
    record {
      placed = for_more jobs c.loop-job.copies.items c.place_for.new.copies.items places k job c.place_for.result now.placed
          c.place_for.ensures (slice_get_read jobs (length jobs) k job refl (omega (arith, test)) c.index-jobs-job.is)
          (omega (arith, test, few, wide));
      wide = length-set places k c.place_for.result ∙ now.wide;
    }
