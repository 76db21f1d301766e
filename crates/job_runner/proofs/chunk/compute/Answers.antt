use Rattle.std.proofs.Common.{◌≡◌, ◌-◌, ℕ, List, [], Some, length, get_or, ap, sym, ◌∙◌, subst, arith}
use Rattle.std.proofs.lemmas.Option.{slice_get_within, get_or_from_slice_get}
use Rattle.bpf_run.specs.Calls.{Call}
use Rattle.csr_store.specs.Run.{Run}
use Rattle.job_plan.specs.Chunks.{Chunk}
use Rattle.job_plan.specs.Job.{Job}
use Rattle.job_plan.specs.Meaning.{column_count, rows_in}
use Rattle.job_forms.specs.Region.{IsMade}
use Rattle.job_runner.specs.Chunk.{calls_of}
use Rattle.job_runner.proofs.Located.{Place, located, place_within, place_ordered, place_rows, place_run, place_calls}
use Rattle.job_runner.proofs.chunk.compute.Goals as goal

pub offset_bounds-jobs-job : goal.offset_bounds-jobs-job
offset_bounds-jobs-job c =
    let p = located 0 c.args.plan.now c.args.chunk _ c.chunk_rows-job.ensures.is in
    let w = slice_get_within c.args.plan.now c.chunk_rows-job.result.0 p.job (place_within c.args.plan.now c.args.chunk _ p) in
    let f = c.jobs-jobs.ensures.few in
    omega (arith, w, f)

pub bounds-jobs-job : goal.bounds-jobs-job
bounds-jobs-job c =
    let p = located 0 c.args.plan.now c.args.chunk _ c.chunk_rows-job.ensures.is in
    let w = slice_get_within c.args.plan.now c.chunk_rows-job.result.0 p.job (place_within c.args.plan.now c.args.chunk _ p) in
    let e = ap length c.jobs-jobs.ensures.jobs in
    omega (arith, w, e)

pub compute_rows-requires-clause-range : goal.compute_rows-requires-clause-range
compute_rows-requires-clause-range c =
    let p = located 0 c.args.plan.now c.args.chunk _ c.chunk_rows-job.ensures.is in
    place_ordered c.args.plan.now c.args.chunk _ p

-- the job that is asked for
same_job : (jobs borrowed : List Job) (c : ℕ) (x : Chunk) (p : Place 0 jobs c x) (found job : Job) → borrowed ≡ jobs
    → found ≡ get_or borrowed x.job found → job ≡ found → job ≡ p.job
same_job jobs borrowed c x p found job b f e =
    e ∙ f ∙ ap (λ js. get_or js x.job found) b ∙ get_or_from_slice_get jobs x.job p.job found (place_within jobs c x p)

-- what is lent is for that job
pub compute_rows-requires-clause-column : goal.compute_rows-requires-clause-column
compute_rows-requires-clause-column c =
    let p = located 0 c.args.plan.now c.args.chunk _ c.chunk_rows-job.ensures.is in
    let e = same_job c.args.plan.now c.jobs-jobs.result.now c.args.chunk _ p c.index-jobs-job.result c.job.result.now
    c.jobs-jobs.ensures.jobs
    c.index-jobs-job.is c.job.ensures.job in
    c.column.ensures c.job.result.now (place_within c.args.plan.now c.args.chunk _ p ∙ ap (λ (j : Job). Some j) (sym e))

pub compute_rows-requires-clause-within : goal.compute_rows-requires-clause-within
compute_rows-requires-clause-within c =
    let p = located 0 c.args.plan.now c.args.chunk _ c.chunk_rows-job.ensures.is in
    place_rows c.args.plan.now c.args.chunk _ c.job.result.now p
    (same_job c.args.plan.now c.jobs-jobs.result.now c.args.chunk _ p c.index-jobs-job.result c.job.result.now
    c.jobs-jobs.ensures.jobs
    c.index-jobs-job.is c.job.ensures.job)

pub returns : goal.returns
returns c =
    let jobs = c.args.plan.now in
    let job = c.job.result.now in
    let range = c.chunk_rows-job.result.1 in
    let p = located 0 jobs c.args.chunk _ c.chunk_rows-job.ensures.is in
    let e = same_job jobs c.jobs-jobs.result.now c.args.chunk _ p c.index-jobs-job.result job c.jobs-jobs.ensures.jobs
    c.index-jobs-job.is c.job.ensures.job in
    let run : Run = record {
      first = range.start;
      columns = column_count job;
      ended = rows_in job range.start (range.end - range.start);
      opened = [];
    } in
    subst (λ (r : Run). IsMade r (calls_of jobs c.args.chunk) c.compute_rows.result) (place_run jobs c.args.chunk _ job p e)
    (subst (λ (calls : List Call). IsMade run calls c.compute_rows.result) (place_calls jobs c.args.chunk _ job p e)
    c.compute_rows.ensures)
