use Rattle.std.proofs.Common.{◌≡◌, ◌≤◌, ◌-◌, ℕ, List, Some, length, get_or, ap, sym, ◌∙◌, subst, arith}
use Rattle.std.specs.Prelude.{slice_get}
use Rattle.std.proofs.lemmas.Option.{slice_get_within, get_or_from_slice_get}
use Rattle.job_plan.specs.Chunks.{IsChunkAt, IsChunkOf, plan_chunks}
use Rattle.job_plan.specs.Job.{Job}
use Rattle.job_plan.specs.Meaning.{row_count}
use Rattle.job_plan.specs.Price.{price_in}
use Rattle.job_plan.specs.Refusal.{IsPriced}
use Rattle.job_plan.proofs.Faults.{passes}
use Rattle.job_plan.proofs.plan.Plan.chunk.Goals as goal

pub offset_bounds-jobs-job : goal.offset_bounds-jobs-job
offset_bounds-jobs-job c =
    let at = c.chunk_rows-job.ensures in
    let w = slice_get_within c.args.self.now c.chunk_rows-job.result.0 at.right.job at.right.is in
    let f = c.jobs-jobs.ensures.few in
    omega (arith, w, f)

pub bounds-jobs-job : goal.bounds-jobs-job
bounds-jobs-job c =
    let at = c.chunk_rows-job.ensures in
    let w = slice_get_within c.args.self.now c.chunk_rows-job.result.0 at.right.job at.right.is in
    let e = ap length c.jobs-jobs.ensures.jobs in
    omega (arith, w, e)

-- the job that is found is that of the chunk
same_job : (jobs borrowed : List Job) (c k first last : ℕ) (at : IsChunkAt jobs c k first last) (found job : Job) → borrowed ≡ jobs
    → found ≡ get_or borrowed k found → job ≡ found → job ≡ at.right.job
same_job jobs borrowed c k first last at found job b f e =
    e ∙ f ∙ ap (λ js. get_or js k found) b ∙ get_or_from_slice_get jobs k at.right.job found at.right.is

-- whose price is that of its rows
same_price : (jobs : List Job) (c k first last : ℕ) (at : IsChunkAt jobs c k first last) (job : Job) (price : ℕ) → job ≡ at.right.job
    → price ≡ price_in job first (last - first) → at.price ≡ price
same_price jobs c k first last at job price e is =
    at.right.priced ∙ ap (λ (j : Job). price_in j first (last - first)) (sym e) ∙ sym is

pub price_of_rows-price-requires-clause-passes : goal.price_of_rows-price-requires-clause-passes
price_of_rows-price-requires-clause-passes c = passes c.job.result.now (subst IsPriced (sym c.job.ensures.job) c.job.ensures.priced)

pub price_of_rows-price-requires-clause-within : goal.price_of_rows-price-requires-clause-within
price_of_rows-price-requires-clause-within c =
    let at = c.chunk_rows-job.ensures in
    let e = same_job c.args.self.now c.jobs-jobs.result.now c.args.c _ _ _ at c.index-jobs-job.result c.job.result.now
    c.jobs-jobs.ensures.jobs c.index-jobs-job.is c.job.ensures.job in
    subst (λ (j : Job). c.chunk_rows-job.result.1.end ≤ row_count j) (sym e) at.right.within

pub returns-clause-chunk : goal.returns-clause-chunk
returns-clause-chunk c =
    let at = c.chunk_rows-job.ensures in
    let e = same_job c.args.self.now c.jobs-jobs.result.now c.args.c _ _ _ at c.index-jobs-job.result c.job.result.now
    c.jobs-jobs.ensures.jobs c.index-jobs-job.is c.job.ensures.job in
    let same = same_price c.args.self.now c.args.c _ _ _ at c.job.result.now c.price_of_rows-price.result e
    c.price_of_rows-price.ensures in
    subst (λ (p : ℕ). slice_get (plan_chunks c.args.self.now) c.args.c ≡ Some (record {
      job = c.chunk_rows-job.result.0;
      first = c.chunk_rows-job.result.1.start;
      last = c.chunk_rows-job.result.1.end;
      price = p;
    })) same at.is

pub returns-clause-rows : goal.returns-clause-rows
returns-clause-rows c =
    let at = c.chunk_rows-job.ensures in
    let e = same_job c.args.self.now c.jobs-jobs.result.now c.args.c _ _ _ at c.index-jobs-job.result c.job.result.now
    c.jobs-jobs.ensures.jobs c.index-jobs-job.is c.job.ensures.job in
    let same = same_price c.args.self.now c.args.c _ _ _ at c.job.result.now c.price_of_rows-price.result e
    c.price_of_rows-price.ensures in
    subst (λ (p : ℕ). IsChunkOf c.args.self.now (record {
      job = c.chunk_rows-job.result.0;
      first = c.chunk_rows-job.result.1.start;
      last = c.chunk_rows-job.result.1.end;
      price = p;
    })) same at.right
