use Rattle.std.proofs.Common.{suc, ℕ, length, arith, rules, ◌≡◌, ◌⊎◌, inl, inr, List, [], ◌∷◌, ◌++◌, map, refl, sym, subst, ap, ◌∙◌}
use Rattle.std.specs.List.{flat_map}
use Rattle.std.proofs.lemmas.Slice.Zip.{either_empty_from_Zip}
use Rattle.std.specs.Iterator.Adapters.{zip_first, zip_second}
use Rattle.std.specs.Slice.Iter.{iter_rest}
use Rattle.std.proofs.lemmas.List.{length-map}
use Rattle.command_text.specs.ReplyText.{ReplyText}
use Rattle.command_text.specs.Replies.{job_text, run_line, run_text}
use Rattle.job_runner.specs.Batch as batch
use Rattle.job_runner.specs.Batch.{result_of}
use Rattle.workspace.specs.Queued.{AreNamed}
use Rattle.workspace.specs.Turn.{job_lines}
use Rattle.workspace.proofs.Running.{named_first, named_behind, line_more, zip_slices}
use Rattle.job_plan.specs.Job.{Job}
use Rattle.job_runner.specs.declared.answer.JobResult.{JobResult}
use Rattle.workspace.proofs.run.report.Goals as goal

-- where no job or no result is left, no line is
no_line_left : (jobs : List Job) (results : List JobResult) → (jobs ≡ []) ⊎ (results ≡ []) → flat_map job_text (job_lines jobs (map result_of results)) ≡ []
no_line_left [] results h = refl
no_line_left (job ∷ jobs) [] h = refl
no_line_left (job ∷ jobs) (e ∷ es) (inl h) = absurd (cc)
no_line_left (job ∷ jobs) (e ∷ es) (inr h) = absurd (cc)

-- there are as many lines as jobs
lines_count : (js : List Job) (rs : List batch.Result) → length js ≡ length rs → length (job_lines js rs) ≡ length js
lines_count [] rs e = refl
lines_count (j ∷ js) [] e = absurd (omega arith)
lines_count (j ∷ js) (r ∷ rs) e = ap suc (lines_count js rs (omega arith))

text_begun : (spent n : ℕ) (jobs first : List Job) (results second : List JobResult) (line : List ℕ) → line ≡ run_line n spent → n ≡ length jobs → length jobs ≡ length results → first ≡ jobs → second ≡ results
    → line ++ flat_map job_text (job_lines first (map result_of second)) ≡ run_text spent (job_lines jobs (map result_of results))
text_begun spent n jobs first results second line l e f p q =
    let count : n ≡ length (job_lines jobs (map result_of results)) =
    e ∙ sym (lines_count jobs (map result_of results) (f ∙ sym (length-map results result_of))) in
    ap (λ xs. line ++ flat_map job_text (job_lines xs (map result_of second))) p
    ∙ (ap (λ xs. line ++ flat_map job_text (job_lines jobs (map result_of xs))) q
    ∙ (ap (λ xs. xs ++ flat_map job_text (job_lines jobs (map result_of results))) (l ∙ ap (λ k. run_line k spent) count)))

pub loop-job-init : goal.loop-job-init
loop-job-init c =
    let it = c.into_iter-job-iterator.result in
    let whole = c.into_iter-job-iterator.ensures.into_iter_gives in
    let first : iter_rest (zip_first it) ≡ c.args.jobs.now = ap (λ z. iter_rest (zip_first z)) whole ∙ (ap iter_rest c.zip-job-items.ensures.first ∙ c.iter.ensures.rest) in
    let second : iter_rest (zip_second it) ≡ c.args.results.now = ap (λ z. iter_rest (zip_second z)) whole ∙ c.zip-job-items.ensures.second.0 in
    record {
      can_next = search rules;
      is_finite = search rules;
      written = text_begun c.args.spent (length c.args.jobs.now) c.args.jobs.now (iter_rest (zip_first it)) c.args.results.now (iter_rest (zip_second it)) c.begin_run.new.reply.line
          (ap (λ (r : ReplyText). r.line) c.begin_run.ensures.text) refl c.requires.same first second;
      named = subst AreNamed (sym first) c.requires.named;
      bare = ap (λ (r : ReplyText). r.text) c.begin_run.ensures.text;
      capacity = let n = ap length first in let few = c.requires.few in let short = c.begin_run.ensures.short in omega arith;
    }

pub returns : goal.returns
returns c =
    let left = c.loop-job.job-iterator in
    let none = no_line_left (iter_rest (zip_first left)) (iter_rest (zip_second left))
    (either_empty_from_Zip left c.next.new.self c.next.result c.in-None.is c.next.ensures.steps) in
    ap (λ xs. c.loop-job.reply.line ++ xs) (c.loop-job.invariant.bare ∙ sym none) ∙ c.loop-job.invariant.written

pub add_line-requires-clause-name : goal.add_line-requires-clause-name
add_line-requires-clause-name c =
    let turn = zip_slices c.loop-job.job-iterator c.next.new.self c.next.result c.in-Some.job c.in-Some.result c.in-Some.is c.next.ensures.steps in
    named_first c.in-Some.job.now (iter_rest (zip_first c.loop-job.job-iterator)) (iter_rest (zip_first c.next.new.self)) turn.0 c.loop-job.invariant.named

pub loop-job-preserved : goal.loop-job-preserved
loop-job-preserved c =
    let s = c.loop-job.job-iterator in
    let t = c.next.new.self in
    let turn = zip_slices s t c.next.result c.in-Some.job c.in-Some.result c.in-Some.is c.next.ensures.steps in
    record {
      can_next = search rules;
      is_finite = search rules;
      written = line_more c.loop-job.reply c.add_line.new.reply (iter_rest (zip_first s)) (iter_rest (zip_first t)) (iter_rest (zip_second s)) (iter_rest (zip_second t))
          c.in-Some.job.now c.in-Some.result.now _ c.add_line.ensures.value turn.0 turn.1 c.loop-job.invariant.written;
      named = named_behind c.in-Some.job.now (iter_rest (zip_first s)) (iter_rest (zip_first t)) turn.0 c.loop-job.invariant.named;
      bare = search rules;
      capacity =
          let n = ap length turn.0 in
          let short = c.add_line.ensures.short in
          let capacity = c.loop-job.invariant.capacity in
          omega (arith, n, short, capacity);
    }
