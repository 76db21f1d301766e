use Rattle.std.proofs.Common.{◌≡◌, ◌*◌, ℕ, ap, ◌∙◌}
use Rattle.job_plan.specs.Job.{Form}
use Rattle.job_plan.specs.Forms.{operation}
use Rattle.job_plan.specs.Meaning.{row_count}
use Rattle.job_plan.proofs.Covering.{cutting_more, the_rows}
use Rattle.job_plan.proofs.plan.cut_job.Goals as goal

pub loop-number-preserved : goal.loop-number-preserved
loop-number-preserved c =
    let job = c.args.job.now in
    let number = c.loop-number.number in
    let rows : c.rows-rows.result ≡ row_count job =
    c.rows-rows.ensures.rows ∙ ap (λ (f : Form). (operation f).rows) c.form.ensures in
    cutting_more c.args.nth job _ _ _ number _ c.loop-number.invariant
    (ap (λ (m : ℕ). record { job = c.args.nth; first = 256 * number; last = m }) c.min-last.ensures
    ∙ the_rows c.args.nth job number c.rows-rows.result rows)
    c.in_ok-push.ensures.items
