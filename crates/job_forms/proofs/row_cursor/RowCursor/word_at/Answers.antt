use Rattle.std.proofs.Common.{ap, ◌∙◌}
use Rattle.job_forms.specs.inner.Cursor.{first_column}
use Rattle.job_forms.proofs.Cursor.{none_here}
use Rattle.job_forms.proofs.row_cursor.RowCursor.word_at.Goals as goal

pub returns-then-self-column : goal.returns-then-self-column
returns-then-self-column c n h =
    none_here n c.args.column c.args.self.now h (λ e. c.if-self-column.true (c.self.invariant ∙ (ap first_column c.self.view_is ∙ e)))
