-- A job's line as it is handed over (this project's own).
use Rattle.command_text.specs.Replies as is
use Rattle.command_text.specs.declared.replies.JobLine.{JobLine}

abbrev pub line_of : JobLine → is.JobLine
line_of job = record { output = job.output.now; rows = job.rows; columns = job.columns; entries = job.entries; steps = job.steps }
