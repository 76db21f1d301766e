-- What the parser of a line answers, as what the line asks for (this project's own).
use Rattle.std.specs.Prelude.{ℕ, List}
use Rattle.std.specs.Option.{option_map}
use Rattle.command_text.specs.Requests.{Command, Header, Request, MatrixHeader, OpHeader, AsmHeader, Plain, Body, Fatal}
use Rattle.command_text.specs.Requests as is
use Rattle.command_text.specs.declared.request as code
use Rattle.command_text.specs.declared.name.Name.{Name}
use Rattle.command_text.specs.declared.submission.Submission.{Submission}
use Rattle.job_plan.specs.Form.{mapped}
use Rattle.job_plan.specs.declared.form.Form as forms
use Rattle.command_text.specs.declared.request.Command.TheVariants as c
use Rattle.command_text.specs.declared.request.Header.TheVariants as h
use Rattle.command_text.specs.declared.request.Request.TheVariants as r

abbrev pub name_of : Name → List ℕ
name_of name = name.text.now

abbrev pub form_of : forms.Form Name Name → is.Form
form_of = mapped name_of name_of

abbrev pub submission_of : Submission → is.Submission
submission_of s = record { output = name_of s.output; form = form_of s.form; mask = option_map name_of s.mask }

abbrev pub command_of : code.Command.Command → Command
command_of c.Blank = is.Blank
command_of (c.Submit submission) = is.Submit (submission_of submission)
command_of c.Run = is.Run
command_of (c.Show name) = is.Show (name_of name)
command_of (c.Types name) = is.Types (name_of name)
command_of (c.Dis name) = is.Dis (name_of name)
command_of c.Budget = is.Budget
command_of c.Quit = is.Quit
command_of (c.Refuse rule) = is.Refuse rule

abbrev pub header_of : code.Header.Header → Header
header_of (h.Matrix name) = MatrixHeader name.now
header_of (h.Op name kind) = OpHeader name.now kind.now
header_of (h.Asm name kind) = AsmHeader name.now kind.now

abbrev pub request_of : code.Request.Request → Request
request_of (r.Plain command) = Plain (command_of command)
request_of (r.Body header len) = Body (header_of header) len
request_of (r.Fatal rule) = Fatal rule
