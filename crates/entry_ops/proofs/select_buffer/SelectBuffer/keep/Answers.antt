use Rattle.std.proofs.Common.{ap, ◌∙◌, ◌++◌, ◌∷◌, [], if◌then◌else◌, rules}
use Rattle.std.specs.Result.{is_ok}
use Rattle.entry_ops.specs.declared.select_buffer.Mark.TheVariants.{Selected}
use Rattle.entry_ops.proofs.SelectBuffer.{does-keep, marked}
use Rattle.entry_ops.proofs.Standing.{on_err}
use Rattle.entry_ops.proofs.select_buffer.SelectBuffer.keep.Goals as goal

pub returns : goal.returns
returns c =
    let ms = c.self.inside.marks.items in
    let pushed = c.push.ensures.items
    ∙ ap (λ r. if is_ok r then ms ++ Selected c.args.column c.args.word ∷ [] else ms) c.unwrap.ensures in
    record {
      does = does-keep c.args.operator.now c.args.self.now c.make_room.new.self _ c.args.calls.now c.make_room.new.calls _
          c.in_ok-make_room.ensures.puts.does
          c.args.column c.args.word c.args.operands c.requires.can.fits (marked c.self.inside.rows ms _ c.self.inside.steps
          c.make_room.new.self (Selected c.args.column c.args.word) c.self.view_is pushed) c.gather.ensures;
      spent = tt;
    }

pub returns-in_err-make_room : goal.returns-in_err-make_room
returns-in_err-make_room c = record {
  does = search rules;
  spent = on_err c.from_residual.result
      c.in_err-make_room.ensures.puts.spent;
}
