use Rattle.std.proofs.Common.{arith, rules}
use Rattle.matrix_market.proofs.LineParts.{put_before}
use Rattle.matrix_market.proofs.line_writer.write_label.Goals as goal

pub returns-clause-written : goal.returns-clause-written
returns-clause-written c =
    let w = c.args.label.now.within in
    put_before c.args.end c.args.label.now.start c.args.buffer.now c.args.label.now.bytes c.copy_from_slice.new.self _
    (omega arith) (omega arith) (omega arith) (search rules) c.copy_from_slice.ensures.after c.args.label.now.text
