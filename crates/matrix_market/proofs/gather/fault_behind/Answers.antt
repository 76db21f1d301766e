use Rattle.std.proofs.Common.{refl}
use Rattle.std.specs.Str.Lines.{lines}
use Rattle.matrix_market.proofs.Reading.{long_entry, too_many, whole}
use Rattle.matrix_market.proofs.gather.fault_behind.Goals as goal

pub returns-in-End : goal.returns-in-End
returns-in-End c = λ text b s g given filled all.
    let e = c.in-End.ensures in whole text c.args.cursor.rest.now b s g g c.args.cursor.at c.in-End.field-0 given filled all e.0 refl

pub returns-in-TooLong : goal.returns-in-TooLong
returns-in-TooLong c = λ text b s g given filled all.
    let e = c.in-TooLong.ensures in long_entry text c.args.cursor.rest.now b s g c.args.cursor.at e.0 c.in-TooLong.line given e.1 e.2 filled e.3 e.4 e.5

pub returns-in-Line : goal.returns-in-Line
returns-in-Line c = λ text b s g given filled all.
    let e = c.in-Line.ensures in
    too_many text c.args.cursor.rest.now b s g c.args.cursor.at e.0 c.in-Line.behind.at given c.in-Line.field-0.now (lines c.in-Line.behind.rest.now) filled all e.1 e.2 e.3 e.4
