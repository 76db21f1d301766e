use Rattle.std.proofs.Common.{◌+◌, refl}
use Rattle.std.specs.Str.Lines.{lines}
use Rattle.matrix_market.proofs.Gathering.{adds_line, found_inside}
use Rattle.text_words.specs.Words.{words}
use Rattle.matrix_market.specs.Market.{entry_words}
use Rattle.matrix_market.proofs.Reading.{entry_fault, long_entry, too_few}
use Rattle.matrix_market.proofs.gather.gather_line.Goals as goal

pub returns-in-End-clause-fault : goal.returns-in-End-clause-fault
returns-in-End-clause-fault c = λ text g given filled few.
    let e = c.in-End.ensures in
    too_few text c.args.cursor.rest.now c.args.header.banner c.args.header.size g c.args.cursor.at c.in-End.line (c.in-End.line + 1) given filled few e.0 refl

pub returns-in-TooLong-clause-fault : goal.returns-in-TooLong-clause-fault
returns-in-TooLong-clause-fault c = λ text g given filled few.
    let e = c.in-TooLong.ensures in
    long_entry text c.args.cursor.rest.now c.args.header.banner c.args.header.size g c.args.cursor.at e.0 c.in-TooLong.line given e.1 e.2 filled e.3 e.4 e.5

pub returns-in_ok-push_entry-in-Ok-clause-added : goal.returns-in_ok-push_entry-in-Ok-clause-added
returns-in_ok-push_entry-in-Ok-clause-added c =
    let e = c.in-Line.ensures in
    adds_line c.args.header c.args.list.now c.push_entry.new.list c.args.cursor.rest.now c.in-Line.behind.rest.now c.args.cursor.at e.0 c.in-Line.behind.at c.in-Line.content.now c.in-Ok.found
    e.1 e.2 e.3 e.4 c.in-Ok.ensures c.in_ok-push_entry-in-Ok.ensures

pub returns-in-Err-clause-fault : goal.returns-in-Err-clause-fault
returns-in-Err-clause-fault c = λ text g given filled few.
    let e = c.in-Line.ensures in
    entry_fault text c.args.cursor.rest.now c.args.header.banner c.args.header.size g c.args.cursor.at e.0 c.in-Line.behind.at given c.in-Line.content.now (lines c.in-Line.behind.rest.now) c.in-Err.rule filled few
    e.1 e.2 e.3 e.4 c.in-Err.ensures

pub push_entry-requires-clause-row : goal.push_entry-requires-clause-row
push_entry-requires-clause-row c = (found_inside c.args.header.size (entry_words c.args.header.banner.pattern (words c.in-Line.content.now)) c.in-Ok.found c.in-Ok.ensures).0

pub push_entry-requires-clause-column : goal.push_entry-requires-clause-column
push_entry-requires-clause-column c = (found_inside c.args.header.size (entry_words c.args.header.banner.pattern (words c.in-Line.content.now)) c.in-Ok.found c.in-Ok.ensures).1
