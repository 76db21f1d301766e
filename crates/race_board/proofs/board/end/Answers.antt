use Rattle.std.proofs.Common.{sym, ◌∙◌}
use Rattle.race_board.proofs.Words.{first_word, second_word}
use Rattle.race_board.proofs.board.end.Goals as goal

pub returns-clause-held : goal.returns-clause-held
returns-clause-held c =
    let f = c.close_with-closed.ensures.values.2 in
    let h = f.1.0 in
    (f.0, c.args.all.table_seat.id, h, f.1.1, first_word _ h.count h.spent _ (sym f.2 ∙ h.words) c.word-count.ensures, second_word _ h.count h.spent _ (sym f.2 ∙ h.words) c.word-recorded.ensures)
