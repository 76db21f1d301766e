use Rattle.std.proofs.Common.{sym, ◌∙◌}
use Rattle.race_board.proofs.Words.{first_word, second_word}
use Rattle.race_board.proofs.board.end_without_seats.Goals as goal

pub returns-clause-held : goal.returns-clause-held
returns-clause-held c =
    let f = c.close-closed.ensures.values.2 in
    let h = f.1 in
    (f.0, h, first_word _ h.count h.spent _ (sym f.2 ∙ h.words) c.word.ensures, second_word _ h.count h.spent _ (sym f.2 ∙ h.words) c.word-2.ensures)
