use Rattle.race_board.proofs.board.Board.open.Given as goal

abbrev pub ghost-of : goal.ghost-of
ghost-of g a = g.P.PricedChunks.prices a._source
