use Rattle.race_board.proofs.race_key.Prices.of.Given as goal

abbrev pub ghost-for_proof : goal.ghost-for_proof
ghost-for_proof g a = g.prices
