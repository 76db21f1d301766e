use Rattle.race_board.proofs.crew.Crew.draw.Given as goal

abbrev pub ghosts-draw_at : goal.ghosts-draw_at
ghosts-draw_at a = record { prices = a.table.now.shared.key.prices.each }
