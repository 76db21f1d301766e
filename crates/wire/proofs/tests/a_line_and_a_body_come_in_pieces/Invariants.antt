use Rattle.wire.proofs.tests.a_line_and_a_body_come_in_pieces.Given as goal

abbrev pub ghosts-read_from-C-Ledger : goal.ghosts-read_from-C-Ledger
ghosts-read_from-C-Ledger g a = record { name = a.counts.0.name; parts = a.counts.0.parts }

abbrev pub ghosts-read_from-F-Ledger : goal.ghosts-read_from-F-Ledger
ghosts-read_from-F-Ledger g a = record { name = a.counts.1.name; parts = a.counts.1.parts }

abbrev pub ghosts-read_from-W-Ledger : goal.ghosts-read_from-W-Ledger
ghosts-read_from-W-Ledger g a = record { name = a.counts.2.name; parts = a.counts.2.parts }

abbrev pub ghosts-read_from-D-Ledger : goal.ghosts-read_from-D-Ledger
ghosts-read_from-D-Ledger g a = record { name = a.counts.3.name; parts = a.counts.3.parts }
