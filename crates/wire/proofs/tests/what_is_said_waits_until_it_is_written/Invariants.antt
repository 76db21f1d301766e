use Rattle.wire.proofs.tests.what_is_said_waits_until_it_is_written.Given as goal

abbrev pub ghosts-say_two-C-Ledger : goal.ghosts-say_two-C-Ledger
ghosts-say_two-C-Ledger g a = record { name = a.blanks.0.name; parts = a.blanks.0.parts }

abbrev pub ghosts-say_two-F-Ledger : goal.ghosts-say_two-F-Ledger
ghosts-say_two-F-Ledger g a = record { name = a.blanks.1.name; parts = a.blanks.1.parts }
