use Rattle.wire.proofs.tests.a_text_is_written_whole_or_not.Given as goal

abbrev pub ghosts-write_to-C-Ledger : goal.ghosts-write_to-C-Ledger
ghosts-write_to-C-Ledger g a = record { name = a.writes.name; parts = a.writes.parts }

abbrev pub ghosts-write_to-F-Ledger : goal.ghosts-write_to-F-Ledger
ghosts-write_to-F-Ledger g a = record { name = a.failures.name; parts = a.failures.parts }
