use Rattle.session.proofs.session_tests.talk.Given as goal

abbrev pub ghosts-serve_over-C-Ledger : goal.ghosts-serve_over-C-Ledger
ghosts-serve_over-C-Ledger g a = record { name = a.blanks.0.name; parts = a.blanks.0.parts }

abbrev pub ghosts-serve_over-F-Ledger : goal.ghosts-serve_over-F-Ledger
ghosts-serve_over-F-Ledger g a = record { name = a.blanks.1.name; parts = a.blanks.1.parts }

abbrev pub ghosts-serve_over-W-Ledger : goal.ghosts-serve_over-W-Ledger
ghosts-serve_over-W-Ledger g a = record { name = a.blanks.2.name; parts = a.blanks.2.parts }

abbrev pub ghosts-serve_over-D-Ledger : goal.ghosts-serve_over-D-Ledger
ghosts-serve_over-D-Ledger g a = record { name = a.blanks.3.name; parts = a.blanks.3.parts }
