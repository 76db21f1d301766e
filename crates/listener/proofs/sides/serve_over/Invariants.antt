use Rattle.listener.proofs.sides.serve_over.Given as goal

abbrev pub ghosts-serve_counted-A-Ledger : goal.ghosts-serve_counted-A-Ledger
ghosts-serve_counted-A-Ledger g a = record { name = a.blanks.0.name; parts = a.blanks.0.parts }

abbrev pub ghosts-serve_counted-B-Ledger : goal.ghosts-serve_counted-B-Ledger
ghosts-serve_counted-B-Ledger g a = record { name = a.blanks.1.name; parts = a.blanks.1.parts }

abbrev pub ghosts-serve_counted-C-Ledger : goal.ghosts-serve_counted-C-Ledger
ghosts-serve_counted-C-Ledger g a = record { name = a.blanks.2.name; parts = a.blanks.2.parts }

abbrev pub ghosts-serve_counted-D-Ledger : goal.ghosts-serve_counted-D-Ledger
ghosts-serve_counted-D-Ledger g a = record { name = a.blanks.3.name; parts = a.blanks.3.parts }
