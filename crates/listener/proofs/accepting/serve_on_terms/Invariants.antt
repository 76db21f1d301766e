use Rattle.listener.proofs.accepting.serve_on_terms.Given as goal

abbrev pub ghosts-serve_counted-L-Ledger : goal.ghosts-serve_counted-L-Ledger
ghosts-serve_counted-L-Ledger g a = record { name = a.seats.name; parts = a.seats.parts }

abbrev pub ghosts-serve_counted-C-Ledger : goal.ghosts-serve_counted-C-Ledger
ghosts-serve_counted-C-Ledger g a = record { name = a.counts.0.name; parts = a.counts.0.parts }

abbrev pub ghosts-serve_counted-F-Ledger : goal.ghosts-serve_counted-F-Ledger
ghosts-serve_counted-F-Ledger g a = record { name = a.counts.1.name; parts = a.counts.1.parts }

abbrev pub ghosts-serve_counted-S-Ledger : goal.ghosts-serve_counted-S-Ledger
ghosts-serve_counted-S-Ledger g a = record { name = a.counts.2.name; parts = a.counts.2.parts }

abbrev pub ghosts-serve_counted-T-Ledger : goal.ghosts-serve_counted-T-Ledger
ghosts-serve_counted-T-Ledger g a = record { name = a.counts.3.name; parts = a.counts.3.parts }
