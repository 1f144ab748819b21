-- A ledger of its own for each count of each call.
use Rattle.build_core.proofs.nodes_tests.put.Given as goal

abbrev pub ghosts-put_counted-L-Ledger : goal.ghosts-put_counted-L-Ledger
ghosts-put_counted-L-Ledger g a = record { name = a.blank.name; parts = a.blank.parts }

abbrev pub ghosts-put_counted-T-Ledger : goal.ghosts-put_counted-T-Ledger
ghosts-put_counted-T-Ledger g a = record { name = a.other.name; parts = a.other.parts }
