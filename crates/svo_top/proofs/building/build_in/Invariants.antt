-- A ledger of its own for each count.
use Rattle.svo_top.proofs.building.build_in.Given as goal

abbrev pub ghosts-build_counted-L-Ledger : goal.ghosts-build_counted-L-Ledger
ghosts-build_counted-L-Ledger g a = record { name = a.moves.name; parts = a.moves.parts }

abbrev pub ghosts-build_counted-T-Ledger : goal.ghosts-build_counted-T-Ledger
ghosts-build_counted-T-Ledger g a = record { name = a.tests.name; parts = a.tests.parts }
