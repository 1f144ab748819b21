-- A ledger of its own for the call.
use Rattle.query_tests.proofs.node_check_tests.asked.Given as goal

abbrev pub ghosts-asked_in : goal.ghosts-asked_in
ghosts-asked_in a = record { name = a.blank.name; parts = a.blank.parts }
