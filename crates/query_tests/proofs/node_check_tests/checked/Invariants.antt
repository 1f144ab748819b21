-- A ledger of its own for the call.
use Rattle.query_tests.proofs.node_check_tests.checked.Given as goal

abbrev pub ghosts-checked_in : goal.ghosts-checked_in
ghosts-checked_in a = record { name = a.blank.name; parts = a.blank.parts }
