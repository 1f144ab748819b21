-- A ledger of its own for the call.
use Rattle.query_tests.proofs.node_check_store_tests.check_bytes.Given as goal

abbrev pub ghosts-check_counted : goal.ghosts-check_counted
ghosts-check_counted a = record { name = a.blank.name; parts = a.blank.parts }
