-- A ledger of its own for the call.
use Rattle.query_tests.proofs.block_cache_tests.walked.Given as goal

abbrev pub ghosts-walk_counted : goal.ghosts-walk_counted
ghosts-walk_counted a = record { name = a.blank.name; parts = a.blank.parts }
