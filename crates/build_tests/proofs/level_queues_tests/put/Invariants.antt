-- A ledger of its own for the call.
use Rattle.build_tests.proofs.level_queues_tests.put.Given as goal

abbrev pub ghosts-put_counted : goal.ghosts-put_counted
ghosts-put_counted a = record { name = a.blank.name; parts = a.blank.parts }
