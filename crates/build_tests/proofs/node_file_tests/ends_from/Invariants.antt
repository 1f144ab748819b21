-- A ledger of its own for the call.
use Rattle.build_tests.proofs.node_file_tests.ends_from.Given as goal

abbrev pub ghosts-ends_of : goal.ghosts-ends_of
ghosts-ends_of a = record { name = a.blank.name; parts = a.blank.parts }
