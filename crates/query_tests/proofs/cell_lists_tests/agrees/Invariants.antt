-- A ledger of its own for the call.
use Rattle.query_tests.proofs.cell_lists_tests.agrees.Given as goal

abbrev pub ghosts-agrees_in : goal.ghosts-agrees_in
ghosts-agrees_in a = record { name = a.blank.name; parts = a.blank.parts }
