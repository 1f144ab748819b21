-- A ledger of its own for the call.
use Rattle.query_tests.proofs.slice_view_tests.sliced.Given as goal

abbrev pub ghosts-sliced_in : goal.ghosts-sliced_in
ghosts-sliced_in a = record { name = a.blank.name; parts = a.blank.parts }
