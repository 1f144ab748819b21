-- A ledger of its own for the call.
use Rattle.query_tests.proofs.slice_view_tests.plain_sample.Given as goal

abbrev pub ghosts-has_in : goal.ghosts-has_in
ghosts-has_in a = record { name = a.blank.name; parts = a.blank.parts }
