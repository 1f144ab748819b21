-- A ledger of its own for the call.
use Rattle.query_tests.proofs.slice_view_view_tests.viewed.Given as goal

abbrev pub ghosts-viewed_in : goal.ghosts-viewed_in
ghosts-viewed_in a = record { name = a.blank.name; parts = a.blank.parts }
