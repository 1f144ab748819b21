-- A ledger of its own for the call.
use Rattle.near_query.proofs.tests.told.Given as goal

abbrev pub ghosts-told_in : goal.ghosts-told_in
ghosts-told_in a = record { name = a.blank.name; parts = a.blank.parts }
