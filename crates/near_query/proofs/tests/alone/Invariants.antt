-- A ledger of its own for the call.
use Rattle.near_query.proofs.tests.alone.Given as goal

abbrev pub ghosts-alone_in : goal.ghosts-alone_in
ghosts-alone_in a = record { name = a.blank.name; parts = a.blank.parts }
