-- A ledger of its own for the call.
use Rattle.svo_base.proofs.tests.count.Given as goal

abbrev pub ghosts-count_one : goal.ghosts-count_one
ghosts-count_one a = record { name = a.blank.name; parts = a.blank.parts }
