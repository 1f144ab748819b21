-- A ledger of its own for each call.
use Rattle.build_tests.proofs.tri_cube_tests.meets.Given as goal

abbrev pub ghosts-counted : goal.ghosts-counted
ghosts-counted a = record { name = a.blank.name; parts = a.blank.parts }
