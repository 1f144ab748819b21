use Rattle.build_tests.proofs.room_plan_tests.placed_twice.Given as goal

abbrev pub ghosts-place_twice : goal.ghosts-place_twice
ghosts-place_twice a = record { name = a.blank.name; parts = a.blank.parts }
