use Rattle.node_merge.proofs.tests.coarser.Given as goal

abbrev pub ghosts-coarser_counted : goal.ghosts-coarser_counted
ghosts-coarser_counted a = record { name = a.blank.name; parts = a.blank.parts }
