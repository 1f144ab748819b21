use Rattle.node_merge.proofs.coarsening.coarsen.Given as goal

abbrev pub ghosts-coarsen_counted : goal.ghosts-coarsen_counted
ghosts-coarsen_counted g a = record { name = a.blank.name; parts = a.blank.parts }
