-- A ledger of its own for the reads.
use Rattle.svo_top.proofs.merging.merge_files.Given as goal

abbrev pub ghosts-merge_named : goal.ghosts-merge_named
ghosts-merge_named g a = record { name = a.blank.name; parts = a.blank.parts }
