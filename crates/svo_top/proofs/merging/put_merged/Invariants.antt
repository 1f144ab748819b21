-- A ledger of its own for the moves.
use Rattle.svo_top.proofs.merging.put_merged.Given as goal

abbrev pub ghosts-put_counted : goal.ghosts-put_counted
ghosts-put_counted g a = record { name = a.blank.name; parts = a.blank.parts }
