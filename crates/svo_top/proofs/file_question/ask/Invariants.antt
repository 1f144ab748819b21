-- A ledger of its own for the reads.
use Rattle.svo_top.proofs.file_question.ask.Given as goal

abbrev pub ghosts-ask_counted : goal.ghosts-ask_counted
ghosts-ask_counted g a = record { name = a.blank.name; parts = a.blank.parts }
