-- A ledger of its own for the call.
use Rattle.query_tests.proofs.ray_answers_tests.told_by.Given as goal

abbrev pub ghosts-answer_counted : goal.ghosts-answer_counted
ghosts-answer_counted a = record { name = a.blank.name; parts = a.blank.parts }
