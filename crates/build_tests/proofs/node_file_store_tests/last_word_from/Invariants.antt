-- A ledger of its own for the call.
use Rattle.build_tests.proofs.node_file_store_tests.last_word_from.Given as goal

abbrev pub ghosts-last_word_counted : goal.ghosts-last_word_counted
ghosts-last_word_counted a = record { name = a.blank.name; parts = a.blank.parts }
