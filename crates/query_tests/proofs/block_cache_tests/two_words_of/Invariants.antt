-- A ledger of its own for the call.
use Rattle.query_tests.proofs.block_cache_tests.two_words_of.Given as goal

abbrev pub ghosts-two_words_counted : goal.ghosts-two_words_counted
ghosts-two_words_counted a = record { name = a.blank.name; parts = a.blank.parts }
