-- The height falls.
use Rattle.query_tests.proofs.made_cells.+put_words.Given as goal

abbrev pub decreases-put_words : goal.decreases-put_words
decreases-put_words l = l.height
