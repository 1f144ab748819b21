-- The height falls.
use Rattle.near_query.proofs.tests.+put_words.Given as goal

abbrev pub decreases-put_words : goal.decreases-put_words
decreases-put_words l = l.height
