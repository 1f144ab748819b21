-- The height falls.
use Rattle.build_tests.proofs.level_queues_tests.+walk.Given as goal

abbrev pub decreases-walk : goal.decreases-walk
decreases-walk l = l.height
