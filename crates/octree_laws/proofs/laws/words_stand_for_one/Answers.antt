use Rattle.octree_laws.proofs.Statements.{stand_for_one}
use Rattle.octree_laws.proofs.laws.words_stand_for_one.Goals as goal

pub returns : goal.returns
returns c = stand_for_one
