use Rattle.octree_laws.proofs.Images.{no_proper_front}
use Rattle.octree_laws.proofs.laws.files_are_no_fronts.Goals as goal

pub returns : goal.returns
returns c = no_proper_front
