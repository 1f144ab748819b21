use Rattle.octree_laws.proofs.Statements.{accepted_exactly}
use Rattle.octree_laws.proofs.laws.node_files_are_accepted.Goals as goal

pub returns : goal.returns
returns c = accepted_exactly
