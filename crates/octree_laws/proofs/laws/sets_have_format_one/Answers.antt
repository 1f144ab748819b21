use Rattle.octree_laws.proofs.Statements.{sets_have_format}
use Rattle.octree_laws.proofs.laws.sets_have_format_one.Goals as goal

pub returns : goal.returns
returns c = sets_have_format
