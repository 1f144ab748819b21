use Rattle.mesh_maker.proofs.MadeCounts.{counted}
use Rattle.mesh_maker.proofs.laws.made_meshes_are_counted.Goals as goal

pub returns : goal.returns
returns c = counted
