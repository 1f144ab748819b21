use Rattle.tri_partition.proofs.SpilledParts.{in_steps}
use Rattle.tri_partition.proofs.laws.parcels_are_spilled_in_steps.Goals as goal

pub returns : goal.returns
returns c = in_steps
