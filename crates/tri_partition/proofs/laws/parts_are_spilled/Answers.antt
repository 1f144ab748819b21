use Rattle.tri_partition.proofs.SpilledParts.{parts_spilled}
use Rattle.tri_partition.proofs.laws.parts_are_spilled.Goals as goal

pub returns : goal.returns
returns c = parts_spilled
