use Rattle.tri_partition.proofs.SecondParts.{second_parts_spilled}
use Rattle.tri_partition.proofs.laws.second_parts_are_spilled.Goals as goal

pub returns : goal.returns
returns c = second_parts_spilled
