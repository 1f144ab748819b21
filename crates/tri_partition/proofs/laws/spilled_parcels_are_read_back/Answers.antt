use Rattle.tri_partition.proofs.ReadBack.{read_back}
use Rattle.tri_partition.proofs.laws.spilled_parcels_are_read_back.Goals as goal

pub returns : goal.returns
returns c = read_back
