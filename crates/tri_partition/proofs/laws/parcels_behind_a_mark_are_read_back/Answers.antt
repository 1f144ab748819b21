use Rattle.tri_partition.proofs.ReadBack.{read_behind}
use Rattle.tri_partition.proofs.laws.parcels_behind_a_mark_are_read_back.Goals as goal

pub returns : goal.returns
returns c = read_behind
