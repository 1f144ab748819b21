use Rattle.near_query.proofs.OneNearest.{one_nearest}
use Rattle.near_query.proofs.laws.nearest_cells_are_one.Goals as goal

pub returns : goal.returns
returns c = one_nearest
