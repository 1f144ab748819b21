use Rattle.ray_fraction.proofs.TimeOrder.{are_ordered}
use Rattle.ray_fraction.proofs.laws.times_are_ordered.Goals as goal

pub returns : goal.returns
returns c = are_ordered
