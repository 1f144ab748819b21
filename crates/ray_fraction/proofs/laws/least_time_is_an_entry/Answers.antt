use Rattle.ray_fraction.proofs.Whereabouts.{least_of_cubes}
use Rattle.ray_fraction.proofs.laws.least_time_is_an_entry.Goals as goal

pub returns : goal.returns
returns c = least_of_cubes
