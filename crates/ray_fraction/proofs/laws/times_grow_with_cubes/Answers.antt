use Rattle.ray_fraction.proofs.Whereabouts.{grow_with_cube}
use Rattle.ray_fraction.proofs.laws.times_grow_with_cubes.Goals as goal

pub returns : goal.returns
returns c = grow_with_cube
