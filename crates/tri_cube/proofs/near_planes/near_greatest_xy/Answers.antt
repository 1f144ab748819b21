-- The numbers fit their types, so they are what they were before the casts.
use Rattle.std.proofs.Common.{arith, to_z-of_z}
use Rattle.std.proofs.lemmas.Int.{ints}
use Rattle.tri_cube.proofs.near_planes.near_greatest_xy.Goals as goal

pub returns-clause-value : goal.returns-clause-value
returns-clause-value c = grind (arith, ints, to_z-of_z)
