-- The numbers fit their types, so they are what they were before the casts.
use Rattle.std.proofs.Common.{arith, to_z-of_z}
use Rattle.std.proofs.lemmas.Int.{ints}
use Rattle.tri_cube.specs.Lines.{is_beyond}
use Rattle.tri_cube.proofs.near_outlines.NearSide.is_passed.Goals as goal

pub returns : goal.returns
unfolding is_beyond
returns c = grind (arith, ints, to_z-of_z)
