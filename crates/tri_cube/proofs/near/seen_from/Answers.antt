-- The numbers fit their types, so they are what they were before the casts.
use Rattle.std.proofs.Common.{arith, to_z-of_z}
use Rattle.std.proofs.lemmas.Int.{ints}
use Rattle.tri_cube.proofs.NearCorner.{points}
use Rattle.tri_cube.proofs.near.seen_from.Goals as goal

pub returns : goal.returns
returns c =
    let x = c.requires.x in
    let y = c.requires.y in
    let z = c.requires.z in
    points _ _ _ _ _ _ (grind (arith, ints, to_z-of_z)) (grind (arith, ints, to_z-of_z)) (grind (arith, ints, to_z-of_z))
