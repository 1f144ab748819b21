-- The product is at most 2^59 in size, so nothing is lost in 64 bits.
use Rattle.std.proofs.Common.{◌^◌, arith, to_z-of_z}
use Rattle.std.proofs.lemmas.Int.{ints}
use Rattle.octree_specs.proofs.Integers.{product_within}
use Rattle.tri_cube.proofs.near_outlines.near_product.Goals as goal

pub returns-clause-value : goal.returns-clause-value
returns-clause-value c =
    let size = product_within c.args.step c.args.at (2 ^ 30) (2 ^ 29) c.requires.step c.requires.at in grind (arith, ints, to_z-of_z)

pub returns-clause-within : goal.returns-clause-within
returns-clause-within c =
    let size = product_within c.args.step c.args.at (2 ^ 30) (2 ^ 29) c.requires.step c.requires.at in grind (arith, ints, to_z-of_z)
