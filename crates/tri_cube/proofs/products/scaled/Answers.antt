-- The product is below 2^127 in size, so nothing is lost in 128 bits.
use Rattle.std.proofs.Common.{◌^◌, arith, to_z-of_z}
use Rattle.std.proofs.lemmas.Int.{ints}
use Rattle.octree_specs.proofs.Integers.{product_within}
use Rattle.tri_cube.proofs.products.scaled.Goals as goal

pub returns-clause-value : goal.returns-clause-value
returns-clause-value c =
    let size = product_within c.args.a c.args.b (2 ^ 69) (2 ^ 34) c.requires.a_in c.requires.b_in in grind (arith, ints, to_z-of_z)

pub returns-clause-within : goal.returns-clause-within
returns-clause-within c =
    let size = product_within c.args.a c.args.b (2 ^ 69) (2 ^ 34) c.requires.a_in c.requires.b_in in grind (arith, ints, to_z-of_z)
