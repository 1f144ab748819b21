-- The rows are those of the triangle and the cube, and the table has each two of them.
use Rattle.std.proofs.Common.{rules}
use Rattle.tri_cube.proofs.FirstGood.{by_table}
use Rattle.tri_cube.proofs.candidates.first_good_weights.Goals as goal

pub returns : goal.returns
returns c =
    by_table c.args.triangle.now c.args.cube.now c.sides-sides.result c.with_units.result c.first_good_of.result c.sides-sides.ensures c.with_units.ensures (search (rules, c.first_good_of.ensures))
