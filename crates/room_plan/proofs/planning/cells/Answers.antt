-- A power of 8 of at most 12 fits.
use Rattle.std.proofs.Common.{arith}
use Rattle.svo_base.specs.declared.grids.TheConstants.{MAX_DEPTH}
use Rattle.room_plan.proofs.Sizes.{cells_within}
use Rattle.room_plan.proofs.planning.cells.Goals as goal

pub pow-requires : goal.pow-requires
pow-requires c = omega (arith, cells_within c.args.height MAX_DEPTH c.requires)

pub returns-clause-most : goal.returns-clause-most
returns-clause-most c = omega (arith, c.pow.ensures, cells_within c.args.height MAX_DEPTH c.requires)
