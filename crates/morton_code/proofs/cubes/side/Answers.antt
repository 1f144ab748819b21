use Rattle.morton_code.proofs.Sides.{shifted_side, width_of_level}
use Rattle.morton_code.proofs.cubes.side.Goals as goal

pub returns-clause-value : goal.returns-clause-value
returns-clause-value c =
    shifted_side _ _ _ _ _ c.cell.ensures.value c.depth.ensures.value c.requires c.cell.ensures.limits.solid c.cell.ensures.limits.narrow

pub returns-clause-narrow : goal.returns-clause-narrow
returns-clause-narrow c =
    rw (shifted_side _ _ _ _ _ c.cell.ensures.value c.depth.ensures.value c.requires c.cell.ensures.limits.solid c.cell.ensures.limits.narrow)
    (rw (width_of_level c.args.grid.now.cell c.args.grid.now.depth c.args.level c.requires) c.cell.ensures.limits.narrow)
