-- The cell's side, doubled once for each level.
use Rattle.morton_code.proofs.Sides.{shifted_side, side_within}
use Rattle.tri_partition.proofs.ReachedParts.{some_side}
use Rattle.tri_partition.proofs.part_ranges.side.Goals as goal

pub returns-clause-value : goal.returns-clause-value
returns-clause-value c =
    shifted_side _ _ _ _ _ c.cell.ensures.value c.depth.ensures.value c.requires c.cell.ensures.limits.solid c.cell.ensures.limits.narrow

pub returns-clause-some : goal.returns-clause-some
returns-clause-some c =
    rw (shifted_side _ _ _ _ _ c.cell.ensures.value c.depth.ensures.value c.requires c.cell.ensures.limits.solid c.cell.ensures.limits.narrow)
    (some_side _ _ c.cell.ensures.limits.solid)

pub returns-clause-narrow : goal.returns-clause-narrow
returns-clause-narrow c =
    rw (shifted_side _ _ _ _ _ c.cell.ensures.value c.depth.ensures.value c.requires c.cell.ensures.limits.solid c.cell.ensures.limits.narrow)
    (side_within _ _ _ c.requires c.cell.ensures.limits.narrow)
