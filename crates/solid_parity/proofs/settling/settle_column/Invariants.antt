-- The column is settled from this place on.
use Rattle.bit_grid.specs.Touched.{AreTouched}
use Rattle.solid_parity.specs.PartCells.{part_side}
use Rattle.solid_parity.proofs.PassDown.{IsSettling}
use Rattle.solid_parity.proofs.settling.settle_column.Given as goal

abbrev pub invariant-loop-z : goal.invariant-loop-z
invariant-loop-z l = IsSettling (part_side l.columns.grid l.columns.split) l.x l.y l.z l.fn.slots l.slots l.is_odd × AreTouched l.slots l.blocks

abbrev pub decreases-loop-z : goal.decreases-loop-z
decreases-loop-z l = l.z
