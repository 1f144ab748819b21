-- The columns with marks before this place are settled.
use Rattle.std.proofs.Common.{◌-◌, ◌^◌, ◌≤◌}
use Rattle.bit_grid.specs.Touched.{AreTouched}
use Rattle.solid_parity.specs.PartCells.{part_side}
use Rattle.solid_parity.proofs.PassDown.{IsSettledBefore}
use Rattle.solid_parity.proofs.settling.settle.Given as goal

abbrev pub invariant-loop-mark : goal.invariant-loop-mark
invariant-loop-mark l = (l.at ≤ 2 ^ 18) × IsSettledBefore (part_side l.columns.grid l.columns.split) l.at l.fn.slots l.slots × AreTouched l.slots l.blocks

abbrev pub decreases-loop-mark : goal.decreases-loop-mark
decreases-loop-mark l = 2 ^ 18 - l.at
