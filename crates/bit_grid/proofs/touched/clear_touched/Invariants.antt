-- Below the place that was come to every slot is 0, and so are those of blocks that were not touched.
use Rattle.std.proofs.Common.{◌≡◌, ℕ, ◌-◌, ◌<◌, false, length, get_or}
use Rattle.bit_grid.specs.Touched.{is_touched}
use Rattle.bit_grid.proofs.touched.clear_touched.Given as goal

abbrev pub invariant-loop-run : goal.invariant-loop-run
invariant-loop-run l = ((place : ℕ) → place < l.at → get_or l.slots place 0 ≡ 0) × ((place : ℕ) → is_touched l.blocks place ≡ false → get_or l.slots place 0 ≡ 0)

abbrev pub decreases-loop-run : goal.decreases-loop-run
decreases-loop-run l = length l.slots - l.at
