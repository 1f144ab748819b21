-- Below the place that was come to every slot is 0.
use Rattle.std.proofs.Common.{◌≡◌, ℕ, ◌-◌, ◌<◌, ◌≤◌, length, get_or}
use Rattle.bit_grid.proofs.touched.next_touched.Given as goal

abbrev pub invariant-loop-run : goal.invariant-loop-run
invariant-loop-run l = (l.from ≤ l.at) × ((place : ℕ) → l.from ≤ place → place < l.at → get_or l.slots place 0 ≡ 0)

abbrev pub decreases-loop-run : goal.decreases-loop-run
decreases-loop-run l = length l.slots - l.at
