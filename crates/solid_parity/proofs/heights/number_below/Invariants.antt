use Rattle.std.proofs.Common.{◌-◌, ◌≡◌, ℕ, ◌<◌, ◌≤◌, true, false}
use Rattle.solid_parity.specs.Heights.{is_above_at}
use Rattle.solid_parity.proofs.heights.number_below.Given as goal

-- the plane passes above what is below `from`, and not above what is from `to` on
abbrev pub invariant-loop-from : goal.invariant-loop-from
invariant-loop-from l =
    ((l.from ≤ l.to) × (l.to ≤ l.count))
    × (((place : ℕ) → place < l.from → is_above_at l.heights place ≡ true) × ((place : ℕ) → l.to ≤ place → place < l.count → is_above_at l.heights place ≡ false))

abbrev pub decreases-loop-from : goal.decreases-loop-from
decreases-loop-from l = l.to - l.from
