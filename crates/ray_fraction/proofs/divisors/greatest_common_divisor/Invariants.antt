use Rattle.std.proofs.Common.{ℕ, ◌+◌, ◌≤◌}
use Rattle.std.specs.Int.{IsGcd}
use Rattle.ray_fraction.proofs.divisors.greatest_common_divisor.Given as goal

-- what divides the numbers at hand divides those that were given
abbrev pub invariant-loop-y : goal.invariant-loop-y
invariant-loop-y l = ((g : ℕ) → IsGcd l.x l.y g → IsGcd l.fn.a l.fn.b g) × (1 ≤ l.x + l.y)

abbrev pub decreases-loop-y : goal.decreases-loop-y
decreases-loop-y l = l.y
