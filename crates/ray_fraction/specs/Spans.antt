-- Which times a span has.
use Rattle.std.specs.Prelude.{ℕ, ◌≤◌, ◌↔◌, Option, None, Some, ⊤, ℤ, pos, ◌*ℤ◌, ◌≤ℤ◌}
use Rattle.ray_fraction.specs.Fractions.{IsUpTo}
use Rattle.ray_fraction.specs.declared.fractions.Fraction.{Fraction}
use Rattle.ray_fraction.specs.declared.spans.Interval.{Interval}
use Rattle.ray_fraction.specs.declared.spans.TimeSpan.{TimeSpan}
use Rattle.ray_fraction.specs.declared.spans.TimeSpan.TheVariants.{Never, Always, Between}

-- n / m is neither before nor after
abbrev pub IsFromUntil : Fraction → Fraction → ℕ → ℕ → Type 0
IsFromUntil from until n m = IsUpTo from.n from.m n m × IsUpTo n m until.n until.m

-- n / m is a time of the span
abbrev pub IsDuring : TimeSpan → ℕ → ℕ → Type 0
IsDuring Never n m = ⊥
IsDuring Always n m = ⊤
IsDuring (Between interval) n m = IsFromUntil interval.from interval.until n m

-- the same for an interval that may be missing
abbrev pub IsDuringSome : Option Interval → ℕ → ℕ → Type 0
IsDuringSome None n m = ⊥
IsDuringSome (Some interval) n m = IsFromUntil interval.from interval.until n m

-- the times of the first are those of the second
abbrev pub AreSameTimes : (ℕ → ℕ → Type 0) → (ℕ → ℕ → Type 0) → Type 0
AreSameTimes A B = (n m : ℕ) → 1 ≤ m → A n m ↔ B n m

-- what goes so far in each unit of time has by n / m gone at least as far as the near point, and at most as far as the far one
pub record HasGone (near far speed : ℤ) (n m : ℕ) : Type 0 where
  pub near_passed : (pos m *ℤ near) ≤ℤ (pos n *ℤ speed)
  pub far_ahead : (pos n *ℤ speed) ≤ℤ (pos m *ℤ far)
