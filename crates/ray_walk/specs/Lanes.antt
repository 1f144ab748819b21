-- The planes of a node across one axis, as a ray meets them.
use Rattle.std.specs.Prelude.{ℕ, ◌^◌, ◌≤◌, Bool, ◌&&◌, cond, max, unsigned_abs, pos, int_le}
use Rattle.std.specs.Int.{int_max}
use Rattle.ray_fraction.specs.Spans.{HasGone}
use Rattle.ray_walk.specs.declared.lanes.Lane.{Lane}

-- its numbers are small enough for sums of two
pub record IsNear (lane : Lane) : Type 0 where
  pub near : unsigned_abs lane.near ≤ 2 ^ 120
  pub far : unsigned_abs lane.far ≤ 2 ^ 120

-- at the time n / m the ray is between the planes; while it moves, it goes `scale` ticks in each unit of time
abbrev pub IsInLane : Lane → ℕ → ℕ → ℕ → Type 0
IsInLane lane scale n m = HasGone lane.near lane.far (pos (cond lane.moving scale 0)) n m

-- the later of a number of ticks and of those to the near plane
abbrev pub later_of : Lane → ℕ → ℕ
later_of lane ticks = cond lane.moving (max ticks (unsigned_abs (int_max lane.near (pos 0)))) ticks

-- after so many ticks, which are not too few, the ray is between the planes
abbrev pub allows_at : Lane → ℕ → Bool
allows_at lane ticks = cond lane.moving (int_le (pos ticks) lane.far) (int_le lane.near (pos 0) && int_le (pos 0) lane.far)
