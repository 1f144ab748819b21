-- How large what is read can be.
use Rattle.std.specs.Prelude.{◌^◌, ◌≤◌, unsigned_abs}
use Rattle.svo_base.specs.declared.shapes.Point.{Point}

-- each coordinate has a size of at most 2^30
pub record IsNear (point : Point) : Type 0 where
  pub x : unsigned_abs point.x ≤ 2 ^ 30
  pub y : unsigned_abs point.y ≤ 2 ^ 30
  pub z : unsigned_abs point.z ≤ 2 ^ 30
