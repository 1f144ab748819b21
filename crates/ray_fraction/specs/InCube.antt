-- When a ray is in a cube.
use Rattle.std.specs.Prelude.{ℕ, ◌≤◌, ℤ, pos, ◌+ℤ◌, ◌*ℤ◌, ◌≤ℤ◌, slice_index_or}
use Rattle.svo_base.specs.declared.shapes.Cube.{Cube}
use Rattle.octree_specs.specs.Meeting.{low_of, high_of}
use Rattle.ray_fraction.specs.RayShape.{RayShape}

-- along one axis: at the time n / m the ray is between the two planes, or on one of them
pub record IsInSlab (origin direction low high : ℤ) (n m : ℕ) : Type 0 where
  pub above : (pos m *ℤ low) ≤ℤ ((pos m *ℤ origin) +ℤ (pos n *ℤ direction))
  pub below : ((pos m *ℤ origin) +ℤ (pos n *ℤ direction)) ≤ℤ (pos m *ℤ high)

-- the same along an axis of a ray and a cube
abbrev pub IsInAlong : ℕ → RayShape → Cube → ℕ → ℕ → Type 0
IsInAlong axis ray cube n m = IsInSlab (slice_index_or ray.origin axis (pos 0)) (slice_index_or ray.direction axis (pos 0)) (low_of cube axis) (high_of cube axis) n m

-- m is at least 1, and at the time n / m the ray is in the closed cube
pub record InAt (ray : RayShape) (cube : Cube) (n m : ℕ) : Type 0 where
  pub some : 1 ≤ m
  pub x : IsInAlong 0 ray cube n m
  pub y : IsInAlong 1 ray cube n m
  pub z : IsInAlong 2 ray cube n m
