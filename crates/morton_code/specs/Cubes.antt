-- The planes of cubes.
use Rattle.std.specs.Prelude.{ℕ, List, ℤ, pos, ◌+ℤ◌, ◌≤ℤ◌}
use Rattle.std.specs.List.{slice_index_or}
use Rattle.svo_base.specs.declared.shapes.Cube.{Cube}
use Rattle.octree_specs.specs.Meeting.{low_of, high_of}

-- on each axis the lower plane is not above the upper one
pub record IsUpright (cube : Cube) : Type 0 where
  pub x : low_of cube 0 ≤ℤ high_of cube 0
  pub y : low_of cube 1 ≤ℤ high_of cube 1
  pub z : low_of cube 2 ≤ℤ high_of cube 2

-- the plane at this distance above a corner, across an axis
abbrev pub plane_at : List ℤ → ℕ → ℕ → ℤ
plane_at corner axis distance = slice_index_or corner axis (pos 0) +ℤ pos distance
