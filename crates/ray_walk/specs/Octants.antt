-- In which order a ray visits the eight children of a node.
use Rattle.std.specs.Prelude.{ℕ, ◌+◌, ◌*◌, bit_xor, Bool, cond, ℤ, pos}
use Rattle.std.specs.Int.{is_negative}
use Rattle.std.specs.List.{slice_index_or}
use Rattle.ray_fraction.specs.RayShape.{RayShape}

abbrev pub direction_along : RayShape → ℕ → ℤ
direction_along ray axis = slice_index_or ray.direction axis (pos 0)

abbrev pub origin_along : RayShape → ℕ → ℤ
origin_along ray axis = slice_index_or ray.origin axis (pos 0)

-- the ray goes down along the axis
abbrev pub falls : RayShape → ℕ → Bool
falls ray axis = is_negative (direction_along ray axis)

-- a bit for each axis along which it goes down
unfoldable pub turn_of : RayShape → ℕ
turn_of ray = cond (falls ray 0) 1 0 + 2 * cond (falls ray 1) 1 0 + 4 * cond (falls ray 2) 1 0

-- the place of the child that is visited as the k-th, from 0
unfoldable pub visited : ℕ → ℕ → ℕ
visited turn k = bit_xor k turn
