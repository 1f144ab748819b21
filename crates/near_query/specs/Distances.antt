-- How far a point is from a closed cube. Distances are squares, so that they are whole numbers.
use Rattle.std.specs.Prelude.{ℕ, ◌+◌, ◌*◌, ◌^◌, ◌≤◌, List, All, ℤ, pos, ◌-ℤ◌, unsigned_abs}
use Rattle.std.specs.Int.{int_max}
use Rattle.std.specs.List.{slice_index_or}
use Rattle.svo_base.specs.GridShape.{GridShape}
use Rattle.svo_base.specs.declared.shapes.Cube.{Cube}
use Rattle.octree_specs.specs.Meeting.{low_of, high_of}
use Rattle.ray_fraction.specs.Crossings.{box_of}

-- a point whose components have a size of at most 2^40
abbrev pub IsPoint : List ℤ → Type 0
IsPoint point = All (λ at. unsigned_abs at ≤ 2 ^ 40) point

-- on a line, how far a number is from the closed interval of two others: the greatest of `low - at`, 0 and `at - high`
unfoldable pub gap_of : (at low high : ℤ) → ℕ
gap_of at low high = unsigned_abs (int_max (int_max (low -ℤ at) (pos 0)) (at -ℤ high))

-- along an axis, how far a point is from a cube
abbrev pub along : List ℤ → Cube → ℕ → ℕ
along point cube axis = gap_of (slice_index_or point axis (pos 0)) (low_of cube axis) (high_of cube axis)

-- the square of the distance from a point to a closed cube
unfoldable pub distance_of : List ℤ → Cube → ℕ
distance_of point cube = along point cube 0 * along point cube 0 + along point cube 1 * along point cube 1 + along point cube 2 * along point cube 2

-- that to the cube of a node, whose height counts from the cells
unfoldable pub distance_to : List ℤ → GridShape → ℕ → ℕ → ℕ
distance_to point grid height node = distance_of point (box_of grid height node)
