-- Which cubes and children of nodes a box reaches.
use Rattle.std.specs.Prelude.{◌≡◌, ◌≢◌, ◌<◌, true, ℕ, zero, suc, ◌/◌, ◌%◌, Bool, ◌&&◌, ℤ, int_le}
use Rattle.svo_base.specs.declared.shapes.Cube.{Cube}
use Rattle.octree_specs.specs.Meeting.{low_of, high_of}
use Rattle.svo_base.specs.declared.boxes.Bounds.{Bounds}
use Rattle.svo_base.specs.declared.boxes.Extent.{Extent}
use Rattle.morton_scan.specs.declared.octants.Halves.{Halves}
use Rattle.morton_scan.specs.declared.octants.Octants.{Octants}

-- along an axis, neither of the extent and a cube ends before the other begins
abbrev pub extent_reaches : Extent → Cube → ℕ → Bool
extent_reaches extent cube axis = int_le extent.low (high_of cube axis) && int_le (low_of cube axis) extent.high

-- the box and the closed cube share a point
unfoldable pub bounds_reach : Bounds → Cube → Bool
bounds_reach b cube = extent_reaches b.x cube 0 && extent_reaches b.y cube 1 && extent_reaches b.z cube 2

-- along an axis, the extent lies between a cube's planes
abbrev pub extent_within : Extent → Cube → ℕ → Bool
extent_within extent cube axis = int_le (low_of cube axis) extent.low && int_le extent.high (high_of cube axis)

-- the box lies within the closed cube
unfoldable pub bounds_within : Bounds → Cube → Bool
bounds_within b cube = extent_within b.x cube 0 && extent_within b.y cube 1 && extent_within b.z cube 2

-- on which sides of a node's middle plane the extent lies. The last child of a node begins there
abbrev pub halves_of : Extent → Cube → ℕ → Halves
halves_of extent last axis = record { lower = int_le extent.low (low_of last axis); upper = int_le (low_of last axis) extent.high }

unfoldable pub octants_of : Bounds → Cube → Octants
octants_of b last = record { x = halves_of b.x last 0; y = halves_of b.y last 1; z = halves_of b.z last 2 }

-- the lower half, or the upper one
abbrev pub has_half : Halves → ℕ → Bool
has_half halves zero = halves.lower
has_half halves (suc _) = halves.upper

-- the octant at a place among its siblings
unfoldable pub has_octant : Octants → ℕ → Bool
has_octant octants octant = has_half octants.x (octant % 2) && has_half octants.y (octant / 2 % 2) && has_half octants.z (octant / 4 % 2)

-- another octant is reached beside this one
pub record HasOther (octants : Octants) (octant : ℕ) : Type 0 where
  pub other : ℕ
  pub below : other < 8
  pub apart : other ≢ octant
  pub reached : has_octant octants other ≡ true
