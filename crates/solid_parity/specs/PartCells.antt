-- The cells of a part by their places in it, and the columns that they make.
use Rattle.std.specs.Prelude.{◌≡◌, ℕ, ◌+◌, ◌-◌, ◌*◌, ◌^◌, ◌<◌, ◌≤◌, Bool, ◌&&◌, ℤ, unsigned_abs}
use Rattle.svo_base.specs.GridShape.{GridShape}
use Rattle.svo_base.specs.declared.shapes.Triangle.{Triangle}
use Rattle.svo_base.specs.declared.shapes.Vector.{Vector}
use Rattle.octree_specs.specs.NodeCube.{coordinate_of}
use Rattle.octree_specs.specs.Vectors.{vector}
use Rattle.solid_parity.specs.Parity.{centre_at, is_covered, is_above}

-- how many cells a part has along an axis
abbrev pub part_side : GridShape → ℕ → ℕ
part_side grid split = 2 ^ (grid.depth - split)

-- how many cells of the grid are before the part along an axis
abbrev pub first_along : GridShape → ℕ → ℕ → ℕ → ℕ
first_along grid split part axis = coordinate_of axis split part * part_side grid split

-- the centre of the part's cell at these places along the axes
unfoldable pub centre_in : GridShape → ℕ → ℕ → ℕ → ℕ → ℕ → Vector
centre_in grid split part x y z =
    vector (centre_at grid 0 (first_along grid split part 0 + x)) (centre_at grid 1 (first_along grid split part 1 + y)) (centre_at grid 2 (first_along grid split part 2 + z))

-- the triangle covers the cell's column, above its centre
unfoldable pub is_over_in : GridShape → ℕ → ℕ → Triangle → ℕ → ℕ → ℕ → Bool
is_over_in grid split part t x y z = is_covered t (centre_in grid split part x y z) && is_above t (centre_in grid split part x y z)

-- a part of a grid
pub record Part : Type 0 where
  pub grid : GridShape
  pub split : ℕ
  pub part : ℕ

-- the centres of a part's lowest cells, the steps from one cell to the next, and how many cells there are along an axis. All are near enough to 0
pub record HasCentres (p : Part) (low_x low_y low_z : ℤ) (steps many : ℕ) : Type 0 where
  pub x_is : low_x ≡ centre_at p.grid 0 (first_along p.grid p.split p.part 0)
  pub y_is : low_y ≡ centre_at p.grid 1 (first_along p.grid p.split p.part 1)
  pub z_is : low_z ≡ centre_at p.grid 2 (first_along p.grid p.split p.part 2)
  pub step_is : steps ≡ 2 * p.grid.cell
  pub moves : 0 < steps
  pub side_is : many ≡ part_side p.grid p.split
  pub x_near : unsigned_abs low_x + steps * many ≤ 6 * 2 ^ 31
  pub y_near : unsigned_abs low_y + steps * many ≤ 6 * 2 ^ 31
  pub z_near : unsigned_abs low_z + steps * many ≤ 6 * 2 ^ 31
  pub short : many ≤ 2 ^ 12
