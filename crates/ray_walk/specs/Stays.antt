-- What is known of a node's planes while a ray walks.
use Rattle.std.specs.Prelude.{◌≡◌, ℕ, ◌*◌, ◌^◌, ◌≤◌, Bool, not, cond, ℤ, pos, ◌+ℤ◌, ◌-ℤ◌, ◌*ℤ◌, unsigned_abs, Option, None, Some}
use Rattle.std.specs.Ordering.{int_eq}
use Rattle.svo_base.specs.GridShape.{GridShape, IsGrid}
use Rattle.case_table.specs.CaseLists.{octant_order_list}
use Rattle.octree_specs.specs.Meeting.{low_of, high_of}
use Rattle.ray_fraction.specs.Crossings.{box_of}
use Rattle.ray_fraction.specs.Fractions.{IsUpTo}
use Rattle.ray_fraction.specs.InCube.{InAt}
use Rattle.ray_fraction.specs.RayShape.{RayShape, IsRay}
use Rattle.ray_walk.specs.Lanes.{IsNear}
use Rattle.ray_walk.specs.Octants.{direction_along, origin_along, falls, turn_of}
use Rattle.ray_walk.specs.declared.flights.Flight.{Flight}
use Rattle.ray_walk.specs.declared.flights.Stay.{Stay}
use Rattle.ray_walk.specs.declared.lanes.Lane.{Lane}

-- the ray is in the node's cube at the time n / m; the height counts from the cells
abbrev pub InBox : RayShape → GridShape → ℕ → ℕ → ℕ → ℕ → Type 0
InBox ray grid height node n m = InAt ray (box_of grid height node) n m

-- the side of a node's cube
abbrev pub box_side : GridShape → ℕ → ℕ
box_side grid height = grid.cell * 2 ^ height

-- the ray moves along the axis
abbrev pub moves_along : RayShape → ℕ → Bool
moves_along ray axis = not (int_eq (direction_along ray axis) (pos 0))

-- how far ahead the nearer of a node's two planes across an axis is, in the way of the ray
abbrev pub near_of : RayShape → GridShape → ℕ → ℕ → ℕ → ℤ
near_of ray grid axis height node =
    cond (falls ray axis) (origin_along ray axis -ℤ high_of (box_of grid height node) axis) (low_of (box_of grid height node) axis -ℤ origin_along ray axis)

-- so many ticks are a unit of length along an axis, where `scale` ticks are a unit of time
pub record IsPace (ray : RayShape) (scale axis pace : ℕ) : Type 0 where
  pub some : 1 ≤ pace
  pub ticks : pace * unsigned_abs (direction_along ray axis) ≡ cond (moves_along ray axis) scale 0
  pub slow : pace ≤ 2 ^ 60

-- the lane has the planes of the node across the axis, in ticks from where the ray begins
pub record IsLane (ray : RayShape) (grid : GridShape) (pace axis height node : ℕ) (lane : Lane) : Type 0 where
  pub near : lane.near ≡ pos pace *ℤ near_of ray grid axis height node
  pub far : lane.far ≡ lane.near +ℤ pos (pace * box_side grid height)
  pub moving : lane.moving ≡ moves_along ray axis

-- the numbers of a node's lanes are small enough for sums of two
pub record AreNear (stay : Stay) : Type 0 where
  pub x : IsNear stay.x
  pub y : IsNear stay.y
  pub z : IsNear stay.z

-- what a flight keeps of its ray is right
pub record IsFlight (flight : Flight) : Type 0 where
  pub ray : IsRay flight.ray
  pub grid : IsGrid flight.grid
  pub turn : flight.turn ≡ turn_of flight.ray
  pub orders : flight.orders ≡ octant_order_list
  pub some : 1 ≤ flight.scale
  pub x : IsPace flight.ray flight.scale 0 flight.x
  pub y : IsPace flight.ray flight.scale 1 flight.y
  pub z : IsPace flight.ray flight.scale 2 flight.z

-- the three lanes are those of the node
pub record IsStay (flight : Flight) (height node : ℕ) (stay : Stay) : Type 0 where
  pub x : IsLane flight.ray flight.grid flight.x 0 height node stay.x
  pub y : IsLane flight.ray flight.grid flight.y 1 height node stay.y
  pub z : IsLane flight.ray flight.grid flight.z 2 height node stay.z
  pub near : AreNear stay

-- the least of some times in ticks, if there is any; `scale` ticks are a unit of time
abbrev pub IsEntry : (ℕ → ℕ → Type 0) → ℕ → Option ℕ → Type 0
IsEntry At scale None = (n m : ℕ) → At n m → ⊥
IsEntry At scale (Some ticks) = At ticks scale × ((n m : ℕ) → At n m → IsUpTo ticks scale n m)
