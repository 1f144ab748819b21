-- The filled cell nearest to a point, and how many nodes are not farther.
use Rattle.std.specs.Prelude.{◌≡◌, ℕ, ◌+◌, ◌≤◌, nat_le, true, Bool, List, ℤ, Option, None, Some}
use Rattle.std.specs.List.{Contains}
use Rattle.svo_base.specs.GridShape.{GridShape}
use Rattle.octree_specs.specs.Cells.{Cell, codes_of}
use Rattle.ray_fraction.specs.Crossings.{count_of}
use Rattle.near_query.specs.Distances.{distance_to}
use Rattle.near_query.specs.declared.cells.NearCell.{NearCell}

-- at the distance `near`, the code a comes before or is the code b at the distance `far`: it is not farther, and where it is as far its code is not above
pub record Leads (near a far b : ℕ) : Type 0 where
  pub nearer : near ≤ far
  pub tie : far ≤ near → a ≤ b

-- the cell is filled, and this is its distance
pub record IsFound (point : List ℤ) (grid : GridShape) (cells : List Cell) (cell : NearCell) : Type 0 where
  pub filled : Contains (codes_of cells) cell.code
  pub at : cell.distance ≡ distance_to point grid 0 cell.code

-- of the filled cells it is one at the least distance, and of those the one with the least code
pub record IsNearestCell (point : List ℤ) (grid : GridShape) (cells : List Cell) (cell : NearCell) : Type 0 where
  pub found : IsFound point grid cells cell
  pub first : (code : ℕ) → Contains (codes_of cells) code → Leads cell.distance cell.code (distance_to point grid 0 code) code

-- the nearest cell, or none where no cell is filled
abbrev pub IsNearest : List ℤ → GridShape → List Cell → Option NearCell → Type 0
IsNearest point grid cells None = (code : ℕ) → Contains (codes_of cells) code → ⊥
IsNearest point grid cells (Some cell) = IsNearestCell point grid cells cell

-- a node is not farther than the nearest cell
unfoldable pub is_closer : List ℤ → GridShape → Option NearCell → ℕ → ℕ → Bool
is_closer point grid None height node = true
is_closer point grid (Some cell) height node = nat_le (distance_to point grid height node) cell.distance

-- how many nodes above the cells, the root and the nonempty ones, are not farther than it; where no cell is filled, that is the root alone
abbrev pub closer_of : List ℤ → GridShape → List Cell → Option NearCell → ℕ
closer_of point grid cells nearest = count_of (is_closer point grid nearest) cells grid.depth 0

-- a count rose by no more than that
abbrev pub AreFew : List ℤ → GridShape → List Cell → ℕ → ℕ → Type 0
AreFew point grid cells before after = (nearest : Option NearCell) → IsNearest point grid cells nearest → after ≤ before + closer_of point grid cells nearest
