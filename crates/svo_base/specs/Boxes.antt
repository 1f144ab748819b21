-- The least boxes around points and triangles, and the grid that is fitted to it.
use Rattle.std.specs.Prelude.{◌≡◌, ℕ, ◌*◌, ◌^◌, ◌≤◌, ℤ, pos, ◌+ℤ◌, ◌≤ℤ◌, unsigned_abs, List, [], ◌∷◌, map, Option, None, Some, IfSome, All, FitsSigned}
use Rattle.std.specs.Int.{w32, int_min, int_max}
use Rattle.std.specs.List.{Contains}
use Rattle.svo_base.specs.GridShape.{GridShape}
use Rattle.svo_base.specs.declared.shapes.Point.{Point}
use Rattle.svo_base.specs.declared.shapes.Triangle.{Triangle}
use Rattle.svo_base.specs.declared.boxes.Extent.{Extent}
use Rattle.svo_base.specs.declared.boxes.Bounds.{Bounds}

-- coordinates of 32 bits
pub record IsPoint (p : Point) : Type 0 where
  pub x : FitsSigned w32 p.x
  pub y : FitsSigned w32 p.y
  pub z : FitsSigned w32 p.z

-- from the least of three coordinates to the greatest
abbrev pub extent_of : ℤ → ℤ → ℤ → Extent
extent_of a b c = record { low = int_min (int_min a b) c; high = int_max (int_max a b) c }

-- the least box around a triangle
unfoldable pub bounds_of : Triangle → Bounds
bounds_of t = record { x = extent_of t.a.x t.b.x t.c.x; y = extent_of t.a.y t.b.y t.c.y; z = extent_of t.a.z t.b.z t.c.z }

-- all numbers lie between two of them
pub record IsExtentOf (numbers : List ℤ) (e : Extent) : Type 0 where
  pub inside : All (λ z. (e.low ≤ℤ z) × (z ≤ℤ e.high)) numbers
  pub least : Contains numbers e.low
  pub greatest : Contains numbers e.high

-- a box is the least one with all points; without a point there is none
abbrev pub IsBoxOf : List Point → Option Bounds → Type 0
IsBoxOf points None = points ≡ []
IsBoxOf points (Some b) =
    IsExtentOf (map (λ p. p.x) points) b.x × IsExtentOf (map (λ p. p.y) points) b.y × IsExtentOf (map (λ p. p.z) points) b.z

-- no coordinate is farther than 2^30 from 0
abbrev pub IsNearPoint : Point → Type 0
IsNearPoint p = (unsigned_abs p.x ≤ 2 ^ 30) × (unsigned_abs p.y ≤ 2 ^ 30) × (unsigned_abs p.z ≤ 2 ^ 30)

-- both ends are at most 2^30 from 0
abbrev pub IsNearExtent : Extent → Type 0
IsNearExtent e = (unsigned_abs e.low ≤ 2 ^ 30) × (unsigned_abs e.high ≤ 2 ^ 30)

abbrev pub IsNearBox : Option Bounds → Type 0
IsNearBox bounds = IfSome bounds (λ b. IsNearExtent b.x × IsNearExtent b.y × IsNearExtent b.z)

-- it is at most so long
abbrev pub IsWithin : ℕ → Extent → Type 0
IsWithin side e = e.high ≤ℤ (e.low +ℤ pos side)

-- a cube of this side that begins at the box's lower corner holds the box
abbrev pub Holds : ℕ → Bounds → Type 0
Holds side b = IsWithin side b.x × IsWithin side b.y × IsWithin side b.z

-- the grid begins at the box's lower corner and holds the box, and with smaller cells it would not
pub record IsAround (b : Bounds) (grid : GridShape) : Type 0 where
  pub corner : grid.origin ≡ b.x.low ∷ b.y.low ∷ b.z.low ∷ []
  pub some : 1 ≤ grid.cell
  pub holds : Holds (grid.cell * 2 ^ grid.depth) b
  pub least : (cell : ℕ) → 1 ≤ cell → Holds (cell * 2 ^ grid.depth) b → grid.cell ≤ cell

-- without a point the grid has cells of side 1 from 0 on
abbrev pub FitsBox : Option Bounds → GridShape → Type 0
FitsBox None grid = (grid.origin ≡ pos 0 ∷ pos 0 ∷ pos 0 ∷ []) × (grid.cell ≡ 1)
FitsBox (Some b) grid = IsAround b grid

-- the grid of this depth that is fitted to points
pub record IsFitted (depth : ℕ) (points : List Point) (grid : GridShape) : Type 0 where
  pub depth_is : grid.depth ≡ depth
  pub bounds : Option Bounds
  pub is_box : IsBoxOf points bounds
  pub fits : FitsBox bounds grid
