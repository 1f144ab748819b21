-- Planes across a direction, and when a box is on one side of one.
use Rattle.std.specs.Prelude.{◌^◌, ◌≤◌, ℤ, ◌+ℤ◌, unsigned_abs, int_lt, Bool, ◌||◌}
use Rattle.svo_base.specs.declared.shapes.Vector.{Vector}
use Rattle.octree_specs.specs.Vectors.{IsWithin}
use Rattle.tri_cube.specs.declared.extents.Extents.{Extents}
use Rattle.tri_cube.specs.Lines.{least_of, greatest_of}

-- the points whose product with the normal is `reach`
pub record PlaneForm : Type 0 where
  pub normal : Vector
  pub reach : ℤ

abbrev pub plane_form : Vector → ℤ → PlaneForm
plane_form normal reach = record { normal = normal; reach = reach }

-- the sizes that the numbers of a triangle's plane keep
pub record PlaneWithin (p : PlaneForm) : Type 0 where
  pub normal : IsWithin (2 ^ 69) p.normal
  pub reach : unsigned_abs p.reach ≤ 2 ^ 106

-- all of a box is farther than the plane
unfoldable pub is_above : PlaneForm → Extents → Bool
is_above p e = int_lt p.reach ((least_of p.normal.x e.x +ℤ least_of p.normal.y e.y) +ℤ least_of p.normal.z e.z)

-- no part of a box is as far as the plane
unfoldable pub is_below : PlaneForm → Extents → Bool
is_below p e = int_lt ((greatest_of p.normal.x e.x +ℤ greatest_of p.normal.y e.y) +ℤ greatest_of p.normal.z e.z) p.reach

unfoldable pub misses_plane : PlaneForm → Extents → Bool
misses_plane p e = is_above p e || is_below p e
