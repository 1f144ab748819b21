-- A triangle and a box as they are seen from the triangle's first corner. Of the box, only what is within the triangle's box is left, so that all numbers are small where the triangle is.
use Rattle.std.specs.Prelude.{◌^◌, ◌≤◌, ℤ, pos, ◌-ℤ◌, unsigned_abs, int_le, Bool, ◌&&◌, ◌||◌, cond}
use Rattle.std.specs.Int.{int_min, int_max}
use Rattle.svo_base.specs.declared.shapes.Point.{Point}
use Rattle.svo_base.specs.declared.shapes.Triangle.{Triangle}
use Rattle.tri_cube.specs.declared.extents.Extents.{Extents}
use Rattle.tri_cube.specs.declared.outlines.Outline.{Outline}
use Rattle.tri_cube.specs.declared.outlines.Seen.{Seen}
use Rattle.tri_cube.specs.Boxes.{extents_miss}
use Rattle.tri_cube.specs.Extents.{ExtentShape, between}
use Rattle.tri_cube.specs.Lines.{Line}
use Rattle.tri_cube.specs.Outlines.{misses_outline}
use Rattle.tri_cube.specs.Planes.{PlaneForm, misses_plane}
use Rattle.tri_cube.specs.Views.{box_of, plane_of, outline_x, outline_y, outline_z}

-- a corner, seen from another
abbrev pub seen_from : Point → Point → Point
seen_from a p = record { x = p.x -ℤ a.x; y = p.y -ℤ a.y; z = p.z -ℤ a.z }

-- the triangle, seen from its first corner
unfoldable pub moved : Triangle → Triangle
moved t = record { a = seen_from t.a t.a; b = seen_from t.a t.b; c = seen_from t.a t.c }

-- what of a between is within bounds, seen from a coordinate
abbrev pub clip : ExtentShape → ℤ → ExtentShape → ExtentShape
clip bounds from s = between (int_max s.low bounds.low -ℤ from) (int_min s.high bounds.high -ℤ from)

-- what of a box is within bounds, seen from a point
abbrev pub clip_box : Extents → Point → Extents → Extents
clip_box bounds from e = record { x = clip bounds.x from.x e.x; y = clip bounds.y from.y e.y; z = clip bounds.z from.z e.z }

-- what of a box is within the triangle's box, seen from its first corner
unfoldable pub clipped : Triangle → Extents → Extents
clipped t e = clip_box (box_of t) t.a e

-- a between is at most 2^29 long
abbrev pub is_short : ExtentShape → Bool
is_short s = int_le (s.high -ℤ s.low) (pos (2 ^ 29))

unfoldable pub are_short : Extents → Bool
are_short e = is_short e.x && is_short e.y && is_short e.z

-- the box of a triangle is at most 2^29 long along each axis
unfoldable pub is_small : Triangle → Bool
is_small t = are_short (box_of t)

-- a box is on one side of a plane, or past an outline
unfoldable pub passes : PlaneForm → Outline → Outline → Outline → Extents → Bool
passes plane x y z e = misses_plane plane e || (misses_outline x e.y e.z || misses_outline y e.z e.x || misses_outline z e.x e.y)

-- the plane or an edge of the triangle is seen to separate it from a box
unfoldable pub is_passed_by : Triangle → Extents → Bool
is_passed_by t e = passes (plane_of t) (outline_x t) (outline_y t) (outline_z t) e

-- the same, where a small triangle is seen from its first corner
unfoldable pub is_passed : Triangle → Extents → Bool
is_passed t e = cond (is_small t) (is_passed_by (moved t) (clipped t e)) (is_passed_by t e)

-- the triangle and a box are seen to be apart
unfoldable pub are_apart : Triangle → Extents → Bool
are_apart t e = extents_miss (box_of t) e || is_passed t e

-- the sizes that the numbers of a small triangle keep, seen from its first corner
pub record PointWithin (p : Point) : Type 0 where
  pub x : unsigned_abs p.x ≤ 2 ^ 29
  pub y : unsigned_abs p.y ≤ 2 ^ 29
  pub z : unsigned_abs p.z ≤ 2 ^ 29

pub record IsNear (t : Triangle) : Type 0 where
  pub a : PointWithin t.a
  pub b : PointWithin t.b
  pub c : PointWithin t.c

-- and those of its lines
pub record NearLineWithin (l : Line) : Type 0 where
  pub first : unsigned_abs l.first ≤ 2 ^ 30
  pub second : unsigned_abs l.second ≤ 2 ^ 30
  pub reach : unsigned_abs l.reach ≤ 2 ^ 60

pub record SeenWithin (s : Seen) : Type 0 where
  pub first : unsigned_abs s.first ≤ 2 ^ 29
  pub second : unsigned_abs s.second ≤ 2 ^ 29
