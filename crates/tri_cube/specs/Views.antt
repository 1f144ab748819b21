-- A triangle as its tests see it: its box, its plane, and its outline along each axis.
use Rattle.std.specs.Prelude.{Bool, ◌||◌}
use Rattle.svo_base.specs.declared.shapes.Point.{Point}
use Rattle.svo_base.specs.declared.shapes.Triangle.{Triangle}
use Rattle.svo_base.specs.declared.shapes.Cube.{Cube}
use Rattle.octree_specs.specs.Vectors.{dot_of, cross_of}
use Rattle.tri_cube.specs.declared.extents.Extents.{Extents}
use Rattle.tri_cube.specs.declared.outlines.Seen.{Seen}
use Rattle.tri_cube.specs.declared.outlines.Outline.{Outline}
use Rattle.tri_cube.specs.Boxes.{extents_miss}
use Rattle.tri_cube.specs.Edges.{corner, edge_of}
use Rattle.tri_cube.specs.Extents.{extent_of, cube_extent}
use Rattle.tri_cube.specs.Outlines.{outline_of, misses_outline}
use Rattle.tri_cube.specs.Planes.{PlaneForm, plane_form, misses_plane}

-- the box of a triangle, and a cube as a box
unfoldable pub box_of : Triangle → Extents
box_of t = record { x = extent_of t.a.x t.b.x t.c.x; y = extent_of t.a.y t.b.y t.c.y; z = extent_of t.a.z t.b.z t.c.z }

unfoldable pub cube_box : Cube → Extents
cube_box cube = record { x = cube_extent cube 0; y = cube_extent cube 1; z = cube_extent cube 2 }

-- the plane through the corners
unfoldable pub plane_of : Triangle → PlaneForm
plane_of t =
    let normal = cross_of (edge_of t.a t.b) (edge_of t.a t.c) in plane_form normal (dot_of normal (corner t.a))

-- a corner as it is seen along an axis: its coordinates along the next two axes
abbrev pub seen_x : Point → Seen
seen_x p = record { first = p.y; second = p.z }

abbrev pub seen_y : Point → Seen
seen_y p = record { first = p.z; second = p.x }

abbrev pub seen_z : Point → Seen
seen_z p = record { first = p.x; second = p.y }

unfoldable pub outline_x : Triangle → Outline
outline_x t = outline_of (seen_x t.a) (seen_x t.b) (seen_x t.c)

unfoldable pub outline_y : Triangle → Outline
outline_y t = outline_of (seen_y t.a) (seen_y t.b) (seen_y t.c)

unfoldable pub outline_z : Triangle → Outline
outline_z t = outline_of (seen_z t.a) (seen_z t.b) (seen_z t.c)

-- a box is past the triangle as it is seen along some axis
unfoldable pub misses_edges : Triangle → Extents → Bool
misses_edges t e =
    misses_outline (outline_x t) e.y e.z || misses_outline (outline_y t) e.z e.x || misses_outline (outline_z t) e.x e.y

-- the triangle and a box are seen to be apart
unfoldable pub are_seen_apart : Triangle → Extents → Bool
are_seen_apart t e = extents_miss (box_of t) e || (misses_plane (plane_of t) e || misses_edges t e)
