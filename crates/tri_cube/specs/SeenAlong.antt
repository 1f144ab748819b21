-- A triangle and a box along a direction.
use Rattle.std.specs.Prelude.{◌+ℤ◌, int_lt, Bool, ◌&&◌, ◌||◌}
use Rattle.svo_base.specs.declared.shapes.Triangle.{Triangle}
use Rattle.svo_base.specs.declared.shapes.Vector.{Vector}
use Rattle.octree_specs.specs.Vectors.{dot_of, opposite_of}
use Rattle.tri_cube.specs.declared.extents.Extents.{Extents}
use Rattle.tri_cube.specs.Edges.{corner}
use Rattle.tri_cube.specs.Lines.{least_of}

-- all of the box is farther than each corner
unfoldable pub is_ahead : Triangle → Extents → Vector → Bool
is_ahead t e n =
    let least = (least_of n.x e.x +ℤ least_of n.y e.y) +ℤ least_of n.z e.z in
    int_lt (dot_of n (corner t.a)) least && int_lt (dot_of n (corner t.b)) least && int_lt (dot_of n (corner t.c)) least

-- the same in the direction or in its opposite
unfoldable pub seen_along : Triangle → Extents → Vector → Bool
seen_along t e n = is_ahead t e n || is_ahead t e (opposite_of n)
