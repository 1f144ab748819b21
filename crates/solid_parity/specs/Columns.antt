-- The triangles that a part needs for its solid cells: those at the part's columns that do not lie wholly below the part.
use Rattle.std.specs.Prelude.{ℕ, Bool, ◌&&◌, ◌||◌, int_le, List, filter}
use Rattle.svo_base.specs.GridShape.{GridShape}
use Rattle.svo_base.specs.declared.shapes.Triangle.{Triangle}
use Rattle.svo_base.specs.declared.shapes.Cube.{Cube}
use Rattle.octree_specs.specs.FacedTriangles.{Faced}
use Rattle.octree_specs.specs.Meeting.{low_of, high_of}
use Rattle.octree_specs.specs.NodeCube.{node_cube}
use Rattle.octree_specs.specs.Parts.{reaches}

-- some corner is not below the cube
unfoldable pub is_not_below : Cube → Triangle → Bool
is_not_below cube t = int_le (low_of cube 2) t.a.z || (int_le (low_of cube 2) t.b.z || int_le (low_of cube 2) t.c.z)

-- the triangle's box shares a point with the cube in x and in y, and is not below it
unfoldable pub column_meets : Cube → Triangle → Bool
column_meets cube t =
    reaches (λ p. p.x) t (low_of cube 0) (high_of cube 0) && (reaches (λ p. p.y) t (low_of cube 1) (high_of cube 1) && is_not_below cube t)

unfoldable pub is_in_column : GridShape → ℕ → ℕ → Faced → Bool
is_in_column grid split part x = column_meets (node_cube grid split part) x.triangle

-- the triangles that a part needs, in the mesh's order
abbrev pub column_of : GridShape → ℕ → ℕ → List Faced → List Faced
column_of grid split part faced = filter (is_in_column grid split part) faced
