-- The thirteen axes of a triangle, and when one separates the triangle from a cube (Schwarz, Seidel 2010).
use Rattle.std.specs.Prelude.{ℕ, ◌==◌, ℤ, pos, int_lt, int_le, Bool, ◌&&◌, ◌||◌, if◌then◌else◌, Option, List, [], ◌∷◌, map}
use Rattle.std.specs.List.{slice_index, slice_index_or, list_all, flat_map, find, range_with_len}
use Rattle.svo_base.specs.declared.shapes.Triangle.{Triangle}
use Rattle.svo_base.specs.declared.shapes.Cube.{Cube}
use Rattle.svo_base.specs.declared.shapes.Vector.{Vector}
use Rattle.octree_specs.specs.Vectors.{vector, dot_of, cross_of}
use Rattle.octree_specs.specs.Meeting.{low_of, high_of}
use Rattle.case_table.specs.CaseLists.{axis_case_list}
use Rattle.tri_cube.specs.Edges.{corner, edge_of}

-- the unit vectors are numbered 0, 1, 2, and so are the edges, from each corner to the next
abbrev pub unit_at : ℕ → Vector
unit_at k =
    (if k == 0 then vector (pos 1) (pos 0) (pos 0)
    else (if k == 1 then vector (pos 0) (pos 1) (pos 0) else vector (pos 0) (pos 0) (pos 1)))

abbrev pub edge_at : Triangle → ℕ → Vector
edge_at t i = (if i == 0 then edge_of t.a t.b else (if i == 1 then edge_of t.b t.c else edge_of t.c t.a))

abbrev pub normal_of : Triangle → Vector
normal_of t = cross_of (edge_of t.a t.b) (edge_of t.a t.c)

-- an axis by its case: a unit vector, the normal, or the product of an edge and a unit vector
abbrev pub axis_by_case : Triangle → ℕ → ℕ → ℕ → Vector
axis_by_case t kind i k =
    (if kind == 0 then unit_at k else (if kind == 1 then normal_of t else cross_of (edge_at t i) (unit_at k)))

-- the axes are numbered from 0 to 12
unfoldable pub axis_at : Triangle → ℕ → Vector
axis_at t number =
    let found = slice_index_or axis_case_list number [] in axis_by_case t (slice_index found 0) (slice_index found 1) (slice_index found 2)

abbrev pub triangle_corners : Triangle → List Vector
triangle_corners t = corner t.a ∷ corner t.b ∷ corner t.c ∷ []

-- the planes of a cube are in order where no lower one is above its upper one
abbrev pub is_in_order : Cube → Bool
is_in_order cube =
    int_le (low_of cube 0) (high_of cube 0) && int_le (low_of cube 1) (high_of cube 1) && int_le (low_of cube 2) (high_of cube 2)

abbrev pub planes_of : Cube → ℕ → List ℤ
planes_of cube axis = low_of cube axis ∷ high_of cube axis ∷ []

-- the corners of a cube; one whose planes are not in order has no point, and so no corner
unfoldable pub cube_corners : Cube → List Vector
cube_corners cube =
    (if is_in_order cube
    then flat_map (λ x. flat_map (λ y. map (λ z. vector x y z) (planes_of cube 2)) (planes_of cube 1)) (planes_of cube 0)
    else [])

-- all products of an axis with some points are below all with others
unfoldable pub are_below : Vector → List Vector → List Vector → Bool
are_below axis first second = list_all (λ p. list_all (λ q. int_lt (dot_of axis p) (dot_of axis q)) second) first

-- all products with corners of the triangle are below all with corners of the cube, or all are above
unfoldable pub separates : Triangle → Cube → Vector → Bool
separates t cube axis =
    are_below axis (triangle_corners t) (cube_corners cube) || are_below axis (cube_corners cube) (triangle_corners t)

-- the first axis that separates
unfoldable pub first_separating : Triangle → Cube → Option ℕ
first_separating t cube = find (λ number. separates t cube (axis_at t number)) (range_with_len 0 13)
