-- The solid cells of a mesh, by the parity of the triangles above their centres (after Schwarz and Seidel 2010). All is in doubled coordinates, in which the centre of each cell is whole. A column is a line along z.
use Rattle.std.specs.Prelude.{ℕ, ◌+◌, ◌*◌, ◌%◌, ◌==◌, Bool, ◌&&◌, ◌||◌, cond, int_le, int_lt, ℤ, pos, ◌+ℤ◌, ◌-ℤ◌, ◌*ℤ◌, List, map, filter}
use Rattle.std.specs.List.{slice_index_or, sum_by, range_with_len}
use Rattle.svo_base.specs.GridShape.{GridShape}
use Rattle.svo_base.specs.declared.shapes.Point.{Point}
use Rattle.svo_base.specs.declared.shapes.Triangle.{Triangle}
use Rattle.svo_base.specs.declared.shapes.Vector.{Vector}
use Rattle.octree_specs.specs.Cells.{Cell}
use Rattle.octree_specs.specs.FacedTriangles.{Faced}
use Rattle.octree_specs.specs.NodeCube.{coordinate_of}
use Rattle.octree_specs.specs.Vectors.{vector, dot_of, cross_of}

abbrev pub doubled : Point → Vector
doubled p = vector (pos 2 *ℤ p.x) (pos 2 *ℤ p.y) (pos 2 *ℤ p.z)

-- the centre of the cell at this place along an axis
abbrev pub centre_at : GridShape → ℕ → ℕ → ℤ
centre_at grid axis place = (pos 2 *ℤ slice_index_or grid.origin axis (pos 0)) +ℤ pos (grid.cell * (2 * place + 1))

-- the centre of the cell with this code
unfoldable pub centre_of : GridShape → ℕ → Vector
centre_of grid code =
    let along : ℕ → ℤ = λ axis. centre_at grid axis (coordinate_of axis grid.depth code) in vector (along 0) (along 1) (along 2)

-- ---- a column through a triangle

-- an edge goes up in y from `u` to `v`, passes the height of q, and has q on its left, all seen along z. The end `u` belongs to the edge and `v` does not, so that of two edges that meet at the height of q one counts
abbrev pub rises : Vector → Vector → Vector → Bool
rises u v q = int_le u.y q.y && (int_lt q.y v.y && int_lt ((v.y -ℤ u.y) *ℤ (q.x -ℤ u.x)) ((v.x -ℤ u.x) *ℤ (q.y -ℤ u.y)))

-- a ray from q along x crosses the edge, whichever of its ends is the lower one
unfoldable pub crosses : Vector → Vector → Vector → Bool
crosses u v q = rises u v q || rises v u q

abbrev pub one : Bool → ℕ
one b = cond b 1 0

-- how many edges of the triangle it crosses
unfoldable pub crossings : Triangle → Vector → ℕ
crossings t q = one (crosses (doubled t.a) (doubled t.b) q) + one (crosses (doubled t.b) (doubled t.c) q) + one (crosses (doubled t.c) (doubled t.a) q)

-- the column of q goes through the triangle
unfoldable pub is_covered : Triangle → Vector → Bool
is_covered t q = crossings t q % 2 == 1

-- ---- the side of a triangle's plane

abbrev pub minus_of : Vector → Vector → Vector
minus_of a b = vector (a.x -ℤ b.x) (a.y -ℤ b.y) (a.z -ℤ b.z)

abbrev pub normal_of : Triangle → Vector
normal_of t = cross_of (minus_of (doubled t.b) (doubled t.a)) (minus_of (doubled t.c) (doubled t.a))

abbrev pub have_opposite_signs : ℤ → ℤ → Bool
have_opposite_signs m n = (int_lt (pos 0) m && int_lt n (pos 0)) || (int_lt m (pos 0) && int_lt (pos 0) n)

-- the triangle's plane passes above q, and not through it
unfoldable pub is_above : Triangle → Vector → Bool
is_above t q = have_opposite_signs (normal_of t).z (dot_of (normal_of t) (minus_of q (doubled t.a)))

-- ---- solid cells

-- the triangle covers the cell's column, above its centre
abbrev pub is_over : GridShape → ℕ → Faced → Bool
is_over grid code x = is_covered x.triangle (centre_of grid code) && is_above x.triangle (centre_of grid code)

abbrev pub number_over : GridShape → List Faced → ℕ → ℕ
number_over grid faced code = sum_by (λ x. one (is_over grid code x)) faced

unfoldable pub is_solid : GridShape → List Faced → ℕ → Bool
is_solid grid faced code = number_over grid faced code % 2 == 1

-- a solid cell has no face of the mesh of its own; it keeps the face 0
abbrev pub solid_cell : ℕ → Cell
solid_cell code = record { code = code; face = 0 }

-- the solid cells with codes below a bound, in ascending order
unfoldable pub solid_below : GridShape → List Faced → ℕ → List Cell
solid_below grid faced bound = map solid_cell (filter (is_solid grid faced) (range_with_len 0 bound))
