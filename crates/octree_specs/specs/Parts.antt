-- Parts of a grid: the nodes of one level, the split. A part is filled by itself, from the triangles whose boxes reach it (Baert, Lagae, Dutré 2013: sub-grids that are ranges of Morton codes).
use Rattle.std.specs.Prelude.{ℕ, zero, suc, ◌+◌, ◌-◌, ◌*◌, ◌/◌, ◌^◌, Bool, true, ◌&&◌, ◌||◌, cond, int_le, ℤ, List, filter, ◌≡◌}
use Rattle.std.specs.List.{sum_by, range_with_len}
use Rattle.svo_base.specs.GridShape.{GridShape}
use Rattle.svo_base.specs.declared.shapes.Point.{Point}
use Rattle.svo_base.specs.declared.shapes.Triangle.{Triangle}
use Rattle.svo_base.specs.declared.shapes.Cube.{Cube}
use Rattle.octree_specs.specs.FacedTriangles.{Faced}
use Rattle.octree_specs.specs.Meeting.{Meets, low_of, high_of}
use Rattle.octree_specs.specs.NodeCube.{node_cube}

-- the part that a cell of this code lies in
abbrev pub part_with : GridShape → ℕ → ℕ → ℕ
part_with grid split code = code / 8 ^ (grid.depth - split)

-- along one axis, the triangle's extent and the span between two planes share a point: some corner is not above it, and some corner is not below it
unfoldable pub reaches : (Point → ℤ) → Triangle → ℤ → ℤ → Bool
reaches at t low high =
    (int_le (at t.a) high || (int_le (at t.b) high || int_le (at t.c) high))
    && (int_le low (at t.a) || (int_le low (at t.b) || int_le low (at t.c)))

-- the triangle's bounding box and the closed cube share a point
unfoldable pub box_meets : Cube → Triangle → Bool
box_meets cube t =
    reaches (λ p. p.x) t (low_of cube 0) (high_of cube 0)
    && (reaches (λ p. p.y) t (low_of cube 1) (high_of cube 1) && reaches (λ p. p.z) t (low_of cube 2) (high_of cube 2))

-- the box of a triangle reaches a part
unfoldable pub is_in_part : GridShape → ℕ → ℕ → Faced → Bool
is_in_part grid split part x = box_meets (node_cube grid split part) x.triangle

-- the triangles whose boxes reach a part, in the mesh's order
abbrev pub part_of : GridShape → ℕ → ℕ → List Faced → List Faced
part_of grid split part faced = filter (is_in_part grid split part) faced

-- ---- how many tests it takes to fill a part

-- how many nodes pass a test, given a height above the cells and a node: of this node and those below it, as far as they are above the cells
abbrev pub passing : (ℕ → ℕ → Bool) → ℕ → ℕ → ℕ
passing test zero node = 0
passing test (suc height) node = cond (test (suc height) node) 1 0 + sum_by (passing test height) (range_with_len (8 * node) 8)

-- each node that a triangle meets passes the test
abbrev pub PassWhereMet : GridShape → Triangle → (ℕ → ℕ → Bool) → Type 0
PassWhereMet grid t test = (height node : ℕ) → Meets t (node_cube grid (grid.depth - height) node) → test height node ≡ true
