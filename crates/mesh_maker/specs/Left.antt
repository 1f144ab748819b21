-- What is left of a made text while it is given.
use Rattle.std.specs.Prelude.{ℕ, zero, suc, ◌+◌, ◌-◌, List, [], ◌++◌}
use Rattle.octree_specs.specs.PlainText.{vertex_line}
use Rattle.mesh_maker.specs.MadeText.{next_number, height_of, vertex_with, made_face, quad_line, vertex_total, face_total}

-- the lines of so many vertices from one on; the generator stands at the number of the vertex before
unfoldable pub vertices_left : ℕ → ℕ → ℕ → ℕ → List ℕ
vertices_left side number vertex zero = []
vertices_left side number vertex (suc left) =
    vertex_line (vertex_with side vertex (height_of (next_number number))) ++ vertices_left side (next_number number) (vertex + 1) left

-- the lines of so many faces from one on
unfoldable pub faces_left : ℕ → ℕ → ℕ → List ℕ
faces_left side face zero = []
faces_left side face (suc left) = quad_line (made_face side face) ++ faces_left side (face + 1) left

-- the lines of the vertices and faces from these on
abbrev pub lines_left : ℕ → ℕ → ℕ → ℕ → List ℕ
lines_left side number vertex face =
    vertices_left side number vertex (vertex_total side - vertex) ++ faces_left side face (face_total side - face)
