-- The mesh text that is made from a number: a square of points with heights of a generator, and a face in each gap.
use Rattle.std.specs.Prelude.{ℕ, zero, suc, ◌+◌, ◌*◌, ◌/◌, ◌%◌, ◌^◌, List, [], ◌∷◌, ◌++◌, map, pos, codes}
use Rattle.std.specs.List.{flat_map, range_with_len}
use Rattle.std.specs.Fmt.{decimal}
use Rattle.svo_base.specs.declared.shapes.Point.{Point}
use Rattle.octree_specs.specs.PlainText.{plain_header, vertex_line}

-- the linear congruential generator of Knuth's MMIX
unfoldable pub next_number : ℕ → ℕ
next_number number = (6364136223846793005 * number + 1442695040888963407) % 2 ^ 64

-- the number so many steps after a first one
unfoldable pub number_after : ℕ → ℕ → ℕ
number_after number zero = number
number_after number (suc steps) = next_number (number_after number steps)

-- vertices stand 16 apart in rows of one more than the side; the six highest bits of a number of its own are a vertex's height
abbrev pub height_of : ℕ → ℕ
height_of number = number / 2 ^ 58

abbrev pub vertex_with : ℕ → ℕ → ℕ → Point
vertex_with side vertex height = record { x = pos (16 * (vertex % (side + 1))); y = pos (16 * (vertex / (side + 1))); z = pos height }

abbrev pub made_vertex : ℕ → ℕ → ℕ → Point
made_vertex number side vertex = vertex_with side vertex (height_of (number_after number (suc vertex)))

-- a row has as many faces as the side says, each between four vertices
abbrev pub first_corner : ℕ → ℕ → ℕ
first_corner side face = face / side * (side + 1) + face % side

abbrev pub made_face : ℕ → ℕ → List ℕ
made_face side face =
    first_corner side face ∷ (first_corner side face + 1) ∷ (first_corner side face + side + 2) ∷ (first_corner side face + side + 1) ∷ []

abbrev pub vertex_total : ℕ → ℕ
vertex_total side = (side + 1) * (side + 1)

abbrev pub face_total : ℕ → ℕ
face_total side = side * side

unfoldable pub made_vertices : ℕ → ℕ → List Point
made_vertices number side = map (made_vertex number side) (range_with_len 0 (vertex_total side))

unfoldable pub made_faces : ℕ → List (List ℕ)
made_faces side = map (made_face side) (range_with_len 0 (face_total side))

-- the number of corners, 4, and the corners
unfoldable pub quad_line : List ℕ → List ℕ
quad_line face = codes "4" ++ flat_map (λ corner. codes " " ++ decimal corner) face ++ codes "\n"

-- the lines behind the header
unfoldable pub made_body : ℕ → ℕ → List ℕ
made_body number side = flat_map vertex_line (made_vertices number side) ++ flat_map quad_line (made_faces side)

-- the text
unfoldable pub made_text : ℕ → ℕ → List ℕ
made_text number side = plain_header (vertex_total side) (face_total side) ++ made_body number side
