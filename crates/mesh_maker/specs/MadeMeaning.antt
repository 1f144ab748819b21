-- The mesh that a made text stands for.
use Rattle.std.specs.Prelude.{ℕ, ◌+◌, List, [], ◌∷◌}
use Rattle.std.specs.List.{flat_map, range_with_len}
use Rattle.ply_reader.specs.PlyMeaning.{PlyMesh}
use Rattle.ply_reader.specs.declared.fans.FaceTriangle.{FaceTriangle}
use Rattle.mesh_maker.specs.MadeText.{made_vertices, first_corner, face_total}

-- the two triangles of a face: its corners are a, b, c, d, and the triangles (a, b, c) and (a, c, d)
abbrev pub triangles_at : ℕ → ℕ → List FaceTriangle
triangles_at side face =
    record { face = face; corners = first_corner side face ∷ (first_corner side face + 1) ∷ (first_corner side face + side + 2) ∷ [] }
    ∷ record { face = face; corners = first_corner side face ∷ (first_corner side face + side + 2) ∷ (first_corner side face + side + 1) ∷ [] }
    ∷ []

unfoldable pub made_mesh : ℕ → ℕ → PlyMesh
made_mesh number side =
    record { points = made_vertices number side; triangles = flat_map (triangles_at side) (range_with_len 0 (face_total side)) }
