-- A triangle mesh: points, and faces that name their corners by number.
use Rattle.std.specs.Prelude.{ℕ, pos, List, [], ◌∷◌}
use Rattle.std.specs.List.{flat_map, slice_index_or}
use Rattle.svo_base.specs.declared.shapes.Point.{Point}
use Rattle.svo_base.specs.declared.shapes.Triangle.{Triangle}

-- vertices are numbered from 0, and each face is the list of its corners' numbers in order
pub record Mesh : Type 0 where
  pub vertices : List Point
  pub faces : List (List ℕ)

-- the triangle whose corners are the vertices of these numbers
abbrev pub vertex_at : List Point → ℕ → Point
vertex_at vertices number = slice_index_or vertices number (record { x = pos 0; y = pos 0; z = pos 0 })

abbrev pub triangle_at : List Point → ℕ → ℕ → ℕ → Triangle
triangle_at vertices i j k = record { a = vertex_at vertices i; b = vertex_at vertices j; c = vertex_at vertices k }

-- a face with the corners i, j, k, l, .. stands for the triangles (i, j, k), (i, k, l), ..
abbrev pub fan_after : List Point → ℕ → ℕ → List ℕ → List Triangle
fan_after vertices i j [] = []
fan_after vertices i j (k ∷ rest) = triangle_at vertices i j k ∷ fan_after vertices i k rest

abbrev pub fan_of : List Point → List ℕ → List Triangle
fan_of vertices [] = []
fan_of vertices (i ∷ []) = []
fan_of vertices (i ∷ j ∷ rest) = fan_after vertices i j rest

unfoldable pub triangles_of : Mesh → List Triangle
triangles_of mesh = flat_map (fan_of mesh.vertices) mesh.faces
