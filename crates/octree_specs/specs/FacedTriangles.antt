-- The triangles of a mesh, each with the number of the face that it came from.
use Rattle.std.specs.Prelude.{ℕ, ◌+◌, List, [], ◌∷◌, ◌++◌, map}
use Rattle.svo_base.specs.declared.shapes.Point.{Point}
use Rattle.svo_base.specs.declared.shapes.Triangle.{Triangle}
use Rattle.octree_specs.specs.Mesh.{Mesh, fan_of}

pub record Faced : Type 0 where
  pub triangle : Triangle
  pub face : ℕ

-- the triangles of faces that are numbered from a number on; those of one face have its number
abbrev pub faced_from : List Point → ℕ → List (List ℕ) → List Faced
faced_from vertices number [] = []
faced_from vertices number (face ∷ rest) =
    map (λ triangle. record { triangle = triangle; face = number }) (fan_of vertices face) ++ faced_from vertices (number + 1) rest

-- faces are numbered from 0
unfoldable pub faced_triangles : Mesh → List Faced
faced_triangles mesh = faced_from mesh.vertices 0 mesh.faces

abbrev pub bare : List Faced → List Triangle
bare faced = map (λ x. x.triangle) faced
