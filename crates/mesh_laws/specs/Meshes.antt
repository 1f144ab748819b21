-- The triangles of a mesh text, each with the number of its face.
use Rattle.std.specs.Prelude.{ℕ, List, map}
use Rattle.std.specs.List.{slice_index_or}
use Rattle.svo_base.specs.declared.shapes.Point.{Point}
use Rattle.svo_base.specs.declared.shapes.Triangle.{Triangle}
use Rattle.octree_specs.specs.FacedTriangles.{Faced}
use Rattle.octree_specs.specs.Mesh.{triangle_at}
use Rattle.ply_reader.specs.PlyMeaning.{PlyMesh}
use Rattle.ply_reader.specs.declared.fans.FaceTriangle.{FaceTriangle}

-- the corner of this number, 0, 1 or 2
abbrev pub corner_of : FaceTriangle → ℕ → ℕ
corner_of triangle place = slice_index_or triangle.corners place 0

abbrev pub faced_at : List Point → FaceTriangle → Faced
faced_at points t = record { triangle = triangle_at points (corner_of t 0) (corner_of t 1) (corner_of t 2); face = t.face }

unfoldable pub faced_of : PlyMesh → List Faced
faced_of mesh = map (faced_at mesh.points) mesh.triangles
