-- Laws of mesh texts.
use Rattle.std.specs.Prelude.{◌≡◌, ℕ, Bool, List, Ok}
use Rattle.octree_specs.specs.Mesh.{Mesh}
use Rattle.octree_specs.specs.FacedTriangles.{faced_triangles}
use Rattle.octree_specs.specs.PlainText.{IsPlainText}
use Rattle.ply_reader.specs.PlyMeaning.{PlyMesh, ply_meaning}
use Rattle.mesh_laws.specs.Meshes.{faced_of}

-- the text means this mesh, in whole numbers
pub record Means (cut : Bool) (text : List ℕ) (mesh : Mesh) : Type 0 where
  pub found : PlyMesh
  pub meaning : ply_meaning (record { decimals = 0; cut = cut }) text ≡ Ok found
  pub points : found.points ≡ mesh.vertices
  pub triangles : faced_of found ≡ faced_triangles mesh

-- a text in the plain form means the mesh that it spells
abbrev pub MeanTheirMesh : Type 0
MeanTheirMesh = (cut : Bool) (text : List ℕ) (mesh : Mesh) → IsPlainText text mesh → Means cut text mesh
