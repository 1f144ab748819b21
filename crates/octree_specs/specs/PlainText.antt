-- The plain form of a mesh text: ASCII PLY 1.0 with one fixed header, three whole coordinates a vertex, three corners a face, single spaces and LF.
use Rattle.std.specs.Prelude.{◌≡◌, ℕ, ◌^◌, ◌<◌, ◌≤◌, List, ◌++◌, length, unsigned_abs, All, codes}
use Rattle.std.specs.List.{flat_map}
use Rattle.std.specs.Fmt.{decimal, signed_decimal}
use Rattle.svo_base.specs.declared.shapes.Point.{Point}
use Rattle.octree_specs.specs.Mesh.{Mesh}

-- the nine lines of the header, with the counts of vertices and faces
unfoldable pub plain_header : ℕ → ℕ → List ℕ
plain_header vertices faces =
    codes "ply\nformat ascii 1.0\nelement vertex " ++ decimal vertices
    ++ codes "\nproperty int x\nproperty int y\nproperty int z\nelement face " ++ decimal faces
    ++ codes "\nproperty list uchar int vertex_indices\nend_header\n"

-- three coordinates
unfoldable pub vertex_line : Point → List ℕ
vertex_line p = signed_decimal p.x ++ codes " " ++ signed_decimal p.y ++ codes " " ++ signed_decimal p.z ++ codes "\n"

-- the number of corners, 3, and the corners
unfoldable pub face_line : List ℕ → List ℕ
face_line face = codes "3" ++ flat_map (λ corner. codes " " ++ decimal corner) face ++ codes "\n"

-- the text of a mesh
unfoldable pub plain_text : Mesh → List ℕ
plain_text mesh = plain_header (length mesh.vertices) (length mesh.faces) ++ flat_map vertex_line mesh.vertices ++ flat_map face_line mesh.faces

-- a coordinate's size is at most 2^30
pub record IsNear (p : Point) : Type 0 where
  pub x : unsigned_abs p.x ≤ 2 ^ 30
  pub y : unsigned_abs p.y ≤ 2 ^ 30
  pub z : unsigned_abs p.z ≤ 2 ^ 30

-- a face has three corners, each of them one of so many vertices
pub record IsTriple (vertices : ℕ) (face : List ℕ) : Type 0 where
  pub three : length face ≡ 3
  pub known : All (λ corner. corner < vertices) face

-- what a plain text can stand for
pub record IsPlainMesh (mesh : Mesh) : Type 0 where
  pub vertex_count : length mesh.vertices < 2 ^ 32
  pub face_count : length mesh.faces < 2 ^ 32
  pub vertices : All IsNear mesh.vertices
  pub faces : All (IsTriple (length mesh.vertices)) mesh.faces

-- the text is in the plain form, and stands for the mesh
pub record IsPlainText (text : List ℕ) (mesh : Mesh) : Type 0 where
  pub spelled : text ≡ plain_text mesh
  pub short : length text ≤ 2 ^ 32
  pub within : IsPlainMesh mesh
