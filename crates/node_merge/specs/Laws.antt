-- Laws of maps put together.
use Rattle.std.specs.Prelude.{◌≡◌, ℕ, ◌+◌, ◌^◌, ◌<◌, ◌≤◌, List, ◌++◌, length, All}
use Rattle.svo_base.specs.GridShape.{GridShape}
use Rattle.svo_base.specs.declared.shapes.Point.{Point}
use Rattle.octree_specs.specs.Cells.{Cell}
use Rattle.octree_specs.specs.FacedTriangles.{Faced, faced_triangles}
use Rattle.octree_specs.specs.FilledCells.{AreFilledCells}
use Rattle.octree_specs.specs.Meeting.{Meets}
use Rattle.octree_specs.specs.Mesh.{Mesh, fan_of}
use Rattle.octree_specs.specs.NodeCube.{node_cube}
use Rattle.node_merge.specs.Combined.{merged}
use Rattle.node_merge.specs.declared.kinds.MergeKind.TheVariants.{Union}

-- no triangle of a face meets a cell of the grid
abbrev pub TouchesNone : GridShape → List Point → List ℕ → Type 0
TouchesNone grid vertices face = All (λ t. (code : ℕ) → code < 8 ^ grid.depth → Meets t (node_cube grid grid.depth code) → ⊥) (fan_of vertices face)

-- a mesh of these vertices and a run of faces, of which the first has this number; the faces before the run and those behind it touch no cell
pub record IsPiece (grid : GridShape) (vertices : List Point) (number : ℕ) (run : List (List ℕ)) (mesh : Mesh) : Type 0 where
  pub before : List (List ℕ)
  pub behind : List (List ℕ)
  pub many : length before ≡ number
  pub none_before : All (TouchesNone grid vertices) before
  pub none_behind : All (TouchesNone grid vertices) behind
  pub mesh_is : mesh ≡ record { vertices = vertices; faces = before ++ run ++ behind }

-- the union of the cells of pieces is that of their mesh
pub record PiecesJoin : Type 0 where
  -- of triangles whose faces have no greater numbers than those of others: the union of the cells of both is that of all
  pub triangles : (grid : GridShape) (first second : List Faced) (xs ys : List Cell) → All (λ x. All (λ y. x.face ≤ y.face) second) first
      → AreFilledCells grid first xs → AreFilledCells grid second ys → AreFilledCells grid (first ++ second) (merged Union grid.depth xs ys)
  -- a mesh is a piece of all its faces
  pub whole : (grid : GridShape) (mesh : Mesh) → IsPiece grid mesh.vertices 0 mesh.faces mesh
  -- the union of two pieces whose runs follow one another is that of the piece of both runs
  pub join : (grid : GridShape) (vertices : List Point) (number : ℕ) (one two : List (List ℕ)) (first second both : Mesh) (xs ys : List Cell)
      → IsPiece grid vertices number one first → IsPiece grid vertices (number + length one) two second → IsPiece grid vertices number (one ++ two) both
      → AreFilledCells grid (faced_triangles first) xs → AreFilledCells grid (faced_triangles second) ys → AreFilledCells grid (faced_triangles both) (merged Union grid.depth xs ys)
