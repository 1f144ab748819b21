-- The cells of a grid that a mesh fills.
use Rattle.std.specs.Prelude.{ℕ, ◌^◌, ◌<◌, List, All}
use Rattle.std.specs.List.{Any, Contains}
use Rattle.svo_base.specs.GridShape.{GridShape}
use Rattle.svo_base.specs.declared.shapes.Triangle.{Triangle}
use Rattle.octree_specs.specs.Meeting.{Meets}
use Rattle.octree_specs.specs.NodeCube.{node_cube}
use Rattle.octree_specs.specs.NodeWords.{AreCells}

-- some triangle meets the cell's cube
abbrev pub IsFilled : GridShape → List Triangle → ℕ → Type 0
IsFilled grid triangles code = Any (λ t. Meets t (node_cube grid grid.depth code)) triangles

-- the codes of the filled cells, in ascending order
pub record AreFilledCodes (grid : GridShape) (triangles : List Triangle) (cells : List ℕ) : Type 0 where
  pub set : AreCells grid.depth cells
  pub filled : All (IsFilled grid triangles) cells
  pub complete : (code : ℕ) → code < 8 ^ grid.depth → IsFilled grid triangles code → Contains cells code
