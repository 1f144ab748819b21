-- The cells of a grid that a mesh fills, each with the least face that does.
use Rattle.std.specs.Prelude.{◌≡◌, ℕ, ◌+◌, ◌^◌, ◌<◌, ◌≤◌, List, All}
use Rattle.std.specs.List.{Any, Contains}
use Rattle.std.specs.List.Sorted.{IsStrictlyIncreasing}
use Rattle.svo_base.specs.GridShape.{GridShape}
use Rattle.octree_specs.specs.Cells.{Cell, codes_of}
use Rattle.octree_specs.specs.FacedTriangles.{Faced}
use Rattle.octree_specs.specs.Meeting.{Meets}
use Rattle.octree_specs.specs.NodeCube.{node_cube}

-- a triangle meets the cube of a cell
abbrev pub MeetsCell : GridShape → ℕ → Faced → Type 0
MeetsCell grid code x = Meets x.triangle (node_cube grid grid.depth code)

-- a triangle of this face meets the cell, and none of a lesser face does
pub record IsLeastFace (grid : GridShape) (faced : List Faced) (code face : ℕ) : Type 0 where
  pub met : Any (λ x. (x.face ≡ face) × MeetsCell grid code x) faced
  pub least : All (λ x. MeetsCell grid code x → face ≤ x.face) faced

-- the filled cells whose codes are below a bound, in ascending order of their codes, each with its least face
pub record AreFilledBelow (grid : GridShape) (faced : List Faced) (bound : ℕ) (cells : List Cell) : Type 0 where
  pub ascending : IsStrictlyIncreasing (codes_of cells)
  pub inside : All (λ cell. cell.code < bound) cells
  pub faces : All (λ cell. IsLeastFace grid faced cell.code cell.face) cells
  pub complete : (code : ℕ) → code < bound → Any (MeetsCell grid code) faced → Contains (codes_of cells) code

-- all filled cells of the grid
abbrev pub AreFilledCells : GridShape → List Faced → List Cell → Type 0
AreFilledCells grid faced cells = AreFilledBelow grid faced (8 ^ grid.depth) cells

-- what a slot keeps of a cell: 0 where no triangle meets it, else one more than the least face that does
pub record IsSlotOf (grid : GridShape) (faced : List Faced) (code slot : ℕ) : Type 0 where
  pub none : slot ≡ 0 → All (λ x. MeetsCell grid code x → ⊥) faced
  pub some : (face : ℕ) → slot ≡ face + 1 → IsLeastFace grid faced code face
