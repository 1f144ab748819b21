-- Filled cells, each with a face of the mesh that fills it.
use Rattle.std.specs.Prelude.{ℕ, ◌-◌, ◌^◌, ◌<◌, ◌≤◌, List, map, All}
use Rattle.std.specs.List.Sorted.{IsStrictlyIncreasing}

-- a cell's code, and the number of its face
pub record Cell : Type 0 where
  pub code : ℕ
  pub face : ℕ

abbrev pub codes_of : List Cell → List ℕ
codes_of cells = map (λ cell. cell.code) cells

-- a map from cells of an octree of this depth to faces, as the list of its pairs in ascending order of codes
pub record AreFacedCells (depth : ℕ) (cells : List Cell) : Type 0 where
  pub ascending : IsStrictlyIncreasing (codes_of cells)
  pub inside : All (λ cell. cell.code < 8 ^ depth) cells
  pub faces : All (λ cell. cell.face ≤ 2 ^ 32 - 2) cells
