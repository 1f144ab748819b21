-- The maps that told words stand for, alone and put together.
use Rattle.std.specs.Prelude.{◌≡◌, ℕ, List, Option, Some}
use Rattle.octree_specs.specs.Cells.{Cell}
use Rattle.octree_specs.specs.Formats.{StandFor}
use Rattle.node_file.specs.FileView.{FileView}
use Rattle.node_check.specs.Walks.{face_at}
use Rattle.node_merge.specs.Combined.{face_in, merged, least_under, coarse}
use Rattle.node_merge.specs.declared.kinds.MergeKind.{MergeKind}

-- the file tells its words, and they stand for these cells
pub record IsMapOf (file : FileView) (cells : List Cell) : Type 0 where
  pub words : List ℕ
  pub told : file.words ≡ Some words
  pub stand : StandFor file.format file.grid.depth words cells

-- the cells are those of two files put together
pub record IsMerged (kind : MergeKind) (first second : FileView) (cells : List Cell) : Type 0 where
  pub first_cells : List Cell
  pub first_map : IsMapOf first first_cells
  pub second_cells : List Cell
  pub second_map : IsMapOf second second_cells
  pub cells_are : cells ≡ merged kind first.grid.depth first_cells second_cells

-- the cells are those of a file's map with so many levels less
pub record IsCoarse (file : FileView) (levels : ℕ) (cells : List Cell) : Type 0 where
  pub fine_cells : List Cell
  pub fine_map : IsMapOf file fine_cells
  pub cells_are : cells ≡ coarse levels file.grid.depth fine_cells

-- a function that gives each cell its face in the maps of two files put together
pub record AreMergedFaces (kind : MergeKind) (first second : FileView) (face_of : ℕ → Option ℕ) : Type 0 where
  pub first_cells : List Cell
  pub first_map : IsMapOf first first_cells
  pub second_cells : List Cell
  pub second_map : IsMapOf second second_cells
  pub faces_are : (code : ℕ) → face_of code ≡ face_in kind (face_at first_cells code) (face_at second_cells code)

-- a function that gives each node its face in a file's map with so many levels less
pub record AreCoarseFaces (file : FileView) (levels : ℕ) (face_of : ℕ → Option ℕ) : Type 0 where
  pub fine_cells : List Cell
  pub fine_map : IsMapOf file fine_cells
  pub faces_are : (node : ℕ) → face_of node ≡ least_under levels fine_cells node
