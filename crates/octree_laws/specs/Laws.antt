-- Laws of the words and the files of octrees.
use Rattle.std.specs.Prelude.{◌≡◌, ◌↔◌, ℕ, ◌+◌, ◌<◌, ◌≤◌, List, [], ◌++◌, length, None}
use Rattle.svo_base.specs.GridShape.{GridShape}
use Rattle.octree_specs.specs.Cells.{Cell, codes_of, AreFacedCells}
use Rattle.octree_specs.specs.Checking.{refused_in}
use Rattle.octree_specs.specs.Formats.{IsFormat, StandFor, face_leaves, file_words}
use Rattle.octree_specs.specs.NodeFile as plain_file
use Rattle.octree_specs.specs.OctreeFile.{IsFramed, IsFileOf, IsNodeFile, image_of}
use Rattle.octree_specs.specs.Walking.{HasTree, HasMasks}

-- the words of a file lead from the root, whose word is the last, to its cells: by masks in either format, and in format 2 to each cell's own word
pub record LeadToCells : Type 0 where
  pub masks : (format depth number : ℕ) (words : List ℕ) (cells : List Cell) → 1 ≤ depth → StandFor format depth words cells → length words ≡ number + 1
      → HasMasks words cells depth 0 number
  pub faces : (depth number : ℕ) (words : List ℕ) (cells : List Cell) → 1 ≤ depth → StandFor 2 depth words cells → length words ≡ number + 1
      → HasTree words (face_leaves cells) depth 0 number

-- a file has one format, one grid and one list of cells
pub record AreOneFile (f g : ℕ) (grid other : GridShape) (xs ys : List Cell) : Type 0 where
  pub formats : f ≡ g
  pub grids : grid ≡ other
  pub cells : xs ≡ ys

-- words stand for at most one list of cells, and bytes are at most one file; each node file is framed
pub record StandForOne : Type 0 where
  pub words : (format depth : ℕ) (words : List ℕ) (xs ys : List Cell) → 1 ≤ depth → StandFor format depth words xs → StandFor format depth words ys → xs ≡ ys
  pub bytes : (bytes : List ℕ) (f g : ℕ) (grid other : GridShape) (xs ys : List Cell) → IsFileOf f grid xs bytes → IsFileOf g other ys bytes → AreOneFile f g grid other xs ys
  pub framed : (format : ℕ) (grid : GridShape) (cells : List Cell) (bytes : List ℕ) → IsFileOf format grid cells bytes
      → IsFramed format grid (file_words format grid.depth cells) (length cells) bytes

-- no node file is a proper front of another
abbrev pub AreNoFronts : Type 0
AreNoFronts = (front rest : List ℕ) → IsNodeFile front → IsNodeFile (front ++ rest) → rest ≡ []

-- the file of a set of codes is that of format 1 of its cells
abbrev pub SetsHaveFormatOne : Type 0
SetsHaveFormatOne = (grid : GridShape) (cells : List Cell) → 1 ≤ grid.depth → AreFacedCells grid.depth cells
    → plain_file.image_of grid (codes_of cells) ≡ image_of 1 grid cells

-- the words stand for so many cells
pub record StandForMany (format depth : ℕ) (words : List ℕ) (count : ℕ) : Type 0 where
  pub cells : List Cell
  pub stand : StandFor format depth words cells
  pub count_is : length cells ≡ count

-- the checker refuses no number exactly where the words stand for some cells, as many as it is told, and so exactly where the framed bytes are a node file
pub record AreAcceptedExactly : Type 0 where
  pub words : (format depth count : ℕ) (words : List ℕ) → IsFormat format → 1 ≤ depth → 0 < length words
      → (refused_in format depth words count ≡ None) ↔ StandForMany format depth words count
  pub bytes : (format : ℕ) (grid : GridShape) (words : List ℕ) (count : ℕ) (bytes : List ℕ) → IsFramed format grid words count bytes
      → (refused_in format grid.depth words count ≡ None) ↔ IsNodeFile bytes
