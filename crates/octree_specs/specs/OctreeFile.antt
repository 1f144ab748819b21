-- The node files of both formats. All numbers are little-endian.
use Rattle.std.specs.Prelude.{◌≡◌, ℕ, ◌^◌, ◌<◌, ◌==◌, cond, List, ◌++◌, length, codes, All}
use Rattle.std.specs.List.{flat_map}
use Rattle.std.specs.Int.{w32, w64, cast_unsigned, to_le_bytes}
use Rattle.svo_base.specs.GridShape.{GridShape, IsGrid}
use Rattle.octree_specs.specs.Cells.{Cell}
use Rattle.octree_specs.specs.Formats.{IsFormat, AreCellsIn, file_words}

-- 48 bytes: the name of the format, the depth, a zero, the origin and the side of a cell
unfoldable pub header_of : ℕ → GridShape → List ℕ
header_of format grid =
    cond (format == 1) (codes "SVOCUBE1") (codes "SVOCUBE2") ++ to_le_bytes w32 grid.depth ++ to_le_bytes w32 0
    ++ flat_map (λ o. to_le_bytes w64 (cast_unsigned w64 o)) grid.origin ++ to_le_bytes w64 grid.cell

-- 32 bytes: a zero, the number of words, the number of cells, and the name of the format's end
unfoldable pub trailer_of : ℕ → ℕ → ℕ → List ℕ
trailer_of format records cells =
    to_le_bytes w64 0 ++ to_le_bytes w64 records ++ to_le_bytes w64 cells ++ cond (format == 1) (codes "SVOCEND1") (codes "SVOCEND2")

-- words between a header and a trailer, which says how many words there are, and a number of cells
unfoldable pub frame_of : ℕ → GridShape → List ℕ → ℕ → List ℕ
frame_of format grid words cells = header_of format grid ++ flat_map (to_le_bytes w64) words ++ trailer_of format (length words) cells

-- the bytes are so framed, whatever words and number of cells they have
pub record IsFramed (format : ℕ) (grid : GridShape) (words : List ℕ) (cells : ℕ) (bytes : List ℕ) : Type 0 where
  pub known : IsFormat format
  pub limits : IsGrid grid
  pub some : 0 < length words
  pub few : length words < 2 ^ 64
  pub wide : All (λ word. word < 2 ^ 64) words
  pub count : cells < 2 ^ 64
  pub frame : bytes ≡ frame_of format grid words cells

-- the whole file of a grid and its cells
unfoldable pub image_of : ℕ → GridShape → List Cell → List ℕ
image_of format grid cells = frame_of format grid (file_words format grid.depth cells) (length cells)

-- the bytes are the file, in this format, of this grid and these cells
pub record IsFileOf (format : ℕ) (grid : GridShape) (cells : List Cell) (bytes : List ℕ) : Type 0 where
  pub limits : IsGrid grid
  pub cells_are : AreCellsIn format grid.depth cells
  pub image : bytes ≡ image_of format grid cells

-- the bytes are the file, in some format, of some grid and some of its cells
pub record IsNodeFile (bytes : List ℕ) : Type 0 where
  pub format : ℕ
  pub grid : GridShape
  pub cells : List Cell
  pub file : IsFileOf format grid cells bytes
