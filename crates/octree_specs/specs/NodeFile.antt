-- The node file of format 1 of a grid and a set of its cells. All numbers are little-endian.
use Rattle.std.specs.Prelude.{ℕ, List, ◌++◌, length, codes}
use Rattle.std.specs.List.{flat_map}
use Rattle.std.specs.Int.{w32, w64, cast_unsigned, to_le_bytes}
use Rattle.svo_base.specs.GridShape.{GridShape}
use Rattle.octree_specs.specs.NodeWords.{words_of}

-- 48 bytes: the name of the format, the depth, a zero, the origin and the side of a cell
unfoldable pub header_of : GridShape → List ℕ
header_of grid =
    codes "SVOCUBE1" ++ to_le_bytes w32 grid.depth ++ to_le_bytes w32 0
    ++ flat_map (λ o. to_le_bytes w64 (cast_unsigned w64 o)) grid.origin ++ to_le_bytes w64 grid.cell

-- 32 bytes: a zero, the number of records, the number of cells, and the name of the end
unfoldable pub trailer_of : ℕ → ℕ → List ℕ
trailer_of records cells = to_le_bytes w64 0 ++ to_le_bytes w64 records ++ to_le_bytes w64 cells ++ codes "SVOCEND1"

-- the whole file
unfoldable pub image_of : GridShape → List ℕ → List ℕ
image_of grid cells =
    header_of grid ++ flat_map (to_le_bytes w64) (words_of cells grid.depth)
    ++ trailer_of (length (words_of cells grid.depth)) (length cells)
