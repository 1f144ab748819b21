-- Some rows of a slice that are painted together, and the squares that nodes take up in them.
use Rattle.std.specs.Prelude.{◌≡◌, ℕ, ◌+◌, ◌-◌, ◌*◌, ◌/◌, ◌%◌, ◌^◌, ◌<◌, ◌≤◌, ◌==◌, ◌&&◌, nat_le, min, ⊤, Bool, cond, is_some, List, slice_index, map, Result, Ok, Err}
use Rattle.std.specs.List.{range_with_len}
use Rattle.slice_view.specs.declared.bands.TheConstants.{BAND_EXPONENT}
use Rattle.svo_base.specs.declared.grids.TheConstants.{MAX_DEPTH}
use Rattle.octree_specs.specs.Cells.{Cell}
use Rattle.octree_specs.specs.NodeCube.{coordinate_of}
use Rattle.node_check.specs.Walks.{face_at}
use Rattle.node_check.specs.declared.walking.WalkFault.{WalkFault}
use Rattle.node_check.specs.declared.walking.WalkFault.TheVariants.{Failed, Refused}
use Rattle.slice_view.specs.Slices.{cell_in, sample_of}
use Rattle.slice_view.specs.declared.axes.Axis.{Axis}
use Rattle.slice_view.specs.declared.axes.Axis.TheVariants.{X, Y, Z}
use Rattle.slice_view.specs.declared.bands.Band.{Band}
use Rattle.slice_view.specs.declared.squares.Square.{Square}

-- the number of the axis that a slice goes across, and of those of its columns and rows
abbrev pub across : Axis → ℕ
across X = 0
across Y = 1
across Z = 2

abbrev pub along_columns : Axis → ℕ
along_columns X = 1
along_columns Y = 0
along_columns Z = 0

abbrev pub along_rows : Axis → ℕ
along_rows X = 2
along_rows Y = 2
along_rows Z = 1

abbrev pub band_size : Band → ℕ
band_size band = (band.high - band.low + 1) * 2 ^ band.depth

-- rows of one slice, no more than fit into a block of 4096 samples
pub record IsBand (band : Band) : Type 0 where
  pub halved : 1 ≤ band.depth
  pub shallow : band.depth ≤ MAX_DEPTH
  pub at : band.at < 2 ^ band.depth
  pub some : band.low ≤ band.high
  pub high : band.high < 2 ^ band.depth
  pub fits : band_size band ≤ 4096

-- the code of the cell of a sample of the band
abbrev pub cell_of : Band → ℕ → ℕ
cell_of band number = cell_in band.depth band.axis band.at (number % 2 ^ band.depth) (band.high - number / 2 ^ band.depth)

-- the samples of a band
abbrev pub band_samples : Band → List Cell → List ℕ
band_samples band cells = map (λ number. sample_of cells (cell_of band number)) (range_with_len 0 (band_size band))

-- a node so many levels above the cells, with its place along the three axes among the nodes of its height
pub record IsSquare (depth : ℕ) (axis : Axis) (square : Square) : Type 0 where
  pub within : square.height ≤ depth
  pub code : square.code < 8 ^ (depth - square.height)
  pub layer : square.layer ≡ coordinate_of (across axis) (depth - square.height) square.code
  pub column : square.column ≡ coordinate_of (along_columns axis) (depth - square.height) square.code
  pub row : square.row ≡ coordinate_of (along_rows axis) (depth - square.height) square.code

-- the band shows some cells of the node
abbrev pub crosses : Band → Square → Bool
crosses band square = (band.at / 2 ^ square.height == square.layer) && nat_le (band.low / 2 ^ square.height) square.row && nat_le square.row (band.high / 2 ^ square.height)

-- a sample of a cell that lies here is now that of the cell, if that is filled, and any other sample is as it was
pub record IsPainted (Here : Type 0) (filled : Bool) (old new : ℕ) : Type 0 where
  pub here : Here → new ≡ cond filled 255 old
  pub away : (Here → ⊥) → new ≡ old

-- the filled cells under a row of nodes of one height are painted
abbrev pub ArePainted : Band → List Cell → (height first end : ℕ) → (old new : List ℕ) → Type 0
ArePainted band cells height first end old new =
    (number : ℕ) → number < band_size band →
    IsPainted ((first ≤ cell_of band number / 8 ^ height) × (cell_of band number / 8 ^ height < end)) (is_some (face_at cells (cell_of band number))) (slice_index old number) (slice_index new number)

-- the same where nothing stops it, as a read that fails does
abbrev pub PaintsUnder : Band → List Cell → (height code : ℕ) → (old new : List ℕ) → Result ⊤ WalkFault → Type 0
PaintsUnder band cells height code old new (Ok answer) = ArePainted band cells height code (code + 1) old new
PaintsUnder band cells height code old new (Err Failed) = ⊤
PaintsUnder band cells height code old new (Err (Refused number word)) = ⊥

-- as many rows as a block has room for, and the slice has
abbrev pub rows_of : ℕ → ℕ
rows_of depth = 2 ^ min depth (BAND_EXPONENT - depth)

-- the band of this number from the top
pub record IsBandOf (band : Band) (depth : ℕ) (axis : Axis) (at number : ℕ) : Type 0 where
  pub depth_is : band.depth ≡ depth
  pub axis_is : band.axis ≡ axis
  pub at_is : band.at ≡ at
  pub high_is : band.high ≡ 2 ^ depth - 1 - number * rows_of depth
  pub rows : band.low + rows_of depth ≡ band.high + 1
