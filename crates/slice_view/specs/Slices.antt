-- The picture of a slice: the layer of cells at one place along an axis. The picture's columns and rows are the cells' places along the two other axes, in the order x, y, z; the row of the greatest place is the uppermost one.
use Rattle.std.specs.Prelude.{ℕ, ◌-◌, ◌*◌, ◌/◌, ◌%◌, ◌^◌, cond, is_some, List, ◌++◌, map}
use Rattle.std.specs.List.{range_with_len}
use Rattle.octree_specs.specs.Cells.{Cell}
use Rattle.octree_specs.specs.NodeCube.{code_of}
use Rattle.node_check.specs.Walks.{face_at}
use Rattle.slice_view.specs.Pictures.{pgm_header}
use Rattle.slice_view.specs.declared.axes.Axis.{Axis}
use Rattle.slice_view.specs.declared.axes.Axis.TheVariants.{X, Y, Z}

-- the code of the layer's cell at these places along the two other axes
abbrev pub cell_in : (depth : ℕ) → Axis → (at column row : ℕ) → ℕ
cell_in depth X at column row = code_of depth at column row
cell_in depth Y at column row = code_of depth column at row
cell_in depth Z at column row = code_of depth column row at

-- white where the cell of a code is filled, and else black
abbrev pub sample_of : List Cell → ℕ → ℕ
sample_of cells code = cond (is_some (face_at cells code)) 255 0

-- the sample of this number, which stands so many samples from the left and so many rows from the top
abbrev pub slice_sample : (depth : ℕ) → Axis → (at : ℕ) → List Cell → (number : ℕ) → ℕ
slice_sample depth axis at cells number = sample_of cells (cell_in depth axis at (number % 2 ^ depth) (2 ^ depth - 1 - number / 2 ^ depth))

-- the picture of an octree's layer, as wide and as high as there are cells along an axis
unfoldable pub slice_picture : (depth : ℕ) → Axis → (at : ℕ) → List Cell → List ℕ
slice_picture depth axis at cells =
    pgm_header (2 ^ depth) (2 ^ depth) ++ map (slice_sample depth axis at cells) (range_with_len 0 (2 ^ depth * 2 ^ depth))
