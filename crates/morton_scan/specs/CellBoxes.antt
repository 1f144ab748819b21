-- Cells that lie from one place on to before another along each axis.
use Rattle.std.specs.Prelude.{◌≡◌, ℕ, ◌+◌, ◌-◌, ◌*◌, ◌/◌, ◌^◌, ◌<◌, ◌≤◌}
use Rattle.svo_base.specs.GridShape.{GridShape}
use Rattle.svo_base.specs.declared.shapes.Triangle.{Triangle}
use Rattle.octree_specs.specs.NodeCube.{code_of, coordinate_of}
use Rattle.tri_partition.specs.declared.part_ranges.PartRange.{PartRange}
use Rattle.morton_scan.specs.declared.cell_boxes.CellBox.{CellBox}
use Rattle.morton_scan.specs.declared.nodes.Node.{Node}
use Rattle.morton_scan.specs.Putting.{MetUnder}

abbrev pub IsInRange : PartRange → ℕ → Type 0
IsInRange range place = (range.from ≤ place) × (place < range.to)

-- of the chosen codes, those whose cells lie from one place on to before another along an axis
abbrev pub Along : ℕ → ℕ → ℕ → (ℕ → Type 0) → ℕ → Type 0
Along axis from to Chosen code = (from ≤ coordinate_of axis 20 code) × ((coordinate_of axis 20 code < to) × Chosen code)

-- the cell of this code lies under the node and in the box, and the triangle meets it
abbrev pub MetInBox : GridShape → Triangle → Node → CellBox → ℕ → Type 0
MetInBox grid t node cells =
    Along 2 cells.z.from cells.z.to (Along 1 cells.y.from cells.y.to (Along 0 cells.x.from cells.x.to (MetUnder grid t node.height node.code (node.code + 1))))

-- the cells of the box lie in the grid and under the node
pub record IsBoxUnder (grid : GridShape) (node : Node) (cells : CellBox) : Type 0 where
  pub x : cells.x.to ≤ 2 ^ grid.depth
  pub y : cells.y.to ≤ 2 ^ grid.depth
  pub z : cells.z.to ≤ 2 ^ grid.depth
  pub under : (x y z : ℕ) → IsInRange cells.x x → IsInRange cells.y y → IsInRange cells.z z → code_of 20 x y z / 8 ^ node.height ≡ node.code

-- the cells under the node that the triangle meets all lie in the box
abbrev pub HoldsMet : GridShape → Triangle → Node → CellBox → Type 0
HoldsMet grid t node cells = (code : ℕ) → MetUnder grid t node.height node.code (node.code + 1) code → MetInBox grid t node cells code

abbrev pub places_in : PartRange → ℕ
places_in range = range.to - range.from

-- how many cells the box has
abbrev pub cells_in : CellBox → ℕ
cells_in cells = places_in cells.z * (places_in cells.y * places_in cells.x)

-- one place alone
abbrev pub IsSingle : PartRange → Type 0
IsSingle range = range.to ≡ range.from + 1
