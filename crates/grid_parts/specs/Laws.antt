-- Parts of a grid and the cells that a mesh fills.
use Rattle.std.specs.Prelude.{◌≡◌, ℕ, ◌+◌, ◌≤◌, true, List, [], ◌∷◌, ◌++◌}
use Rattle.svo_base.specs.GridShape.{GridShape}
use Rattle.octree_specs.specs.Cells.{Cell}
use Rattle.octree_specs.specs.FacedTriangles.{Faced}
use Rattle.octree_specs.specs.FilledCells.{MeetsCell, AreFilledBelow, AreFilledCells, IsSlotOf}
use Rattle.octree_specs.specs.Parcels.{HoldAlike}
use Rattle.octree_specs.specs.Parts.{part_with, is_in_part, part_of}

-- a triangle that meets a cell reaches the cell's part
abbrev pub LiesInPart : Type 0
LiesInPart = (grid : GridShape) (split code : ℕ) (x : Faced) → split ≤ grid.depth → MeetsCell grid code x → is_in_part grid split (part_with grid split code) x ≡ true

-- a cell's slot for the parcels of its part, in any order, is that for all triangles
abbrev pub FillsPart : Type 0
FillsPart = (grid : GridShape) (split code slot : ℕ) (faced stream : List Faced) → split ≤ grid.depth
    → HoldAlike stream (part_of grid split (part_with grid split code) faced) → IsSlotOf grid stream code slot → IsSlotOf grid faced code slot

-- the cells below a bound and the slot of the bound give the cells below the next one
pub record GrowsBySlots : Type 0 where
  pub none : (grid : GridShape) (faced : List Faced) → AreFilledBelow grid faced 0 []
  pub filled : (grid : GridShape) (faced : List Faced) (bound face : ℕ) (cells : List Cell)
      → AreFilledBelow grid faced bound cells → IsSlotOf grid faced bound (face + 1) → AreFilledBelow grid faced (bound + 1) (cells ++ record { code = bound; face = face } ∷ [])
  pub empty : (grid : GridShape) (faced : List Faced) (bound : ℕ) (cells : List Cell)
      → AreFilledBelow grid faced bound cells → IsSlotOf grid faced bound 0 → AreFilledBelow grid faced (bound + 1) cells

-- there is a list of filled cells, and one alone
pub record HaveOneFill : Type 0 where
  pub some : (grid : GridShape) (faced : List Faced) → (cells : List Cell) × AreFilledCells grid faced cells
  pub one : (grid : GridShape) (faced : List Faced) (first second : List Cell) → AreFilledCells grid faced first → AreFilledCells grid faced second → first ≡ second
