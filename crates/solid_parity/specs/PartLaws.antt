-- The parcels of a part are enough for its solid cells.
use Rattle.std.specs.Prelude.{◌≡◌, ℕ, ◌+◌, ◌-◌, ◌^◌, ◌<◌, ◌≤◌, true, List}
use Rattle.svo_base.specs.GridShape.{GridShape}
use Rattle.octree_specs.specs.FacedTriangles.{Faced}
use Rattle.octree_specs.specs.Parcels.{HoldAlike}
use Rattle.morton_scan.specs.Putting.{first_of_part}
use Rattle.solid_parity.specs.Columns.{is_in_column, column_of}
use Rattle.solid_parity.specs.Parity.{is_over}
use Rattle.solid_parity.specs.SolidParts.{HasParities}

-- a triangle that is over a cell is one that the cell's part needs, and so the slots that the part's parcels give, in any order, are those of all triangles
pub record PartsNeedTheirColumns : Type 0 where
  pub needed : (grid : GridShape) (split part place : ℕ) (x : Faced) → split ≤ grid.depth → place < 8 ^ (grid.depth - split) → is_over grid (first_of_part grid split part + place) x ≡ true → is_in_column grid split part x ≡ true
  pub all : (grid : GridShape) (split part : ℕ) (parcels faced : List Faced) (slots : List ℕ) → split ≤ grid.depth → HoldAlike parcels (column_of grid split part faced) → HasParities grid split part parcels slots
      → HasParities grid split part faced slots
