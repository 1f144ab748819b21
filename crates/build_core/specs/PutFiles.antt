-- The node file of the cells that triangles on scratch fill, and what a sink holds of it after a fault.
use Rattle.std.specs.Prelude.{◌≡◌, ℕ, ◌+◌, ◌*◌, ◌≤◌, List, length, Option}
use Rattle.std.specs.Io.KnownBytes.{append_known}
use Rattle.svo_base.specs.GridShape.{GridShape}
use Rattle.octree_specs.specs.Cells.{Cell, AreFacedCells}
use Rattle.octree_specs.specs.FacedTriangles.{Faced}
use Rattle.octree_specs.specs.FilledCells.{AreFilledCells}
use Rattle.octree_specs.specs.Formats.{file_words}
use Rattle.octree_specs.specs.OctreeFile.{image_of}
use Rattle.node_file.specs.Waiting.{GrewByFront}
use Rattle.node_file.specs.declared.records.Totals.{Totals}
use Rattle.build_core.specs.ScratchParts.{HasPartsOf}

-- the whole file of some cells was put behind the bytes before, with at most a move a level for each cell and for the end; they are the cells that those triangles fill whose parts lie on scratch
pub record HasPutFile (grid : GridShape) (split : ℕ) (told : Option (List (List ℕ))) (before after : Option (List ℕ)) (totals : Totals) (moves moved : ℕ) : Type 0 where
  pub cells : List Cell
  pub are : AreFacedCells grid.depth cells
  pub written : after ≡ append_known before (image_of 2 grid cells)
  pub totals_are : totals ≡ record { records = length (file_words 2 grid.depth cells); cells = length cells }
  pub few_moves : moved ≤ moves + grid.depth * (length cells + 1)
  pub filled : (faced : List Faced) → HasPartsOf grid split told faced → AreFilledCells grid faced cells

-- the sink grew by a front of a file of the grid, with at most a move a level for each of its cells and for the end
pub record GrewByFrontOf (grid : GridShape) (Cells : List Cell → Type 0) (before after : Option (List ℕ)) (moves moved : ℕ) : Type 0 where
  pub cells : List Cell
  pub are : Cells cells
  pub front : GrewByFront before after (image_of 2 grid cells)
  pub few_moves : moved ≤ moves + grid.depth * (length cells + 1)

-- of the file of some cells; and of that of all cells that those triangles fill whose parts lie on scratch
pub record HasPutFront (grid : GridShape) (split : ℕ) (told : Option (List (List ℕ))) (before after : Option (List ℕ)) (moves moved : ℕ) : Type 0 where
  pub some : GrewByFrontOf grid (AreFacedCells grid.depth) before after moves moved
  pub filled : (faced : List Faced) → HasPartsOf grid split told faced → GrewByFrontOf grid (AreFilledCells grid faced) before after moves moved
