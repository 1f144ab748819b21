-- Nodes that are gathered from their cells, one after another.
use Rattle.std.specs.Prelude.{◌≡◌, ℕ, ◌+◌, ◌-◌, ◌*◌, ◌/◌, ◌^◌, ◌<◌, ◌≤◌, ◌==◌, cond, Option, None, Some}
use Rattle.node_file.specs.FileView.{FileView}
use Rattle.node_check.specs.declared.cursor.FacedCell.{FacedCell}
use Rattle.node_merge.specs.Maps.{AreCoarseFaces}
use Rattle.node_merge.specs.Pushing.{IsFront, IsNextFace}
use Rattle.node_merge.specs.declared.fronts.Front.{Front}

-- a cell's face, where it lies under this node, so many levels higher
abbrev pub face_under : ℕ → ℕ → Option FacedCell → Option ℕ
face_under levels node None = None
face_under levels node (Some cell) = cond (cell.code / 8 ^ levels == node) (Some cell.face) None

-- how many codes there are below a bound from a cell on
abbrev pub codes_left : ℕ → Option FacedCell → ℕ
codes_left bound None = 0
codes_left bound (Some cell) = bound - cell.code

-- it is the first node from one on that has a cell, with the least face of its cells, and the walk stands at the first cell behind it; or there is none
abbrev pub GathersNext : FileView → ℕ → ℕ → Front → Option FacedCell → Type 0
GathersNext file levels from front None = (f : ℕ → Option ℕ) → AreCoarseFaces file levels f → (node : ℕ) → from ≤ node → f node ≡ None
GathersNext file levels from front (Some node) =
    (from ≤ node.code) × (node.code < 8 ^ (file.grid.depth - levels)) × IsNextFace (AreCoarseFaces file levels) from node.code (Some node.face) × IsFront file ((node.code + 1) * 8 ^ levels) front
