-- What holds of all nearest cells.
use Rattle.std.specs.Prelude.{◌≡◌, List, ℤ, Option}
use Rattle.svo_base.specs.GridShape.{GridShape}
use Rattle.octree_specs.specs.Cells.{Cell}
use Rattle.near_query.specs.Nearest.{IsNearest}
use Rattle.near_query.specs.declared.cells.NearCell.{NearCell}

-- a point, a grid and cells have one nearest cell at most
abbrev pub HaveOneNearest : Type 0
HaveOneNearest = (point : List ℤ) (grid : GridShape) (cells : List Cell) (first second : Option NearCell) → IsNearest point grid cells first → IsNearest point grid cells second → first ≡ second
