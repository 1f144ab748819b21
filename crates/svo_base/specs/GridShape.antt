-- A grid, and the limits that every grid meets.
use Rattle.std.specs.Prelude.{◌≡◌, ℕ, ◌*◌, ◌^◌, ◌≤◌, List, length, ℤ, unsigned_abs, All}
use Rattle.svo_base.specs.declared.grids.TheConstants.{MAX_DEPTH}

-- how often the grid is halved until its cells are reached, its lower corner, and a cell's side
pub record GridShape : Type 0 where
  pub depth : ℕ
  pub origin : List ℤ
  pub cell : ℕ

-- the grid meets its limits
pub record IsGrid (grid : GridShape) : Type 0 where
  pub halved : 1 ≤ grid.depth
  pub shallow : grid.depth ≤ MAX_DEPTH
  pub axes : length grid.origin ≡ 3
  pub near : All (λ o. unsigned_abs o ≤ 2 ^ 30) grid.origin
  pub solid : 1 ≤ grid.cell
  pub narrow : grid.cell * 2 ^ grid.depth ≤ 2 ^ 32
