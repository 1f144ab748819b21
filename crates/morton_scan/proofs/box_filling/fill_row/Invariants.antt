-- The cells so far have their faces, by so many tests.
use Rattle.std.proofs.Common.{◌≡◌, ◌+◌, ◌-◌, ◌*◌, ◌≤◌}
use Rattle.bit_grid.specs.Touched.{AreTouched}
use Rattle.morton_scan.specs.CellBoxes.{MetInBox, places_in}
use Rattle.morton_scan.specs.Putting.{ArePut}
use Rattle.morton_scan.proofs.CellBoxes.{row_cells}
use Rattle.morton_scan.proofs.box_filling.fill_row.Given as goal

abbrev pub invariant-loop-x : goal.invariant-loop-x
invariant-loop-x g l = record {
  from : l.cells.x.from ≤ l.x;
  most : l.x - l.cells.x.from ≤ places_in l.cells.x;
  put : ArePut (MetInBox l.grid l.put.triangle l.node (row_cells l.cells l.cells.x.from l.x)) l.put.first l.put.face l.fn.slots l.slots;
  touched : AreTouched l.slots l.blocks;
  tests : l.tests ≡ l.fn.tests + (l.x - l.cells.x.from) * (1);
}
