-- The rows so far have their faces, by so many tests.
use Rattle.std.proofs.Common.{◌≡◌, ◌+◌, ◌-◌, ◌*◌, ◌≤◌}
use Rattle.bit_grid.specs.Touched.{AreTouched}
use Rattle.morton_scan.specs.CellBoxes.{MetInBox, places_in}
use Rattle.morton_scan.specs.Putting.{ArePut}
use Rattle.morton_scan.proofs.CellBoxes.{rows}
use Rattle.morton_scan.proofs.box_filling.fill_layer.Given as goal

abbrev pub invariant-loop-y : goal.invariant-loop-y
invariant-loop-y g l = record {
  from : l.cells.y.from ≤ l.y;
  most : l.y - l.cells.y.from ≤ places_in l.cells.y;
  put : ArePut (MetInBox l.grid l.put.triangle l.node (rows l.cells l.cells.y.from l.y)) l.put.first l.put.face l.fn.slots l.slots;
  touched : AreTouched l.slots l.blocks;
  tests : l.tests ≡ l.fn.tests + (l.y - l.cells.y.from) * (places_in l.cells.x);
}
