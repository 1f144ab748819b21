-- The layers so far have their faces, by so many tests.
use Rattle.std.proofs.Common.{◌≡◌, ◌+◌, ◌-◌, ◌*◌, ◌≤◌}
use Rattle.bit_grid.specs.Touched.{AreTouched}
use Rattle.morton_scan.specs.CellBoxes.{MetInBox, places_in}
use Rattle.morton_scan.specs.Putting.{ArePut}
use Rattle.morton_scan.proofs.CellBoxes.{layers}
use Rattle.morton_scan.proofs.box_filling.fill_box.Given as goal

abbrev pub invariant-loop-z : goal.invariant-loop-z
invariant-loop-z g l = record {
  from : l.cells.z.from ≤ l.z;
  most : l.z - l.cells.z.from ≤ places_in l.cells.z;
  put : ArePut (MetInBox l.grid l.put.triangle l.node (layers l.cells l.cells.z.from l.z)) l.put.first l.put.face l.fn.slots l.slots;
  touched : AreTouched l.slots l.blocks;
  tests : l.tests ≡ l.fn.tests + (l.z - l.cells.z.from) * (places_in l.cells.y * places_in l.cells.x);
}
