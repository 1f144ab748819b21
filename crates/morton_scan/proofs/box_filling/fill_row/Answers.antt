use Rattle.std.proofs.Common.{◌≡◌, ◌+◌, ◌-◌, ◌*◌, arith, length, sym, subst}
use Rattle.morton_scan.specs.CellBoxes.{places_in}
use Rattle.morton_scan.specs.Nodes.{HasSlots}
use Rattle.morton_scan.proofs.CellBoxes.{all_cells, more_cells, no_cell, cell_under, more_tests}
use Rattle.morton_scan.proofs.box_filling.fill_row.Goals as goal

pub loop-x-init : goal.loop-x-init
loop-x-init g c = record {
  from = omega arith;
  most = omega arith;
  put = no_cell c.args.grid.now c.args.put.now.triangle c.args.node.now c.args.cells.now c.args.cells.now.x.from c.args.put.now.first c.args.put.now.face c.args.slots.now;
  touched = c.requires.touched;
  tests = omega arith;
}

pub loop-x-preserved : goal.loop-x-preserved
loop-x-preserved g c = record {
  from = omega (arith, c.loop-x.invariant.from);
  most = omega (arith, c.loop-x.invariant.from, c.loop-x.invariant.most, c.loop-x-test.true);
  put = more_cells c.args.grid.now c.args.put.now.triangle c.args.node.now c.args.cells.now c.args.cells.now.x.from c.loop-x.x c.args.put.now.first c.args.put.now.face c.args.slots.now c.loop-x.slots c.fill_cell.new.slots
      c.loop-x.invariant.from c.loop-x.invariant.put c.fill_cell.ensures.slots;
  touched = c.fill_cell.ensures.touched;
  tests = more_tests c.args.tests.now c.loop-x.tests c.fill_cell.new.tests c.args.cells.now.x.from c.loop-x.x 1 c.loop-x.invariant.from c.loop-x.invariant.tests c.fill_cell.ensures.tests;
}

pub returns-clause-slots : goal.returns-clause-slots
returns-clause-slots g c =
    let count : c.loop-x.x - c.args.cells.now.x.from ≡ places_in c.args.cells.now.x = omega (arith, c.loop-x.invariant.from, c.loop-x.invariant.most, c.loop-x-test.false) in
    all_cells c.args.grid.now c.args.put.now.triangle c.args.node.now c.args.cells.now c.loop-x.x c.args.put.now.first c.args.put.now.face c.args.slots.now c.loop-x.slots c.loop-x.invariant.from count c.loop-x.invariant.put

pub returns-clause-tests : goal.returns-clause-tests
returns-clause-tests g c =
    let count : c.loop-x.x - c.args.cells.now.x.from ≡ places_in c.args.cells.now.x = omega (arith, c.loop-x.invariant.from, c.loop-x.invariant.most, c.loop-x-test.false) in
    omega (arith, count, c.loop-x.invariant.tests)
