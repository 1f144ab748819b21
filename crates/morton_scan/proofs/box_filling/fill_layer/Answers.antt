use Rattle.std.proofs.Common.{◌≡◌, ◌+◌, ◌-◌, ◌*◌, arith, length, sym, subst}
use Rattle.morton_scan.specs.CellBoxes.{places_in}
use Rattle.morton_scan.specs.Nodes.{HasSlots}
use Rattle.morton_scan.proofs.CellBoxes.{all_rows, more_rows, no_row, row_under, more_tests, no_tests}
use Rattle.morton_scan.proofs.box_filling.fill_layer.Goals as goal

pub loop-y-init : goal.loop-y-init
loop-y-init g c = record {
  from = omega arith;
  most = omega arith;
  put = no_row c.args.grid.now c.args.put.now.triangle c.args.node.now c.args.cells.now c.args.cells.now.y.from c.args.put.now.first c.args.put.now.face c.args.slots.now;
  touched = c.requires.touched;
  tests = no_tests c.args.tests.now c.args.cells.now.y.from (places_in c.args.cells.now.x);
}

pub loop-y-preserved : goal.loop-y-preserved
loop-y-preserved g c = record {
  from = omega (arith, c.loop-y.invariant.from);
  most = omega (arith, c.loop-y.invariant.from, c.loop-y.invariant.most, c.loop-y-test.true);
  put = more_rows c.args.grid.now c.args.put.now.triangle c.args.node.now c.args.cells.now c.args.cells.now.y.from c.loop-y.y c.args.put.now.first c.args.put.now.face c.args.slots.now c.loop-y.slots c.fill_row.new.slots
      c.loop-y.invariant.from c.loop-y.invariant.put c.fill_row.ensures.slots;
  touched = c.fill_row.ensures.touched;
  tests = more_tests c.args.tests.now c.loop-y.tests c.fill_row.new.tests c.args.cells.now.y.from c.loop-y.y (places_in c.args.cells.now.x) c.loop-y.invariant.from c.loop-y.invariant.tests c.fill_row.ensures.tests;
}

pub returns-clause-slots : goal.returns-clause-slots
returns-clause-slots g c =
    let count : c.loop-y.y - c.args.cells.now.y.from ≡ places_in c.args.cells.now.y = omega (arith, c.loop-y.invariant.from, c.loop-y.invariant.most, c.loop-y-test.false) in
    all_rows c.args.grid.now c.args.put.now.triangle c.args.node.now c.args.cells.now c.loop-y.y c.args.put.now.first c.args.put.now.face c.args.slots.now c.loop-y.slots c.loop-y.invariant.from count c.loop-y.invariant.put

pub returns-clause-tests : goal.returns-clause-tests
returns-clause-tests g c =
    let count : c.loop-y.y - c.args.cells.now.y.from ≡ places_in c.args.cells.now.y = omega (arith, c.loop-y.invariant.from, c.loop-y.invariant.most, c.loop-y-test.false) in
    subst (λ n. c.loop-y.tests ≡ c.args.tests.now + n * (places_in c.args.cells.now.x)) count c.loop-y.invariant.tests
