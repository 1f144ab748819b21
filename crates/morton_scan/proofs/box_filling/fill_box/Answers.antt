use Rattle.std.proofs.Common.{◌≡◌, ◌+◌, ◌-◌, ◌*◌, arith, length, sym, subst}
use Rattle.morton_scan.specs.CellBoxes.{places_in}
use Rattle.morton_scan.specs.Nodes.{HasSlots}
use Rattle.morton_scan.proofs.CellBoxes.{all_layers, more_layers, no_layer, layer_under, more_tests, no_tests}
use Rattle.morton_scan.proofs.box_filling.fill_box.Goals as goal

pub loop-z-init : goal.loop-z-init
loop-z-init g c = record {
  from = omega arith;
  most = omega arith;
  put = no_layer c.args.grid.now c.args.put.now.triangle c.args.node.now c.args.cells.now c.args.cells.now.z.from c.args.put.now.first c.args.put.now.face c.args.slots.now;
  touched = c.requires.touched;
  tests = no_tests c.args.tests.now c.args.cells.now.z.from (places_in c.args.cells.now.y * places_in c.args.cells.now.x);
}

pub loop-z-preserved : goal.loop-z-preserved
loop-z-preserved g c = record {
  from = omega (arith, c.loop-z.invariant.from);
  most = omega (arith, c.loop-z.invariant.from, c.loop-z.invariant.most, c.loop-z-test.true);
  put = more_layers c.args.grid.now c.args.put.now.triangle c.args.node.now c.args.cells.now c.args.cells.now.z.from c.loop-z.z c.args.put.now.first c.args.put.now.face c.args.slots.now c.loop-z.slots c.fill_layer.new.slots
      c.loop-z.invariant.from c.loop-z.invariant.put c.fill_layer.ensures.slots;
  touched = c.fill_layer.ensures.touched;
  tests = more_tests c.args.tests.now c.loop-z.tests c.fill_layer.new.tests c.args.cells.now.z.from c.loop-z.z (places_in c.args.cells.now.y * places_in c.args.cells.now.x) c.loop-z.invariant.from c.loop-z.invariant.tests c.fill_layer.ensures.tests;
}

pub returns-clause-slots : goal.returns-clause-slots
returns-clause-slots g c =
    let count : c.loop-z.z - c.args.cells.now.z.from ≡ places_in c.args.cells.now.z = omega (arith, c.loop-z.invariant.from, c.loop-z.invariant.most, c.loop-z-test.false) in
    all_layers c.args.grid.now c.args.put.now.triangle c.args.node.now c.args.cells.now c.loop-z.z c.args.put.now.first c.args.put.now.face c.args.slots.now c.loop-z.slots c.loop-z.invariant.from count c.loop-z.invariant.put

pub returns-clause-tests : goal.returns-clause-tests
returns-clause-tests g c =
    let count : c.loop-z.z - c.args.cells.now.z.from ≡ places_in c.args.cells.now.z = omega (arith, c.loop-z.invariant.from, c.loop-z.invariant.most, c.loop-z-test.false) in
    subst (λ n. c.loop-z.tests ≡ c.args.tests.now + n * (places_in c.args.cells.now.y * places_in c.args.cells.now.x)) count c.loop-z.invariant.tests
