use Rattle.std.proofs.Common.{◌≡◌, ◌≤◌, ◌^◌, arith}
use Rattle.morton_scan.proofs.CellBoxes.{widths_within}
use Rattle.morton_scan.proofs.filling.fill_under.Goals as goal

pub count-requires-clause-x : goal.count-requires-clause-x
count-requires-clause-x g c = omega (arith, c.new-cells.ensures.under.x, widths_within c.args.grid.now.depth 20 c.requires.node.shallow)

pub count-requires-clause-y : goal.count-requires-clause-y
count-requires-clause-y g c = omega (arith, c.new-cells.ensures.under.y, widths_within c.args.grid.now.depth 20 c.requires.node.shallow)

pub count-requires-clause-z : goal.count-requires-clause-z
count-requires-clause-z g c = omega (arith, c.new-cells.ensures.under.z, widths_within c.args.grid.now.depth 20 c.requires.node.shallow)

pub fill_few-requires-clause-held : goal.fill_few-requires-clause-held
fill_few-requires-clause-held g c = c.new-cells.ensures.held c.args.put.now.triangle c.requires.bounds
