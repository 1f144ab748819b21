use Rattle.std.proofs.Common.{arith}
use Rattle.solid_parity.proofs.BoxColumns.{centre_before, centre_behind}
use Rattle.solid_parity.proofs.spans.centres_below.Goals as goal

pub returns-clause-before : goal.returns-clause-before
returns-clause-before c place =
    centre_before c.args.first.now c.args.coordinate.now c.way_up-way.result c.args.step c.args.side c.min.result place c.requires.step c.way_up-way.ensures.value (omega (arith, c.min.ensures, c.from.ensures))

pub returns-clause-behind : goal.returns-clause-behind
returns-clause-behind c place =
    centre_behind c.args.first.now c.args.coordinate.now c.way_up-way.result c.args.step c.args.side c.min.result place c.requires.step c.way_up-way.ensures.value (omega (arith, c.min.ensures, c.from.ensures))
