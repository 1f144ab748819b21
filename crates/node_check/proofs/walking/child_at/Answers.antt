-- A child that the word has stands behind the node only where not all its children stand before it.
use Rattle.node_check.proofs.Walks.{above_node}
use Rattle.node_check.proofs.walking.child_at.Goals as goal

pub returns-then-number-node-clause-refused : goal.returns-then-number-node-clause-refused
returns-then-number-node-clause-refused g c =
    above_node (g.R.Records.file c.args.nodes.now).words (g.R.Records.file c.args.nodes.now).totals.records c.args.node.now.number c.args.node.now.word c.args.place c.number_of_child-number.result c.requires.own c.requires.octant
    c.requires.bit c.number_of_child-number.ensures c.if-number-node.true
