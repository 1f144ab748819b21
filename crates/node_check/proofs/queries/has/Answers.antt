-- The word of the node just above has a bit for the cell.
use Rattle.std.proofs.Common.{Ok, subst}
use Rattle.node_check.specs.Walks.{IsWordOf, IfWalked}
use Rattle.node_check.proofs.Walks.{Walked, has_node}
use Rattle.node_check.proofs.queries.has.Goals as goal

pub returns-in-Some-clause-told : goal.returns-in-Some-clause-told
returns-in-Some-clause-told g c =
    has_node (g.R.Records.file c.args.nodes.now).format (g.R.Records.file c.args.nodes.now).grid.depth c.args.code (g.R.Records.file c.args.nodes.now).totals.records (g.R.Records.file c.args.nodes.now).words
    c.in-Some.node c.has_bit.result
    (subst (λ o. IfWalked (Ok o) (λ node. IsWordOf (g.R.Records.file c.args.nodes.now).words (g.R.Records.file c.args.nodes.now).totals.records node.number node.word)) c.in-Some.is c.in_ok-walk_to.ensures.word)
    c.has_bit.ensures
    (subst (λ o. Walked (g.R.Records.file c.args.nodes.now).words (g.R.Records.file c.args.nodes.now).format (g.R.Records.file c.args.nodes.now).grid.depth c.args.code (Ok o)) c.in-Some.is c.in_ok-walk_to.ensures.told)
