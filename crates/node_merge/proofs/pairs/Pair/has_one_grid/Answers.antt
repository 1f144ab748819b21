-- Grids are compared by their fields.
use Rattle.node_merge.proofs.OneGrid.{one_grid}
use Rattle.node_merge.proofs.pairs.Pair.has_one_grid.Goals as goal

pub returns : goal.returns
returns g c = record { grids = one_grid c.eq.result c.args.self.now.second.frame.grid c.args.self.now.first.frame.grid c.eq.ensures }
