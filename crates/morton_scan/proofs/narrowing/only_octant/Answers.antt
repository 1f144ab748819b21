use Rattle.morton_scan.proofs.ReachedOctants.{only_unmet}
use Rattle.morton_scan.proofs.narrowing.only_octant.Goals as goal

pub returns-clause-only : goal.returns-clause-only
returns-clause-only c =
    only_unmet c.args.grid.now c.args.node.now c.args.bounds.now c.reached_octants.result c.only.result c.reached_octants.ensures.unmet c.only.ensures.only
