use Rattle.morton_scan.proofs.Planes.{side_kept, side_narrow}
use Rattle.morton_scan.proofs.nodes.side.Goals as goal

pub returns-clause-value : goal.returns-clause-value
returns-clause-value c = side_kept c.cell.result c.args.grid.now.cell c.args.grid.now.depth c.args.height c.cell.ensures.value c.requires c.cell.ensures.limits.solid c.cell.ensures.limits.narrow

pub returns-clause-narrow : goal.returns-clause-narrow
returns-clause-narrow c =
    rw (side_kept c.cell.result c.args.grid.now.cell c.args.grid.now.depth c.args.height c.cell.ensures.value c.requires c.cell.ensures.limits.solid c.cell.ensures.limits.narrow)
    (side_narrow c.args.grid.now.cell c.args.grid.now.depth c.args.height c.requires c.cell.ensures.limits.narrow)
