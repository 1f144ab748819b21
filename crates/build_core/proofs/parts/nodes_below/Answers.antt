use Rattle.morton_scan.proofs.Levels.{power_kept}
use Rattle.build_core.proofs.parts.nodes_below.Goals as goal

pub returns : goal.returns
returns c = power_kept c.args.levels c.requires
