use Rattle.morton_scan.proofs.Levels.{first_shifted}
use Rattle.morton_scan.proofs.filling.first_code.Goals as goal

pub returns : goal.returns
returns c =
    first_shifted c.args.grid.now c.args.split c.args.part c.depth.result c.from.result c.depth.ensures.limits c.requires.split c.requires.part c.depth.ensures.value c.from.ensures
