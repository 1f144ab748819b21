use Rattle.morton_scan.proofs.Levels.{power_kept}
use Rattle.build_tests.proofs.morton_scan_tests.power_of_8.Goals as goal

pub returns : goal.returns
returns c = power_kept c.args.exponent c.requires
