use Rattle.morton_code.proofs.Heights.{height_divides, height_is_greatest}
use Rattle.morton_code.proofs.runs.alignment.Goals as goal

pub returns-clause-divides : goal.returns-clause-divides
returns-clause-divides c height within = height_divides c.args.code height c.ranges.code.fits within

pub returns-clause-greatest : goal.returns-clause-greatest
returns-clause-greatest c height low multiple = height_is_greatest c.args.code height c.ranges.code.fits low multiple
