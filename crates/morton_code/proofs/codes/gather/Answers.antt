use Rattle.morton_code.proofs.Spreads.{gather_is, gather_below}
use Rattle.morton_code.proofs.codes.gather.Goals as goal

pub returns-clause-value : goal.returns-clause-value
returns-clause-value c = gather_is c.args.spread

pub returns-clause-below : goal.returns-clause-below
returns-clause-below c = gather_below c.args.spread
