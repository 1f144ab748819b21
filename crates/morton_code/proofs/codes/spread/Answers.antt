use Rattle.morton_code.proofs.Spreads.{spread_is}
use Rattle.morton_code.proofs.codes.spread.Goals as goal

pub returns : goal.returns
returns c = rw c.from-by_32.ensures (spread_is c.args.bits c.requires)
