use Rattle.bit_grid.proofs.PlacesLemmas.{kept_from, cleared_below}
use Rattle.bit_grid.proofs.from_bit.Goals as goal

pub returns-clause-cleared : goal.returns-clause-cleared
returns-clause-cleared c k = cleared_below c.args.word c.args.bit k c.requires

pub returns-clause-kept : goal.returns-clause-kept
returns-clause-kept c k = kept_from c.args.word c.args.bit k c.ranges.word.fits c.requires
