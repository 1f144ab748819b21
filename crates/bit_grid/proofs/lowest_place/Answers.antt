use Rattle.bit_grid.proofs.PlacesLemmas.{lowest_bit}
use Rattle.bit_grid.proofs.lowest_place.Goals as goal

pub returns : goal.returns
returns c = lowest_bit c.args.word c.args.number c.in_ok-base.base c.from.result c.requires c.ranges.word.fits c.in_ok-base.ensures.1 c.from.ensures
