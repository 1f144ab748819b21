use Rattle.bit_grid.proofs.PlacesLemmas.{test_is}
use Rattle.bit_grid.proofs.test.Goals as goal

pub returns : goal.returns
returns c = test_is c.args.words.now c.args.place
