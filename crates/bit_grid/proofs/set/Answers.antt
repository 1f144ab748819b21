use Rattle.bit_grid.proofs.PlacesLemmas.{set_this, set_others}
use Rattle.bit_grid.proofs.set.Goals as goal

pub returns-clause-this : goal.returns-clause-this
returns-clause-this c = set_this c.args.words.now c.args.place c.requires

pub returns-clause-others : goal.returns-clause-others
returns-clause-others c = set_others c.args.words.now c.args.place c.requires
