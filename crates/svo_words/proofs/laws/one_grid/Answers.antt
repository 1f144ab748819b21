use Rattle.svo_words.proofs.OneGrid.{one_grid_is}
use Rattle.svo_words.proofs.laws.one_grid.Goals as goal

pub returns : goal.returns
returns c = one_grid_is
