use Rattle.grid_parts.proofs.Growing.{have_one_fill}
use Rattle.grid_parts.proofs.laws.filled_cells_are_one_list.Goals as goal

pub returns : goal.returns
returns c = have_one_fill
