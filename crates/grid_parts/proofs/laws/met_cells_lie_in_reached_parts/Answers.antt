use Rattle.grid_parts.proofs.PartCells.{lies_in_part}
use Rattle.grid_parts.proofs.laws.met_cells_lie_in_reached_parts.Goals as goal

pub returns : goal.returns
returns c = lies_in_part
