use Rattle.grid_parts.proofs.PartCells.{fills_part}
use Rattle.grid_parts.proofs.laws.parcels_fill_their_part.Goals as goal

pub returns : goal.returns
returns c = fills_part
