use Rattle.solid_parity.proofs.Growing.{solid_cells_grow}
use Rattle.solid_parity.proofs.laws.solid_cells_grow_one_by_one.Goals as goal

pub returns : goal.returns
returns c = solid_cells_grow
