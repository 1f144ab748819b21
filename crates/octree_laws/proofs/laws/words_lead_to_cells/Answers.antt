use Rattle.octree_laws.proofs.Statements.{lead_to_cells}
use Rattle.octree_laws.proofs.laws.words_lead_to_cells.Goals as goal

pub returns : goal.returns
returns c = lead_to_cells
