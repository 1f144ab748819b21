use Rattle.grid_parts.proofs.Growing.{grows_by_slots}
use Rattle.grid_parts.proofs.laws.cells_grow_slot_by_slot.Goals as goal

pub returns : goal.returns
returns c = grows_by_slots
