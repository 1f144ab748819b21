use Rattle.solid_parity.proofs.NeededParts.{parts_need_their_columns}
use Rattle.solid_parity.proofs.laws.parts_need_their_columns.Goals as goal

pub returns : goal.returns
returns c = parts_need_their_columns
